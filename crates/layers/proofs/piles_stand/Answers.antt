use Rattle.layers.proofs.PilesStand.{piles}
use Rattle.layers.proofs.piles_stand.Goals as goal

pub returns : goal.returns
returns c = piles
