use Rattle.snow.proofs.Examples.{specimens}
use Rattle.snow.proofs.specimens.specimens_hold.Goals as goal

pub returns : goal.returns
returns c = specimens
