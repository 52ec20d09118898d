use Rattle.std.proofs.Common.{arith}
use Rattle.words.proofs.Words.{all_from_each}
use Rattle.words.proofs.are_bytes.Goals as goal

pub returns : goal.returns
returns c = all_from_each 256 c.args.bytes.now (λ i. omega (arith, c.type_inv.bytes i))
