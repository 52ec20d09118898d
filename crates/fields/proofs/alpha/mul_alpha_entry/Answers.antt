use Rattle.fields.specs.Doubling.{doubled, doublings}
use Rattle.fields.specs.Alpha.{times_beta, mul_alpha}
use Rattle.std.proofs.Common.{refl}
use Rattle.fields.proofs.Entries.{by_test}
use Rattle.fields.proofs.alpha.mul_alpha_entry.Goals as goal

pub returns : goal.returns
unfolding doubled doublings times_beta mul_alpha
returns c = c.entry.ensures mul_alpha (by_test mul_alpha mul_alpha (λ k h. refl) _ refl refl)
