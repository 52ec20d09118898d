use Rattle.fields.specs.Doubling.{doubled, doublings}
use Rattle.fields.specs.Alpha.{times_beta, div_alpha}
use Rattle.std.proofs.Common.{refl}
use Rattle.fields.proofs.Entries.{by_test}
use Rattle.fields.proofs.alpha.div_alpha_entry.Goals as goal

pub returns : goal.returns
unfolding doubled doublings times_beta div_alpha
returns c = c.entry.ensures div_alpha (by_test div_alpha div_alpha (λ k h. refl) _ refl refl)
