use Rattle.std.proofs.Common.{rules, get_or, ap, ◌∙◌}
use Rattle.words.proofs.Words.{byte_low}
use Rattle.fields.specs.Doubling.{doubled}
use Rattle.fields.specs.Mixing.{mixed_bytes, mixed}
use Rattle.fields.proofs.Mapped.{mapped_bytes}
use Rattle.fields.proofs.Mixes.{mixing_returns}
use Rattle.fields.proofs.mixing.mix.Goals as goal

pub returns : goal.returns
unfolding mixed_bytes mixed
returns c =
    let bytes = c.to_be_bytes-bytes.ensures in
    let b0 = ap (λ bs. get_or bs 0 0) bytes in
    let b1 = ap (λ bs. get_or bs 1 0) bytes in
    let b2 = ap (λ bs. get_or bs 2 0) bytes in
    let b3 = ap (λ bs. get_or bs 3 0) bytes ∙ byte_low c.args.word in
    let (d0, d1, d2, d3) = mapped_bytes _ (doubled c.args.tap) _ _ _ (λ x y q called. (search rules, search rules)) c.args.word bytes c.map.ensures.items in
    record { value = cc; four_times = mixing_returns }
