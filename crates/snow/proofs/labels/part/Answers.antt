use Rattle.std.proofs.Common.{◌≡◌, ◌+◌, ◌-◌, ◌/◌, length, take, drop, ap, ◌∙◌, arith}
use Rattle.words.specs.Words.{words_of}
use Rattle.snow.specs.Labels.{place}
use Rattle.snow.proofs.Labelled.{word_at_place}
use Rattle.snow.proofs.labels.part.Goals as goal

pub returns : goal.returns
returns c =
    let bs = c.args.bytes.now in
    let i = c.args.i in
    let four : place bs i + 4 - place bs i ≡ 4 = omega arith in
    let bytes = ap (λ k. take k (drop (place bs i) bs)) four in
    (bytes, ap words_of bytes ∙ word_at_place (length bs / 4) bs i (omega (arith, c.requires)) (omega (arith, c.requires)))
