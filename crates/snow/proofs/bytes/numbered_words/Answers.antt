use Rattle.std.proofs.Common.{ℕ, ◌-◌, ◌<◌, get_or, reverse, subst, sym, ap, ◌∙◌, arith}
use Rattle.std.proofs.lemmas.List.{length-reverse, get_or-reverse}
use Rattle.std.proofs.lemmas.List.FromFn.{fill_by_all}
use Rattle.words.specs.Words.{words_of, word_at}
use Rattle.words.proofs.Bytes.{length_words}
use Rattle.words.proofs.FromFn.{from_fn_same}
use Rattle.snow.proofs.bytes.numbered_words.Goals as goal

pub returns : goal.returns
unfolding word_at
returns g c =
    let n = g.row.N in
    let words = words_of c.args.bytes.now in
    let value : ℕ → ℕ = λ place. word_at c.args.bytes.now (n - 1 - place) in
    let long = length_words n c.args.bytes.now c.requires in
    let made = from_fn_same _ value _ (λ i y q called. grind (arith, called.met)) 0 c.from_fn.result n c.from_fn.ensures.items in
    let turned = fill_by_all value (reverse words) n 0 (length-reverse words ∙ long) (λ k below. get_or-reverse words k 0 (subst (λ m. k < m) (sym long) below) ∙ ap (λ m. get_or words (m - 1 - k) 0) long) in
    made ∙ sym turned
