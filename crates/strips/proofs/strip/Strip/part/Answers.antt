use Rattle.std.proofs.Common.{◌≡◌, ℕ, ◌+◌, ◌-◌, ◌*◌, Bool, List, take, drop, sym, refl, ap, ◌∙◌, arith}
use Rattle.strips.specs.Reading.{words_for, all_zero, filled}
use Rattle.strips.proofs.strip.Strip.part.Goals as goal

filling : (strip : List ℕ) (word count words : ℕ) (r : Bool) → words ≡ words_for count → r ≡ all_zero (take (4 * (word + words) - (4 * word + count)) (drop (4 * word + count) strip)) → filled strip word count ≡ r
unfolding filled
filling strip word count words r e is =
    let size : 4 * (word + words) - (4 * word + count) ≡ 4 * words_for count - count = omega arith in
    sym (is ∙ ap (λ n. all_zero (take n (drop (4 * word + count) strip))) size)

pub returns-then-not-is_zero : goal.returns-then-not-is_zero
returns-then-not-is_zero c = (filling c.args.self.now.bytes.now c.args.word c.args.count c.words_for.result c.is_zero.result c.words_for.ensures c.is_zero.ensures ∙ c.if-not-is_zero.true, refl)

pub returns : goal.returns
returns c =
    let strip = c.args.self.now.bytes.now in
    let word = c.args.word in
    let count = c.args.count in
    let size : 4 * word + count - 4 * word ≡ count = omega arith in
    (filling strip word count c.words_for.result c.is_zero.result c.words_for.ensures c.is_zero.ensures ∙ c.if-not-is_zero.false, ap (λ n. take n (drop (4 * word) strip)) size)
