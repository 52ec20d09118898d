use Rattle.std.proofs.Common.{ℕ, ◌≡◌, List, ◌∷◌, ◌<◌, zero, suc, take, length, slice_index_or, sym, refl, ◌∙◌, arith, rules}
use Rattle.std.proofs.lemmas.List.FromFn.{fill_by_all}
use Rattle.std.proofs.lemmas.List.{get_or-take}
use Rattle.words.proofs.FromFn.{from_fn_same}
use Rattle.snow.proofs.register.unshifted.Goals as goal

each : (old : ℕ) (words : List ℕ) (k : ℕ) → k < 16 → slice_index_or (old ∷ take 15 words) k 0 ≡ slice_index_or (old ∷ words) k 0
each old words zero below = refl
each old words (suc k) below = get_or-take 15 words k 0 (omega arith)

long : (old : ℕ) (words : List ℕ) → length words ≡ 16 → length (old ∷ take 15 words) ≡ 16
long old words is = grind (arith, is)

pub returns : goal.returns
returns c =
    let words = c.args.words in
    let old = c.over_alpha-old.result in
    let value : ℕ → ℕ = λ place. slice_index_or (old ∷ words) place 0 in
    let made = from_fn_same _ value _ (λ i y q called. grind (arith, called.met)) 0 c.from_fn.result 16 c.from_fn.ensures.items in
    made ∙ sym (fill_by_all value (old ∷ take 15 words) 16 0 (long old words (search rules)) (each old words)) ∙ search rules
