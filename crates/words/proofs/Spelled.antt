-- A list of known length, written out element by element. Assumes nothing.
use Rattle.std.proofs.Common.{◌≡◌, ℕ, zero, suc, ◌+◌, ◌<◌, ◌≤◌, List, [], ◌∷◌, ◌++◌, length, get_or, drop, sym, refl, ap, ◌∙◌, subst, arith}
use Rattle.words.specs.Words.{AllBelow}

-- n elements from place i on
abbrev pub spell : ℕ → ℕ → List ℕ → List ℕ
spell zero i xs = []
spell (suc n) i xs = get_or xs i 0 ∷ spell n (suc i) xs

spell_rest : (n i x : ℕ) (xs : List ℕ) → spell n (suc i) (x ∷ xs) ≡ spell n i xs
spell_rest zero i x xs = refl
spell_rest (suc n) i x xs = ap (λ ys. get_or xs i 0 ∷ ys) (spell_rest n (suc i) x xs)

pub spelled : (n : ℕ) (xs : List ℕ) → length xs ≡ n → xs ≡ spell n 0 xs
spelled zero [] h = refl
spelled zero (x ∷ xs) h = absurd (omega arith)
spelled (suc n) [] h = absurd (omega arith)
spelled (suc n) (x ∷ xs) h = ap (λ ys. x ∷ ys) (spelled n xs (omega arith) ∙ sym (spell_rest n 0 x xs))

-- a property of n elements that are written out
pub by_words : (n : ℕ) (P : List ℕ → Type 0) (xs : List ℕ) → length xs ≡ n → P (spell n 0 xs) → P xs
by_words n P xs len = subst P (sym (spelled n xs len))

-- the first n elements written out, and the rest
pub spelled_front : (n : ℕ) (xs : List ℕ) → n ≤ length xs → xs ≡ spell n 0 xs ++ drop n xs
spelled_front zero xs h = refl
spelled_front (suc n) [] h = absurd (omega arith)
spelled_front (suc n) (x ∷ xs) h = ap (λ ys. x ∷ ys) (spelled_front n xs (omega arith) ∙ ap (λ ys. ys ++ drop n xs) (sym (spell_rest n 0 x xs)))

-- the elements behind the first i, written out
pub spelled_behind : (i n : ℕ) (xs : List ℕ) → length xs ≡ i + n → drop i xs ≡ spell n i xs
spelled_behind zero n xs h = spelled n xs (omega (arith, h))
spelled_behind (suc i) n [] h = absurd (omega arith)
spelled_behind (suc i) n (x ∷ xs) h = spelled_behind i n xs (omega arith) ∙ sym (spell_rest n i x xs)

pub fits_spell : (b n i : ℕ) (xs : List ℕ) → ((k : ℕ) → get_or xs k 0 < b) → AllBelow b (spell n i xs)
fits_spell b zero i xs all = tt
fits_spell b (suc n) i xs all = (all i, fits_spell b n (suc i) xs all)
