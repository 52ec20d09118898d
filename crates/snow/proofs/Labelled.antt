-- The four bytes of a word, found by its number. Assumes nothing.
use Rattle.std.proofs.Common.{◌≡◌, ℕ, zero, suc, ◌+◌, ◌-◌, ◌*◌, ◌/◌, ◌<◌, ◌≤◌, List, [], ◌∷◌, length, get_or, take, drop, sym, refl, ap, ◌∙◌, arith}
use Rattle.std.proofs.lemmas.List.{get_or-reverse}
use Rattle.words.specs.Words.{words_of}
use Rattle.words.proofs.Bytes.{length_words}
use Rattle.snow.specs.Register.{at, numbered}
use Rattle.snow.specs.Labels.{place}

-- four bytes after some whole words are one word
pub word_of_part : (bs : List ℕ) (j : ℕ) → 4 * j + 4 ≤ length bs → words_of (take 4 (drop (4 * j) bs)) ≡ get_or (words_of bs) j 0 ∷ []
word_of_part [] j h = absurd (omega arith)
word_of_part (a ∷ []) j h = absurd (omega arith)
word_of_part (a ∷ b ∷ []) j h = absurd (omega arith)
word_of_part (a ∷ b ∷ c ∷ []) j h = absurd (omega arith)
word_of_part (a ∷ b ∷ c ∷ d ∷ bs) zero h = refl
word_of_part (a ∷ b ∷ c ∷ d ∷ bs) (suc j) h =
    let e : 4 * suc j ≡ suc (suc (suc (suc (4 * j)))) = omega arith in
    rw e (word_of_part bs j (omega arith))

-- the bytes at the place of word i are the word that loading takes as word i
pub word_at_place : (n : ℕ) (bs : List ℕ) (i : ℕ) → length bs ≡ 4 * n → i < n → words_of (take 4 (drop (place bs i) bs)) ≡ at (numbered bs) i ∷ []
word_at_place n bs i len low =
    let count = length_words n bs len in
    let same : length bs / 4 - 1 - i ≡ length (words_of bs) - 1 - i = omega arith in
    word_of_part bs (length bs / 4 - 1 - i) (omega arith)
    ∙ ap (λ j. get_or (words_of bs) j 0 ∷ []) same
    ∙ ap (λ w. w ∷ []) (sym (get_or-reverse (words_of bs) i 0 (omega arith)))
