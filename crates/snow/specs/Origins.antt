-- What origin reads off a register before the first step. Assumes nothing.
use Rattle.std.specs.Prelude.{◌≡◌, ℕ, ◌*◌, List, [], ◌∷◌, ◌++◌, map, reverse, take, drop, Some, None, Option}
use Rattle.words.specs.Words.{◌⊕◌, words_bytes}
use Rattle.snow.specs.Register.{at}
use Rattle.snow.specs.Loading.{inverted, expanded, with_iv}

-- a key of n words, by the inverses of its words
abbrev pub key_in : ℕ → List ℕ → List ℕ
key_in n a = map inverted (take n a)

-- the IV that is joined to words of the expanded key e
abbrev pub iv_in : List ℕ → List ℕ → List ℕ
iv_in e a = (at a 15 ⊕ at e 15) ∷ (at a 12 ⊕ at e 12) ∷ (at a 10 ⊕ at e 10) ∷ (at a 9 ⊕ at e 9) ∷ []

-- the IV beside a key of n words
abbrev pub iv_beside : ℕ → List ℕ → List ℕ
iv_beside n a = iv_in (expanded (key_in n a)) a

-- the register holds a key of n words and an IV: it is made of what is read off it
abbrev pub Holds : ℕ → List ℕ → Type 0
Holds n a = with_iv (expanded (key_in n a)) (iv_beside n a) ≡ a

-- numbered words as bytes, the highest word first
abbrev pub unnumbered : List ℕ → List ℕ
unnumbered ws = words_bytes (reverse ws)

-- What a register before the first step is asked for: the key of n words and the IV that it holds, at the front of two buffers, with their
-- lengths; or that it holds none, and then nothing is written.
abbrev pub Read : ℕ → List ℕ → Option (ℕ × ℕ) → List ℕ → List ℕ → List ℕ → List ℕ → Type 0
Read n a None key iv key_after iv_after = (Holds n a → ⊥) × (key_after ≡ key) × (iv_after ≡ iv)
Read n a (Some lengths) key iv key_after iv_after =
    Holds n a × (lengths ≡ (4 * n, 16))
    × (key_after ≡ unnumbered (key_in n a) ++ drop (4 * n) key) × (iv_after ≡ unnumbered (iv_beside n a) ++ drop 16 iv)
