-- The byte boxes SR and SQ, and what undoes a box. Assumes nothing.
use Rattle.std.specs.Prelude.{ℕ, zero, suc, ◌+◌, ◌-◌, ◌*◌, ◌/◌, ◌%◌, ◌^◌, true, false, ◌==◌}
use Rattle.words.specs.Words.{◌⊕◌}
use Rattle.fields.specs.Doubling.{power}

-- the byte b rotated left by k bits
unfoldable pub rotated : ℕ → ℕ → ℕ
rotated k b = b * 2 ^ k % 256 + b / 2 ^ (8 - k)

-- b joined with its rotations and 63 (FIPS 197, 5.1.1)
unfoldable pub affine : ℕ → ℕ
affine b = b ⊕ rotated 1 b ⊕ rotated 2 b ⊕ rotated 3 b ⊕ rotated 4 b ⊕ 0x63

-- the Rijndael box: the power 254 in the field of 1B, which is the inverse, or 0 for 0 (FIPS 197, 5.1.1; SUB of ISO/IEC 18033-4:2005, 7.1.7)
unfoldable pub sr : ℕ → ℕ
sr v = affine (power 0x1B v 254)

-- the Dickson box: nine powers in the field of 69, and 25 (ETSI/SAGE SNOW 3G 256 v0.3, annex 1, 1.3)
unfoldable pub sq : ℕ → ℕ
sq v =
    power 0x69 v 1 ⊕ power 0x69 v 9 ⊕ power 0x69 v 13 ⊕ power 0x69 v 15 ⊕ power 0x69 v 33 ⊕ power 0x69 v 41 ⊕ power 0x69 v 45
    ⊕ power 0x69 v 47 ⊕ power 0x69 v 49 ⊕ 0x25

-- the greatest number below n that f takes to v, and 0 where there is none
unfoldable pub search_below : ℕ → (ℕ → ℕ) → ℕ → ℕ
search_below zero f v = 0
search_below (suc n) f v = elim (f n == v) [ true ↦ n | false ↦ search_below n f v ]

-- the byte that a box takes to v
unfoldable pub undone : (ℕ → ℕ) → ℕ → ℕ
undone box v = search_below 256 box v
