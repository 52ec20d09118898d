-- Byte fields. A field of 256 elements is given by its tap byte: what is joined where doubling shifts a bit out. Assumes nothing.
use Rattle.std.specs.Prelude.{ℕ, zero, suc, ◌*◌, ◌/◌, ◌%◌, cond, ◌==◌, nat_lt}
use Rattle.words.specs.Words.{◌⊕◌}

-- the byte v shifted left by one, the bit shifted out dropped, and joined with the tap byte c where that bit was 1
-- (MULx of ETSI/SAGE SNOW 3G 256 v0.3, 3.1.1)
unfoldable pub doubled : ℕ → ℕ → ℕ
doubled c v = (v * 2 % 256) ⊕ cond (nat_lt v 128) 0 c

-- n doublings (MULxPOW of ETSI/SAGE SNOW 3G 256 v0.3, 3.1.2)
unfoldable pub doublings : ℕ → ℕ → ℕ → ℕ
doublings c zero v = v
doublings c (suc n) v = doubled c (doublings c n v)

-- the product of a with the low n bits of b: a is joined for the lowest bit of b, twice a for the next, and so on
unfoldable pub partial_product : ℕ → ℕ → ℕ → ℕ → ℕ
partial_product c zero a b = 0
partial_product c (suc n) a b = cond (b % 2 == 1) a 0 ⊕ partial_product c n (doubled c a) (b / 2)

unfoldable pub product : ℕ → ℕ → ℕ → ℕ
product c a b = partial_product c 8 a b

-- v to the power n, by repeated product
unfoldable pub power : ℕ → ℕ → ℕ → ℕ
power c v zero = 1
power c v (suc n) = product c (power c v n) v
