-- Multiplication by the element α of the field of 2 ^ 32 elements, and by its inverse. Assumes nothing.
use Rattle.std.specs.Prelude.{ℕ, ◌*◌, ◌/◌, ◌%◌, ◌^◌}
use Rattle.words.specs.Words.{◌⊕◌, word, byte_of}
use Rattle.fields.specs.Doubling.{doublings}

-- c times the power n of β = 02 in the field of A9
unfoldable pub times_beta : ℕ → ℕ → ℕ
times_beta n c = doublings 0xA9 n c

-- MULα and DIVα (ETSI/SAGE SNOW 3G 256 v0.3, 3.4.2 and 3.4.3; the tables of ISO/IEC 18033-4:2005, 7.2.5 and 7.2.6)
unfoldable pub mul_alpha : ℕ → ℕ
mul_alpha c = word (times_beta 23 c) (times_beta 245 c) (times_beta 48 c) (times_beta 239 c)

unfoldable pub div_alpha : ℕ → ℕ
div_alpha c = word (times_beta 16 c) (times_beta 39 c) (times_beta 6 c) (times_beta 64 c)

-- αw (ISO/IEC 18033-4:2005, 7.2.5)
unfoldable pub times_alpha : ℕ → ℕ
times_alpha w = (w * 2 ^ 8 % 2 ^ 32) ⊕ mul_alpha (byte_of w 0)

-- α⁻¹w (ISO/IEC 18033-4:2005, 7.2.6)
unfoldable pub over_alpha : ℕ → ℕ
over_alpha w = (w / 2 ^ 8) ⊕ div_alpha (byte_of w 3)
