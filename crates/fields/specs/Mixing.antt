-- Mixing of the four bytes of a word, the word boxes S1 and S2, and what undoes them. Assumes nothing.
use Rattle.std.specs.Prelude.{ℕ}
use Rattle.words.specs.Words.{◌⊕◌, word, byte_of}
use Rattle.fields.specs.Doubling.{doubled}
use Rattle.fields.specs.Boxes.{sr, sq, undone}

-- mixing of the bytes w0 (most significant) to w3, over a doubling d; 2w is d w, and 3w is d w ⊕ w
-- (ETSI/SAGE SNOW 3G 256 v0.3, 3.3.1 and 3.3.2; step 4 of T in ISO/IEC 18033-4:2005, 7.2.4, which numbers bytes from the least significant)
unfoldable pub mixed_bytes : (ℕ → ℕ) → ℕ → ℕ → ℕ → ℕ → ℕ
mixed_bytes d w0 w1 w2 w3 =
    word
    (d w0 ⊕ w1 ⊕ w2 ⊕ (d w3 ⊕ w3))
    ((d w0 ⊕ w0) ⊕ d w1 ⊕ w2 ⊕ w3)
    (w0 ⊕ (d w1 ⊕ w1) ⊕ d w2 ⊕ w3)
    (w0 ⊕ w1 ⊕ (d w2 ⊕ w2) ⊕ d w3)

unfoldable pub mixed : (ℕ → ℕ) → ℕ → ℕ
mixed d w = mixed_bytes d (byte_of w 0) (byte_of w 1) (byte_of w 2) (byte_of w 3)

-- each byte of a word through a box
unfoldable pub boxed : (ℕ → ℕ) → ℕ → ℕ
boxed box w = word (box (byte_of w 0)) (box (byte_of w 1)) (box (byte_of w 2)) (box (byte_of w 3))

-- a word box, by the tap byte c and a byte box: each byte through the byte box, then mixing
unfoldable pub word_box : ℕ → (ℕ → ℕ) → ℕ → ℕ
word_box c box w = mixed (doubled c) (boxed box w)

-- a word box undone: mixing three times more gives the boxed bytes back, since mixing four times gives the word back
unfoldable pub unmixed : (ℕ → ℕ) → ℕ → ℕ
unmixed d w = mixed d (mixed d (mixed d w))

unfoldable pub word_box_undone : ℕ → (ℕ → ℕ) → ℕ → ℕ
word_box_undone c box w = boxed (undone box) (unmixed (doubled c) w)

-- S1, which is also T of ISO/IEC 18033-4:2005, 7.2.4, and S2 (ETSI/SAGE SNOW 3G 256 v0.3, 3.3.1 and 3.3.2)
abbrev pub s1 : ℕ → ℕ
s1 w = word_box 0x1B sr w

abbrev pub s2 : ℕ → ℕ
s2 w = word_box 0x69 sq w

abbrev pub s1_undone : ℕ → ℕ
s1_undone w = word_box_undone 0x1B sr w

abbrev pub s2_undone : ℕ → ℕ
s2_undone w = word_box_undone 0x69 sq w

-- the share that the least significant byte has in S1 and in S2 (S1_T0 and S2_T0 of ETSI/SAGE SNOW 3G 256 v0.3, annex 2, 2.1 and 2.2)
unfoldable pub share : (ℕ → ℕ) → ℕ → ℕ
share d b = mixed_bytes d 0 0 0 b
