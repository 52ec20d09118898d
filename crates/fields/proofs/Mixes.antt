-- Mixing over any linear doubling, and what four mixings give. Assumes nothing.
use Rattle.std.proofs.Common.{◌≡◌, ℕ, ◌^◌, ◌<◌, refl, ◌∙◌, subst, ap₂}
use lib.Bits.{bit_xor, xor_lt}
use Rattle.words.specs.Words.{◌⊕◌, word, byte_of}
use Rattle.words.proofs.Xors.{xors}
use Rattle.words.proofs.Words.{byte_0, byte_1, byte_2, byte_3, byte_below, word_bytes, word_below}
use Rattle.fields.specs.Mixing.{mixed_bytes, mixed}
use Rattle.fields.specs.Theorems.{Linear}

-- a join of bytes is a byte
pub join_below : (a b : ℕ) → a < 256 → b < 256 → a ⊕ b < 256
join_below a b ha hb = xor_lt 8 a b ha hb

module _ (d : ℕ → ℕ) (l : Linear d) where
  -- a byte of a mixed word: over bytes a and b that are doubled, and bytes that are not
  row : ℕ → ℕ → ℕ → ℕ → ℕ
  row a b x y = d a ⊕ d b ⊕ (b ⊕ x ⊕ y)

  -- a byte of a word that is mixed twice
  row₂ : ℕ → ℕ → ℕ
  row₂ a c = d (d a) ⊕ a ⊕ d (d c)

  row_below : (a b x y : ℕ) → a < 256 → b < 256 → x < 256 → y < 256 → row a b x y < 256
  unfolding row
  row_below a b x y ha hb hx hy = search (join_below, l.stays)

  row₂_below : (a c : ℕ) → a < 256 → c < 256 → row₂ a c < 256
  unfolding row₂
  row₂_below a c ha hc = search (join_below, l.stays)

  d_row : (a b x y : ℕ) → a < 256 → b < 256 → x < 256 → y < 256 → d (row a b x y) ≡ d (d a) ⊕ d (d b) ⊕ (d b ⊕ d x ⊕ d y)
  unfolding row
  d_row a b x y ha hb hx hy = simp (l.joins, join_below, l.stays)

  dd_row₂ : (a c : ℕ) → a < 256 → c < 256 → d (d (row₂ a c)) ≡ d (d (d (d a))) ⊕ d (d a) ⊕ d (d (d (d c)))
  unfolding row₂
  dd_row₂ a c ha hc =
      let a2 = l.stays (d a) (l.stays a ha) in
      let c2 = l.stays (d c) (l.stays c hc) in
      simp (l.joins, join_below, l.stays)

  mixed_rows : (a b c e : ℕ) → mixed_bytes d a b c e ≡ word (row a e b c) (row b a c e) (row c b e a) (row e c a b)
  unfolding mixed_bytes row
  mixed_rows a b c e = simp xors

  -- any of the four bytes of a word that is mixed twice
  two_rows : (a b c e : ℕ) → a < 256 → b < 256 → c < 256 → e < 256 → row (row a e b c) (row e c a b) (row b a c e) (row c b e a) ≡ row₂ a c
  unfolding row row₂
  two_rows a b c e ha hb hc he =
      ap₂ bit_xor (ap₂ bit_xor (d_row a e b c ha he hb hc) (d_row e c a b he hc ha hb)) refl ∙ sums (d (d a)) (d (d c)) (d (d e)) (d a) (d b) (d c) (d e) a b c e
    where
      sums :
          (a2 c2 e2 a1 b1 c1 e1 a b c e : ℕ)
          → (a2 ⊕ e2 ⊕ (e1 ⊕ b1 ⊕ c1)) ⊕ (e2 ⊕ c2 ⊕ (c1 ⊕ a1 ⊕ b1)) ⊕ ((e1 ⊕ c1 ⊕ (c ⊕ a ⊕ b)) ⊕ (b1 ⊕ a1 ⊕ (a ⊕ c ⊕ e)) ⊕ (c1 ⊕ b1 ⊕ (b ⊕ e ⊕ a)))
          ≡ a2 ⊕ a ⊕ c2
      sums a2 c2 e2 a1 b1 c1 e1 a b c e = simp xors

  four_rows : (a c : ℕ) → a < 256 → c < 256 → row₂ (row₂ a c) (row₂ c a) ≡ a
  unfolding row₂
  four_rows a c ha hc = ap₂ bit_xor (ap₂ bit_xor (dd_row₂ a c ha hc) refl) (dd_row₂ c a hc ha) ∙ sums (d (d (d (d a)))) (d (d (d (d c)))) (d (d a)) (d (d c)) a c
    where
      sums : (a4 c4 a2 c2 a c : ℕ) → (a4 ⊕ a2 ⊕ c4) ⊕ (a2 ⊕ a ⊕ c2) ⊕ (c4 ⊕ c2 ⊕ a4) ≡ a
      sums a4 c4 a2 c2 a c = simp xors

  -- the mixing of the word of four bytes
  mixed_word : (a b c e : ℕ) → a < 256 → b < 256 → c < 256 → e < 256 → mixed d (word a b c e) ≡ word (row a e b c) (row b a c e) (row c b e a) (row e c a b)
  unfolding mixed
  mixed_word a b c e ha hb hc he = simp (byte_0, byte_1, byte_2, byte_3) (mixed_rows a b c e)

  mixed_twice : (a b c e : ℕ) → a < 256 → b < 256 → c < 256 → e < 256 → mixed d (mixed d (word a b c e)) ≡ word (row₂ a c) (row₂ b e) (row₂ c a) (row₂ e b)
  mixed_twice a b c e ha hb hc he = simp (mixed_word, two_rows, row_below)

  mixed_four : (a b c e : ℕ) → a < 256 → b < 256 → c < 256 → e < 256 → mixed d (mixed d (mixed d (mixed d (word a b c e)))) ≡ word a b c e
  mixed_four a b c e ha hb hc he = simp (mixed_twice, four_rows, row₂_below)

  pub mixed_below : (w : ℕ) → mixed d w < 2 ^ 32
  unfolding mixed
  mixed_below w = simp mixed_rows (search (word_below, row_below, byte_below))

  pub mixing_returns : (w : ℕ) → w < 2 ^ 32 → mixed d (mixed d (mixed d (mixed d w))) ≡ w
  mixing_returns w below =
      subst (λ x. mixed d (mixed d (mixed d (mixed d x))) ≡ x) (word_bytes w below) (mixed_four (byte_of w 0) (byte_of w 1) (byte_of w 2) (byte_of w 3) (byte_below w 0) (byte_below w 1) (byte_below w 2) (byte_below w 3))
