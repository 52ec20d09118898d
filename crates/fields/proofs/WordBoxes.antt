-- The word boxes and what undoes them, and their four shares. Assumes nothing.
use Rattle.std.proofs.Common.{◌≡◌, ℕ, ◌*◌, ◌/◌, ◌%◌, ◌^◌, ◌<◌, refl, ap, ◌∙◌, arith}
use lib.Bits.{bit_or, xor_self}
use Rattle.words.specs.Words.{◌⊕◌, word, byte_of}
use Rattle.words.proofs.Xors.{xors}
use Rattle.words.proofs.Words.{byte_0, byte_1, byte_2, byte_3, byte_below, word_bytes, word_below, xor_words, turn_8, turn_16, turn_24}
use Rattle.fields.specs.Doubling.{doubled}
use Rattle.fields.specs.Boxes.{sr, sq, undone}
use Rattle.fields.specs.Mixing.{mixed_bytes, mixed, boxed, unmixed, share, word_box, word_box_undone, s1, s2, s1_undone, s2_undone}
use Rattle.fields.specs.Theorems.{Linear, Inverse, Permutes}
use Rattle.fields.proofs.Fields.{doubled_linear}
use Rattle.fields.proofs.Undone.{sr_permutes, sq_permutes, undone_below}
use Rattle.fields.proofs.Mixes.{join_below, mixed_below, mixing_returns}

-- a box on bytes, and one that undoes it, byte by byte
boxed_back : (f g : ℕ → ℕ) → ((a : ℕ) → a < 256 → f a < 256) → ((a : ℕ) → a < 256 → g (f a) ≡ a) → (w : ℕ) → w < 2 ^ 32 → boxed g (boxed f w) ≡ w
unfolding boxed
boxed_back f g stays back w below = simp (byte_0, byte_1, byte_2, byte_3, back, stays, byte_below) (word_bytes w below)

boxed_below : (f : ℕ → ℕ) → ((a : ℕ) → a < 256 → f a < 256) → (w : ℕ) → boxed f w < 2 ^ 32
unfolding boxed
boxed_below f stays w = search (word_below, stays, byte_below)

-- a word box, by the boxed bytes
pub mixed_boxed : (f d : ℕ → ℕ) → ((a : ℕ) → a < 256 → f a < 256) → (w : ℕ) → mixed d (boxed f w) ≡ mixed_bytes d (f (byte_of w 0)) (f (byte_of w 1)) (f (byte_of w 2)) (f (byte_of w 3))
unfolding mixed boxed
mixed_boxed f d stays w = simp (byte_0, byte_1, byte_2, byte_3, stays, byte_below)

-- a word box and what undoes it, by any tap byte and any permutation of the bytes
pub word_box_inverse : (c : ℕ) (box : ℕ → ℕ) → c < 256 → Permutes box → Inverse (word_box c box) (word_box_undone c box)
unfolding word_box word_box_undone unmixed
word_box_inverse c box hc p =
    let d = doubled c in
    let l = doubled_linear c hc in
    record {
      f_word = λ w below. mixed_below d l (boxed box w);
      g_word = λ w below. boxed_below (undone box) (λ v hv. undone_below box v) (mixed d (mixed d (mixed d w)));
      g_f = λ w below. ap (boxed (undone box)) (mixing_returns d l (boxed box w) (boxed_below box p.stays w)) ∙ boxed_back box (undone box) p.stays p.back w below;
      f_g = λ w below.
          ap (mixed d) (boxed_back (undone box) box (λ v hv. undone_below box v) p.forth (mixed d (mixed d (mixed d w))) (mixed_below d l (mixed d (mixed d w)))) ∙ mixing_returns d l w below;
    }

pub s1_inverse : Inverse s1 s1_undone
s1_inverse = word_box_inverse 0x1B sr (omega arith) sr_permutes

pub s2_inverse : Inverse s2 s2_undone
s2_inverse = word_box_inverse 0x69 sq (omega arith) sq_permutes

module _ (d : ℕ → ℕ) (l : Linear d) where
  share_word : (b : ℕ) → share d b ≡ word (d b ⊕ b) b b (d b)
  unfolding share mixed_bytes
  share_word b = rw (l.joins 0 0 (omega arith) (omega arith) ∙ xor_self (d 0)) (sums b (d b))
    where
      sums : (b e : ℕ) → word (0 ⊕ 0 ⊕ 0 ⊕ (e ⊕ b)) (0 ⊕ 0 ⊕ 0 ⊕ 0 ⊕ b) (0 ⊕ (0 ⊕ 0) ⊕ 0 ⊕ b) (0 ⊕ 0 ⊕ (0 ⊕ 0) ⊕ e) ≡ word (e ⊕ b) b b e
      sums b e = refl

  -- four shares, each turned to its byte's place, make the mixed word
  pub shares_join : (a b c e : ℕ) → a < 256 → b < 256 → c < 256 → e < 256
      → share d e
      ⊕ bit_or (share d c * 256 % 4294967296) (share d c / 16777216)
      ⊕ bit_or (share d b * 65536 % 4294967296) (share d b / 65536)
      ⊕ bit_or (share d a * 16777216 % 4294967296) (share d a / 256)
      ≡ mixed_bytes d a b c e
  unfolding mixed_bytes
  shares_join a b c e ha hb hc he =
      let xc = join_below (d c) c (l.stays c hc) hc in
      simp (share_word, turn_8, turn_16, turn_24, xor_words, join_below, l.stays) (sums a b c e (d a) (d b) (d c) (d e))
    where
      sums :
          (a b c e p q r s : ℕ)
          → word ((s ⊕ e) ⊕ c ⊕ b ⊕ p) (e ⊕ c ⊕ q ⊕ (p ⊕ a)) (e ⊕ r ⊕ (q ⊕ b) ⊕ a) (s ⊕ (r ⊕ c) ⊕ b ⊕ a)
          ≡ word (p ⊕ b ⊕ c ⊕ (s ⊕ e)) ((p ⊕ a) ⊕ q ⊕ c ⊕ e) (a ⊕ (q ⊕ b) ⊕ r ⊕ e) (a ⊕ b ⊕ (r ⊕ c) ⊕ s)
      sums a b c e p q r s = simp xors
