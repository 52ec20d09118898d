-- A step of the register and its undoing, word by word. Assumes nothing.
use Rattle.std.specs.Prelude.{◌≡◌, ℕ, ◌^◌, ◌<◌, List, slice_index}
use Rattle.std.proofs.Common.{sym, ap, subst, ◌∙◌, arith}
use Rattle.std.specs.Int.Bits.{xor_zero_r}
use Rattle.std.proofs.lemmas.Nat.{xor_lt}
use Rattle.words.specs.Words.{◌⊕◌}
use Rattle.words.proofs.Xors.{xors}
use Rattle.words.proofs.Words.{at_below}
use Rattle.words.proofs.Spelled.{spell, spelled}
use Rattle.fields.specs.Alpha.{times_alpha, over_alpha}
use Rattle.fields.proofs.Alphas.{alpha_inverse}
use Rattle.generator.specs.Meaning.{State}

join_below : (a b : ℕ) → a < 2 ^ 32 → b < 2 ^ 32 → a ⊕ b < 2 ^ 32
join_below a b ha hb = xor_lt 32 a b ha hb

pub feedback_below : (a p q : ℕ) → a < 2 ^ 32 → p < 2 ^ 32 → q < 2 ^ 32 → times_alpha a ⊕ p ⊕ over_alpha q < 2 ^ 32
feedback_below a p q ha hp hq = join_below (times_alpha a ⊕ p) (over_alpha q) (join_below (times_alpha a) p (alpha_inverse.f_word a ha) hp) (alpha_inverse.g_word q hq)

pub dropped_below : (x v p q : ℕ) → x < 2 ^ 32 → v < 2 ^ 32 → p < 2 ^ 32 → q < 2 ^ 32 → over_alpha (x ⊕ v ⊕ p ⊕ over_alpha q) < 2 ^ 32
dropped_below x v p q hx hv hp hq = alpha_inverse.g_word (x ⊕ v ⊕ p ⊕ over_alpha q) (join_below (x ⊕ v ⊕ p) (over_alpha q) (join_below (x ⊕ v) p (join_below x v hx hv) hp) (alpha_inverse.g_word q hq))

-- the word that a step dropped comes back
pub dropped_back : (a p q v : ℕ) → a < 2 ^ 32 → over_alpha ((times_alpha a ⊕ p ⊕ q ⊕ v) ⊕ v ⊕ p ⊕ q) ≡ a
dropped_back a p q v ha = ap over_alpha (sums (times_alpha a) p q v) ∙ alpha_inverse.g_f a ha
  where
    sums : (t p q v : ℕ) → (t ⊕ p ⊕ q ⊕ v) ⊕ v ⊕ p ⊕ q ≡ t
    sums t p q v = simp xors

-- the word that a step shifted in comes again
pub shifted_again : (x v p q : ℕ) → x < 2 ^ 32 → v < 2 ^ 32 → p < 2 ^ 32 → q < 2 ^ 32 → times_alpha (over_alpha (x ⊕ v ⊕ p ⊕ over_alpha q)) ⊕ p ⊕ over_alpha q ⊕ v ≡ x
shifted_again x v p q hx hv hp hq =
    ap (λ t. t ⊕ p ⊕ over_alpha q ⊕ v) (alpha_inverse.f_g (x ⊕ v ⊕ p ⊕ over_alpha q) (join_below (x ⊕ v ⊕ p) (over_alpha q) (join_below (x ⊕ v) p (join_below x v hx hv) hp) (alpha_inverse.g_word q hq)))
    ∙ sums x v p (over_alpha q)
  where
    sums : (x v p q : ℕ) → (x ⊕ v ⊕ p ⊕ q) ⊕ p ⊕ q ⊕ v ≡ x
    sums x v p q = simp xors

-- a state, by its words
pub words_of_state : (n : ℕ) (P : List ℕ → Type 0) (s : List ℕ) → State n s → ((i : ℕ) → slice_index s i < 2 ^ 32) × (P (spell n 0 s) → P s)
words_of_state n P s st = (at_below (2 ^ 32) s (omega arith) st.fits, subst P (sym (spelled n s st.count)))

-- the same two of a plain step, which joins nothing
pub plain_back : (a p q : ℕ) → a < 2 ^ 32 → over_alpha ((times_alpha a ⊕ p ⊕ q) ⊕ 0 ⊕ p ⊕ q) ≡ a
plain_back a p q ha = ap over_alpha (sums (times_alpha a) p q) ∙ alpha_inverse.g_f a ha
  where
    sums : (t p q : ℕ) → (t ⊕ p ⊕ q) ⊕ 0 ⊕ p ⊕ q ≡ t
    sums t p q = simp xors

pub plain_again : (x p q : ℕ) → x < 2 ^ 32 → p < 2 ^ 32 → q < 2 ^ 32 → times_alpha (over_alpha (x ⊕ 0 ⊕ p ⊕ over_alpha q)) ⊕ p ⊕ over_alpha q ≡ x
plain_again x p q hx hp hq = sym (xor_zero_r _) ∙ shifted_again x 0 p q hx (omega arith) hp hq
