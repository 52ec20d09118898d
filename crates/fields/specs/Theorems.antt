-- What holds of doublings, mixing, α and the word boxes. Assumes nothing.
use Rattle.std.specs.Prelude.{◌≡◌, ℕ, ◌^◌, ◌<◌}
use Rattle.words.specs.Words.{◌⊕◌}
use Rattle.fields.specs.Doubling.{doubled}
use Rattle.fields.specs.Boxes.{undone}
use Rattle.fields.specs.Mixing.{mixed, s1, s2, s1_undone, s2_undone}
use Rattle.fields.specs.Alpha.{times_alpha, over_alpha}

-- d takes bytes to bytes, and a ⊕ b to the ⊕ of what it takes a and b to
pub record Linear (d : ℕ → ℕ) : Type 0 where
  pub stays : (a : ℕ) → a < 256 → d a < 256
  pub joins : (a b : ℕ) → a < 256 → b < 256 → d (a ⊕ b) ≡ d a ⊕ d b

-- doubling with any tap byte is linear
abbrev pub DoublingLinear : Type 0
DoublingLinear = (c : ℕ) → c < 256 → Linear (doubled c)

-- mixing four times over any linear doubling gives the word back
abbrev pub MixingReturns : Type 0
MixingReturns = (d : ℕ → ℕ) → Linear d → (w : ℕ) → w < 2 ^ 32 → mixed d (mixed d (mixed d (mixed d w))) ≡ w

-- a box takes bytes to bytes, and is undone both ways round
pub record Permutes (box : ℕ → ℕ) : Type 0 where
  pub stays : (a : ℕ) → a < 256 → box a < 256
  pub back : (a : ℕ) → a < 256 → undone box (box a) ≡ a
  pub forth : (v : ℕ) → v < 256 → box (undone box v) ≡ v

-- f and g take words to words, and undo each other on every word
pub record Inverse (f g : ℕ → ℕ) : Type 0 where
  pub f_word : (w : ℕ) → w < 2 ^ 32 → f w < 2 ^ 32
  pub g_word : (w : ℕ) → w < 2 ^ 32 → g w < 2 ^ 32
  pub g_f : (w : ℕ) → w < 2 ^ 32 → g (f w) ≡ w
  pub f_g : (w : ℕ) → w < 2 ^ 32 → f (g w) ≡ w

abbrev pub AlphaInverse : Type 0
AlphaInverse = Inverse times_alpha over_alpha

abbrev pub S1Inverse : Type 0
S1Inverse = Inverse s1 s1_undone

abbrev pub S2Inverse : Type 0
S2Inverse = Inverse s2 s2_undone
