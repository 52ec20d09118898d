-- The finite state machine that a cipher has beside the register. Assumes nothing.
use Rattle.std.specs.Prelude.{◌≡◌, ℕ, ◌^◌, ◌<◌, ◌⊎◌, Bool, true, List}
use Rattle.generator.specs.Meaning.{State}

-- what SNOW 2.0 and SNOW 3G differ in
pub record Machine : Type 0 where
  -- how many words it has
  pub size : ℕ
  -- whether the cipher takes a key of n bytes
  pub takes : ℕ → Bool
  -- the words after a step, from those before it and word 5 of the register
  pub next : List ℕ → ℕ → List ℕ
  -- the words before a step, from those after it and the word that was word 5
  pub back : List ℕ → ℕ → List ℕ

-- a machine steps forward and back on all words, and takes keys of 32 bytes, and perhaps of 16
pub record Sound (c : Machine) : Type 0 where
  pub next_state : {m : List ℕ} (w : ℕ) → State c.size m → w < 2 ^ 32 → State c.size (c.next m w)
  pub back_state : {m : List ℕ} (w : ℕ) → State c.size m → w < 2 ^ 32 → State c.size (c.back m w)
  pub back_next : {m : List ℕ} (w : ℕ) → State c.size m → w < 2 ^ 32 → c.back (c.next m w) w ≡ m
  pub next_back : {m : List ℕ} (w : ℕ) → State c.size m → w < 2 ^ 32 → c.next (c.back m w) w ≡ m
  pub takes_long : c.takes 32 ≡ true
  pub takes_no_other : (n : ℕ) → c.takes n ≡ true → (n ≡ 16) ⊎ (n ≡ 32)
