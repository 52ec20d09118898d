-- What a keystream generator means, and the laws that each one keeps. Assumes nothing.
use Rattle.std.specs.Prelude.{◌≡◌, ℕ, zero, suc, ◌^◌, ◌<◌, ◌≤◌, List, length, replicate, Ok, Err, Result}
use Rattle.words.specs.Words.{Bytes, Words}
use Rattle.generator.specs.declared.Fault.{Fault}
use Rattle.generator.specs.Refusals.{member}

-- A generator by its meaning: how many words a state has; the load of a key and an IV, or the fault; the state after and before a state;
-- the keystream word of a state. Keys and IVs are lists of bytes, states lists of words.
pub record Meaning : Type 0 where
  pub size : ℕ
  pub load : List ℕ → List ℕ → Result (List ℕ) Fault
  pub next : List ℕ → List ℕ
  pub back : List ℕ → List ℕ
  pub word : List ℕ → ℕ

-- a state of n words: every n words are one
pub record State (n : ℕ) (s : List ℕ) : Type 0 where
  pub count : length s ≡ n
  pub fits : Words s

abbrev pub zeros : Meaning → List ℕ
zeros m = replicate m.size 0

-- f applied n times
abbrev pub times : {X : Type 0} → ℕ → (X → X) → X → X
times zero f x = x
times (suc n) f x = f (times n f x)

-- key and iv reach the state s in n words: n nexts from their load give it
pub record Reaches (m : Meaning) (key iv : List ℕ) (n : ℕ) (s : List ℕ) : Type 0 where
  pub key_bytes : Bytes key
  pub iv_bytes : Bytes iv
  pub start : List ℕ
  pub loads : m.load key iv ≡ Ok start
  pub arrives : times n m.next start ≡ s

pub record Lawful (m : Meaning) : Type 0 where
  -- next and back take states to states, and undo each other on every state
  pub next_state : {s : List ℕ} → State m.size s → State m.size (m.next s)
  pub back_state : {s : List ℕ} → State m.size s → State m.size (m.back s)
  pub back_next : {s : List ℕ} → State m.size s → m.back (m.next s) ≡ s
  pub next_back : {s : List ℕ} → State m.size s → m.next (m.back s) ≡ s
  pub word_fits : {s : List ℕ} → State m.size s → m.word s < 2 ^ 32
  -- a load is a state, and equal loads come from equal keys and IVs, of 255 bytes at most
  pub load_state : {key iv s : List ℕ} → Reaches m key iv 0 s → State m.size s
  pub load_one : {key iv key' iv' s : List ℕ} → Reaches m key iv 0 s → Reaches m key' iv' 0 s → (key ≡ key') × (iv ≡ iv')
  pub load_short : {key iv s : List ℕ} → Reaches m key iv 0 s → (length key ≤ 255) × (length iv ≤ 255)
  pub fault_member : {key iv : List ℕ} {f : Fault} → m.load key iv ≡ Err f → member f < 16
