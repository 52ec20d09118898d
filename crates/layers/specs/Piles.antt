-- What holds of every pile of the two layers over generators that keep their laws. Assumes nothing.
use Rattle.std.specs.Prelude.{◌≡◌, ℕ, ◌+◌, ◌*◌, ◌≤◌, List, ◌++◌, length, bit_xor}
use Rattle.generator.specs.Meaning.{Meaning, Lawful, Reaches, State, times}
use Rattle.layers.specs.Pair.{joined, pair}
use Rattle.layers.specs.EveryOther.{every_other}

-- layers over layers, down to generators that are given by their meanings
pub data Pile : Type 0 where
  generator : Meaning → Pile
  pair_of : Pile → Pile → Pile
  every_other_of : Pile → Pile

abbrev pub meaning_of : Pile → Meaning
meaning_of (generator m) = m
meaning_of (pair_of p q) = pair (meaning_of p) (meaning_of q)
meaning_of (every_other_of p) = every_other (meaning_of p)

-- each generator at the bottom keeps its laws
abbrev pub LawfulBelow : Pile → Type 0
LawfulBelow (generator m) = Lawful m
LawfulBelow (pair_of p q) = LawfulBelow p × LawfulBelow q
LawfulBelow (every_other_of p) = LawfulBelow p

-- word n of the keystream from a state on
abbrev pub stream : Meaning → List ℕ → ℕ → ℕ
stream m s n = m.word (times n m.next s)

pub record PilesStand : Type 0 where
  pub lawful : (p : Pile) → LawfulBelow p → Lawful (meaning_of p)
  -- the keystream of a pair is the exclusive or of both keystreams, word by word
  pub pair_stream : {a : Meaning} {s : List ℕ} → Lawful a → State a.size s → (b : Meaning) (t : List ℕ) (n : ℕ) → stream (pair a b) (s ++ t) n ≡ bit_xor (stream a s n) (stream b t n)
  -- a pair's load of keys and IVs that were joined is both loads
  pub pair_load : {a b : Meaning} {k l i j s t : List ℕ} → length k + length l ≤ 254 → length i + length j ≤ 254 → Reaches a k i 0 s → Reaches b l j 0 t → Reaches (pair a b) (joined k l) (joined i j) 0 (s ++ t)
  -- the keystream of every other word is every other word of the keystream
  pub every_other_stream : (m : Meaning) (s : List ℕ) (n : ℕ) → stream (every_other m) s n ≡ stream m s (2 * n)
