-- Two generators that run side by side, with the exclusive or of their words as keystream. Assumes nothing.
use Rattle.std.specs.Prelude.{◌≡◌, ℕ, ◌+◌, cond, ◌||◌, List, [], ◌∷◌, ◌++◌, length, take, drop, Some, None, Ok, Err, Option, Result, nat_lt}
use Rattle.std.specs.Int.Bits.{bit_xor}
use Rattle.generator.specs.declared.Fault.{Fault}
use Rattle.generator.specs.declared.Fault.TheVariants.{Key, Iv}
use Rattle.generator.specs.Meaning.{Meaning}

-- the key or IV of a pair: the length of the first's as one byte, the first's, the second's
abbrev pub joined : List ℕ → List ℕ → List ℕ
joined first second = length first ∷ first ++ second

-- the first's and the second's part of a key or IV; none where it is empty, too short for its first byte, or above 255 bytes
abbrev pub parts : List ℕ → Option (List ℕ × List ℕ)
parts [] = None
parts (m ∷ rest) = cond (nat_lt (length rest) m || nat_lt 254 (length rest)) None (Some (take m rest, drop m rest))

-- a fault of a member, by its place in the pair
abbrev pub at_place : ℕ → Fault → Fault
at_place n (Key member) = Key n
at_place n (Iv member) = Iv n

-- both loads, one after the other, or the first fault
abbrev pub both_loads : Result (List ℕ) Fault → Result (List ℕ) Fault → Result (List ℕ) Fault
both_loads (Err f) second = Err (at_place 1 f)
both_loads (Ok s) (Err f) = Err (at_place 2 f)
both_loads (Ok s) (Ok t) = Ok (s ++ t)

abbrev pub parts_load : Meaning → Meaning → Option (List ℕ × List ℕ) → Option (List ℕ × List ℕ) → Result (List ℕ) Fault
parts_load a b None iv = Err (Key 0)
parts_load a b (Some key) None = Err (Iv 0)
parts_load a b (Some key) (Some iv) = both_loads (a.load key.0 iv.0) (b.load key.1 iv.1)

-- a state is the first's words, then the second's
abbrev pub pair : Meaning → Meaning → Meaning
pair a b = record {
  size = a.size + b.size;
  load = λ key iv. parts_load a b (parts key) (parts iv);
  next = λ s. a.next (take a.size s) ++ b.next (drop a.size s);
  back = λ s. a.back (take a.size s) ++ b.back (drop a.size s);
  word = λ s. bit_xor (a.word (take a.size s)) (b.word (drop a.size s));
}

-- What loading both answers, and where it is accepted the two states.
abbrev pub BothLoaded : Meaning → Meaning → List ℕ → List ℕ → Result Unit Fault → List ℕ → List ℕ → Type 0
BothLoaded a b key iv r first second = elim ((pair a b).load key iv) [ Ok s ↦ (r ≡ Ok tt) × (first ++ second ≡ s) | Err f ↦ r ≡ Err f ]
