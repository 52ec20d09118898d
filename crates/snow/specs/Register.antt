-- The shift register of SNOW 2.0 and SNOW 3G, sixteen words a0 to a15, and the generator that it is by itself. Assumes nothing.
use Rattle.std.specs.Prelude.{ℕ, ◌+◌, ◌-◌, ◌%◌, ◌^◌, cond, List, [], ◌∷◌, ◌++◌, reverse, length, take, drop, Ok, Err, Result, ◌==◌, slice_index}
use Rattle.words.specs.Words.{◌⊕◌, words_of}
use Rattle.fields.specs.Alpha.{times_alpha, over_alpha}
use Rattle.generator.specs.declared.Fault.{Fault}
use Rattle.generator.specs.declared.Fault.TheVariants.{Key, Iv}
use Rattle.generator.specs.Meaning.{Meaning}

-- word i of a state
abbrev pub at : List ℕ → ℕ → ℕ
at s i = slice_index s i

-- sums and differences of words; the carry out is dropped
abbrev pub plus : ℕ → ℕ → ℕ
plus a b = (a + b) % 2 ^ 32

abbrev pub minus : ℕ → ℕ → ℕ
minus a b = (a + (2 ^ 32 - b)) % 2 ^ 32

-- αa0 ⊕ a2 ⊕ α⁻¹a11 (ISO/IEC 18033-4:2005, 7.2.2, step 4; ETSI/SAGE SNOW 3G 256 v0.3, 3.4.5)
abbrev pub feedback : List ℕ → ℕ
feedback s = times_alpha (at s 0) ⊕ at s 2 ⊕ over_alpha (at s 11)

-- each new a_j up to j = 14 is a_(j+1), and new a15 is v (ISO/IEC 18033-4:2005, 7.2.2, steps 3 and 4)
abbrev pub shifted : List ℕ → ℕ → List ℕ
shifted s v = drop 1 (take 16 s) ++ v ∷ []

-- the register before a step that joined v to what it shifted in
abbrev pub unshifted : List ℕ → ℕ → List ℕ
unshifted s v = over_alpha (at s 15 ⊕ v ⊕ at s 1 ⊕ over_alpha (at s 10)) ∷ take 15 s

-- the words of a key or an IV, word 0 first: the bytes have the highest word first
abbrev pub numbered : List ℕ → List ℕ
numbered bytes = reverse (words_of bytes)

-- the bare register: 64 bytes of key, a15 first; an empty IV; no step
abbrev pub register_load : List ℕ → List ℕ → Result (List ℕ) Fault
register_load key iv = cond (length key == 64) (cond (length iv == 0) (Ok (numbered key)) (Err (Iv 0))) (Err (Key 0))

abbrev pub register : Meaning
register = record {
  size = 16;
  load = register_load;
  next = λ s. shifted s (feedback s);
  back = λ s. unshifted s 0;
  word = λ s. at s 0;
}
