-- SNOW 2.0 (ISO/IEC 18033-4:2005, 7.2): eighteen words a0 to a15, b1, b2. Assumes nothing.
use Rattle.std.specs.Prelude.{ℕ, ◌||◌, List, [], ◌∷◌, ◌==◌}
use Rattle.fields.specs.Mixing.{s1, s1_undone}
use Rattle.generator.specs.Meaning.{Meaning}
use Rattle.snow.specs.Register.{at, plus, minus}
use Rattle.snow.specs.Machines.{Machine}
use Rattle.snow.specs.Cipher.{cipher}

-- new b1 is b2 + a5, and new b2 is T(b1), which is S1 (Next, 7.2.2, steps 1 and 2)
abbrev pub b_next : List ℕ → ℕ → List ℕ
b_next b a5 = plus (at b 1) a5 ∷ s1 (at b 0) ∷ []

-- b1 and b2 before a step
abbrev pub b_back : List ℕ → ℕ → List ℕ
b_back b a5 = s1_undone (at b 1) ∷ minus (at b 0) a5 ∷ []

-- keys of 128 and of 256 bits (7.2.1)
abbrev pub snow2_machine : Machine
snow2_machine = record { size = 2; takes = λ n. n == 16 || n == 32; next = b_next; back = b_back }

abbrev pub snow2 : Meaning
snow2 = cipher snow2_machine
