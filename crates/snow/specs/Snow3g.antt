-- SNOW 3G with 256-bit keys (ETSI/SAGE SNOW 3G 256 v0.3): nineteen words s0 to s15, R1, R2, R3. Assumes nothing.
use Rattle.std.specs.Prelude.{ℕ, List, [], ◌∷◌, ◌==◌}
use Rattle.words.specs.Words.{◌⊕◌}
use Rattle.fields.specs.Mixing.{s1, s1_undone, s2, s2_undone}
use Rattle.generator.specs.Meaning.{Meaning}
use Rattle.snow.specs.Register.{at, plus, minus}
use Rattle.snow.specs.Machines.{Machine}
use Rattle.snow.specs.Cipher.{cipher}

-- new R1 is R2 + (R3 ⊕ s5), new R2 is S1(R1), new R3 is S2(R2), all of the old state (3.4.6)
abbrev pub r_next : List ℕ → ℕ → List ℕ
r_next r s5 = plus (at r 1) (at r 2 ⊕ s5) ∷ s1 (at r 0) ∷ s2 (at r 1) ∷ []

-- R1, R2 and R3 before a clock
abbrev pub r_back : List ℕ → ℕ → List ℕ
r_back r s5 = s1_undone (at r 1) ∷ s2_undone (at r 2) ∷ (minus (at r 0) (s2_undone (at r 2)) ⊕ s5) ∷ []

abbrev pub snow3g_machine : Machine
snow3g_machine = record { size = 3; takes = λ n. n == 32; next = r_next; back = r_back }

abbrev pub snow3g : Meaning
snow3g = cipher snow3g_machine
