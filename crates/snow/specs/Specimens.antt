-- Worked examples of the definitions. Assumes nothing.
use Rattle.std.specs.Prelude.{◌≡◌, ℕ, zero, suc, List, [], ◌∷◌, ◌++◌, replicate, Ok}
use Rattle.generator.specs.Meaning.{Meaning}
use Rattle.fields.specs.Doubling.{doubled}
use Rattle.fields.specs.Boxes.{sr, sq}
use Rattle.fields.specs.Mixing.{s1, s2}
use Rattle.fields.specs.Alpha.{mul_alpha, div_alpha, times_alpha}
use Rattle.snow.specs.Register.{register}
use Rattle.snow.specs.Snow2.{snow2}
use Rattle.snow.specs.Snow3g.{snow3g}

-- the first n keystream words from a state on
abbrev pub first_words : ℕ → Meaning → List ℕ → List ℕ
first_words zero m s = []
first_words (suc n) m s = m.word s ∷ first_words n m (m.next s)

pub record Specimens : Type 0 where
  pub doubled_69 : doubled 0x1B 0x69 ≡ 0xD2
  pub doubled_96 : doubled 0x1B 0x96 ≡ 0x37
  pub sr_00 : sr 0x00 ≡ 0x63
  pub sr_52 : sr 0x52 ≡ 0x00
  pub sq_00 : sq 0x00 ≡ 0x25
  pub sq_01 : sq 0x01 ≡ 0x24
  pub sq_02 : sq 0x02 ≡ 0x73
  pub s1_0 : s1 0 ≡ 0x63636363
  pub s2_0 : s2 0 ≡ 0x25252525
  pub mul_alpha_01 : mul_alpha 0x01 ≡ 0xE19FCF13
  pub div_alpha_01 : div_alpha 0x01 ≡ 0x180F40CD
  pub alpha_01000000 : times_alpha 0x01000000 ≡ 0xE19FCF13
  -- from zero words, a step of SNOW 2.0 sets b2 alone and a step back b1 alone; a step of SNOW 3G sets R2 and R3 alone
  pub snow2_next : snow2.next (replicate 18 0) ≡ replicate 17 0 ++ 0x63636363 ∷ []
  pub snow2_back : snow2.back (replicate 18 0) ≡ replicate 16 0 ++ 0x52525252 ∷ 0 ∷ []
  pub snow3g_next : snow3g.next (replicate 19 0) ≡ replicate 17 0 ++ 0x63636363 ∷ 0x25252525 ∷ []
  -- the register under a key that is zero but for its last word
  pub register_load : register.load (replicate 60 0 ++ 1 ∷ 2 ∷ 3 ∷ 4 ∷ []) [] ≡ Ok (0x01020304 ∷ replicate 15 0)
  pub register_words : first_words 17 register (0x01020304 ∷ replicate 15 0) ≡ 0x01020304 ∷ (replicate 15 0 ++ 0xE39CCB13 ∷ [])
