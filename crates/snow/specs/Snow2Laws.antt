-- The machine of SNOW 2.0 is sound, so SNOW 2.0 keeps the laws of generators. Assumes nothing.
use Rattle.std.specs.Prelude.{◌≡◌, ℕ, ◌^◌, ◌<◌, ◌⊎◌, true, List, refl, ◌||◌, ◌==◌}
use Rattle.std.proofs.Common.{arith}
use Rattle.std.proofs.lemmas.Bool.Decides.{nat_tests}
use Rattle.fields.proofs.WordBoxes.{s1_inverse}
use Rattle.generator.specs.Meaning.{State, Lawful}
use Rattle.snow.specs.Register.{at}
use Rattle.snow.specs.Machines.{Sound}
use Rattle.snow.specs.Snow2.{b_next, b_back, snow2_machine, snow2}
use Rattle.snow.specs.CipherLaws.{cipher_lawful}
use Rattle.snow.specs.ShiftLaws.{words_of_state}
use Rattle.snow.specs.Sums.{plus_below, minus_below, minus_plus, plus_minus}

next_state : {b : List ℕ} (w : ℕ) → State 2 b → State 2 (b_next b w)
next_state {b} w st =
    let (h, known) = words_of_state 2 (λ b. Unit {0}) b st in
    record { count = refl; fits = (plus_below (at b 1) w, (s1_inverse.f_word (at b 0) (h 0), tt)) }

back_state : {b : List ℕ} (w : ℕ) → State 2 b → State 2 (b_back b w)
back_state {b} w st =
    let (h, known) = words_of_state 2 (λ b. Unit {0}) b st in
    record { count = refl; fits = (s1_inverse.g_word (at b 1) (h 1), (minus_below (at b 0) w, tt)) }

back_next : {b : List ℕ} (w : ℕ) → State 2 b → w < 2 ^ 32 → b_back (b_next b w) w ≡ b
back_next {b} w st hw =
    let (h, known) = words_of_state 2 (λ b. b_back (b_next b w) w ≡ b) b st in
    let b1 = s1_inverse.g_f (at b 0) (h 0) in
    let b2 = minus_plus (at b 1) w (h 1) hw in
    known cc

next_back : {b : List ℕ} (w : ℕ) → State 2 b → w < 2 ^ 32 → b_next (b_back b w) w ≡ b
next_back {b} w st hw =
    let (h, known) = words_of_state 2 (λ b. b_next (b_back b w) w ≡ b) b st in
    let b1 = plus_minus (at b 0) w (h 0) hw in
    let b2 = s1_inverse.f_g (at b 1) (h 1) in
    known cc

takes_no_other : (n : ℕ) → (n == 16 || n == 32) ≡ true → (n ≡ 16) ⊎ (n ≡ 32)
takes_no_other n e = grind (arith, nat_tests)

pub snow2_sound : Sound snow2_machine
snow2_sound = record {
  next_state = λ w st hw. next_state w st;
  back_state = λ w st hw. back_state w st;
  back_next = back_next;
  next_back = next_back;
  takes_long = refl;
  takes_no_other = takes_no_other;
}

pub snow2_lawful : Lawful snow2
snow2_lawful = cipher_lawful snow2_machine snow2_sound
