-- The machine of SNOW 3G is sound, so SNOW 3G keeps the laws of generators. Assumes nothing.
use Rattle.std.specs.Prelude.{◌≡◌, ℕ, ◌^◌, ◌<◌, ◌⊎◌, true, List, refl, ◌==◌}
use Rattle.std.proofs.Common.{ap, ◌∙◌, arith}
use Rattle.std.proofs.lemmas.Bool.Decides.{nat_tests}
use Rattle.std.proofs.lemmas.Nat.{xor_lt}
use Rattle.words.specs.Words.{◌⊕◌}
use Rattle.words.proofs.Xors.{joined_off}
use Rattle.fields.specs.Mixing.{s2, s2_undone}
use Rattle.fields.proofs.WordBoxes.{s1_inverse, s2_inverse}
use Rattle.generator.specs.Meaning.{State, Lawful}
use Rattle.snow.specs.Register.{at, plus, minus}
use Rattle.snow.specs.Machines.{Sound}
use Rattle.snow.specs.Snow3g.{r_next, r_back, snow3g_machine, snow3g}
use Rattle.snow.specs.CipherLaws.{cipher_lawful}
use Rattle.snow.specs.ShiftLaws.{words_of_state}
use Rattle.snow.specs.Sums.{plus_below, minus_below, minus_first, plus_rest}

next_state : {r : List ℕ} (w : ℕ) → State 3 r → State 3 (r_next r w)
next_state {r} w st =
    let (h, known) = words_of_state 3 (λ r. Unit {0}) r st in
    record { count = refl; fits = (plus_below (at r 1) (at r 2 ⊕ w), (s1_inverse.f_word (at r 0) (h 0), (s2_inverse.f_word (at r 1) (h 1), tt))) }

back_state : {r : List ℕ} (w : ℕ) → State 3 r → w < 2 ^ 32 → State 3 (r_back r w)
back_state {r} w st hw =
    let (h, known) = words_of_state 3 (λ r. Unit {0}) r st in
    let r2 = s2_undone (at r 2) in
    record { count = refl; fits = (s1_inverse.g_word (at r 1) (h 1), (s2_inverse.g_word (at r 2) (h 2), (xor_lt 32 (minus (at r 0) r2) w (minus_below (at r 0) r2) hw, tt))) }

-- R3 comes back: R1 less R2 is R3 joined with s5
r3_back : (r2 r3 x : ℕ) → r2 < 2 ^ 32 → r3 < 2 ^ 32 → x < 2 ^ 32 → minus (plus r2 (r3 ⊕ x)) (s2_undone (s2 r2)) ⊕ x ≡ r3
r3_back r2 r3 x h2 h3 hx =
    ap (λ r. minus (plus r2 (r3 ⊕ x)) r ⊕ x) (s2_inverse.g_f r2 h2) ∙ ap (λ y. y ⊕ x) (minus_first r2 (r3 ⊕ x) h2 (xor_lt 32 r3 x h3 hx)) ∙ joined_off r3 x

-- R1 comes again
r1_again : (r1 r2 x : ℕ) → r1 < 2 ^ 32 → r2 < 2 ^ 32 → plus r2 ((minus r1 r2 ⊕ x) ⊕ x) ≡ r1
r1_again r1 r2 x h1 h2 = ap (plus r2) (joined_off (minus r1 r2) x) ∙ plus_rest r1 r2 h1 h2

back_next : {r : List ℕ} (w : ℕ) → State 3 r → w < 2 ^ 32 → r_back (r_next r w) w ≡ r
back_next {r} w st hw =
    let (h, known) = words_of_state 3 (λ r. r_back (r_next r w) w ≡ r) r st in
    let r1 = s1_inverse.g_f (at r 0) (h 0) in
    let r2 = s2_inverse.g_f (at r 1) (h 1) in
    let r3 = r3_back (at r 1) (at r 2) w (h 1) (h 2) hw in
    known cc

next_back : {r : List ℕ} (w : ℕ) → State 3 r → w < 2 ^ 32 → r_next (r_back r w) w ≡ r
next_back {r} w st hw =
    let (h, known) = words_of_state 3 (λ r. r_next (r_back r w) w ≡ r) r st in
    let r1 = r1_again (at r 0) (s2_undone (at r 2)) w (h 0) (s2_inverse.g_word (at r 2) (h 2)) in
    let r2 = s1_inverse.f_g (at r 1) (h 1) in
    let r3 = s2_inverse.f_g (at r 2) (h 2) in
    known cc

takes_no_other : (n : ℕ) → (n == 32) ≡ true → (n ≡ 16) ⊎ (n ≡ 32)
takes_no_other n e = grind (arith, nat_tests)

pub snow3g_sound : Sound snow3g_machine
snow3g_sound = record {
  next_state = λ w st hw. next_state w st;
  back_state = back_state;
  back_next = back_next;
  next_back = next_back;
  takes_long = refl;
  takes_no_other = takes_no_other;
}

pub snow3g_lawful : Lawful snow3g
snow3g_lawful = cipher_lawful snow3g_machine snow3g_sound
