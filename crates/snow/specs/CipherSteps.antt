-- A cipher steps forth and back. Assumes nothing.
use Rattle.std.specs.Prelude.{◌≡◌, ℕ, ◌+◌, ◌^◌, ◌<◌, List, ◌∷◌, ◌++◌, length, take}
use Rattle.std.proofs.Common.{sym, ap, subst, ◌∙◌, arith}
use Rattle.std.proofs.lemmas.Nat.{xor_lt}
use Rattle.std.proofs.lemmas.List.{take-append-drop}
use Rattle.words.specs.Words.{◌⊕◌}
use Rattle.words.proofs.Words.{fits_append, at_below}
use Rattle.words.proofs.Spelled.{spell, spelled_front, spelled_behind, fits_spell}
use Rattle.fields.specs.Alpha.{over_alpha}
use Rattle.generator.specs.Meaning.{State}
use Rattle.generator.proofs.States.{second_state}
use Rattle.snow.specs.Register.{at, feedback, plus}
use Rattle.snow.specs.Machines.{Machine, Sound}
use Rattle.snow.specs.Cipher.{machine, output, fsm, clocked, step, feed, keystream, machine_before, unclocked, unstep, unfeed}
use Rattle.snow.specs.ShiftLaws.{feedback_below, dropped_below, dropped_back, shifted_again, plain_back, plain_again}
use Rattle.snow.specs.Starts.{Steps}
use Rattle.snow.specs.Sums.{plus_below}

-- the words of a state, each below 2^32, and its machine; a property of the register written out is one of the state
pub parts : (n : ℕ) (P : List ℕ → Type 0) (s : List ℕ) → State (16 + n) s
    → ((i : ℕ) → at s i < 2 ^ 32) × State n (machine s) × (P (spell 16 0 s ++ machine s) → P s)
parts n P s st = (
  at_below (2 ^ 32) s (omega arith) st.fits,
  second_state 16 n st,
  subst P (sym (spelled_front 16 s (omega (arith, st.count)))),
)

-- a state is its register and the words behind it
pub parted : (n : ℕ) (s : List ℕ) → length s ≡ 16 + n → take 16 s ++ spell n 16 s ≡ s
parted n s len = ap (λ m. take 16 s ++ m) (sym (spelled_behind 16 n s len)) ∙ take-append-drop 16 s

output_below : (n : ℕ) {m : List ℕ} (a : ℕ) → State n m → output m a < 2 ^ 32
output_below n {m} a st = xor_lt 32 (plus a (at m 0)) (at m 1) (plus_below a (at m 0)) (at_below (2 ^ 32) m (omega arith) st.fits 1)

feedback_fits : (n : ℕ) {s : List ℕ} → State n s → feedback s < 2 ^ 32
feedback_fits n {s} st = let w = at_below (2 ^ 32) s (omega arith) st.fits in feedback_below (at s 0) (at s 2) (at s 11) (w 0) (w 2) (w 11)

module _ (c : Machine) (sound : Sound c) where
  fsm_below : {s : List ℕ} → State (16 + c.size) s → fsm s < 2 ^ 32
  fsm_below {s} st = let (w, m, known) = parts c.size (λ s. Unit {0}) s st in output_below c.size (at s 15) m

  pub keystream_fits : {s : List ℕ} → State (16 + c.size) s → keystream s < 2 ^ 32
  keystream_fits {s} st = let (w, m, known) = parts c.size (λ s. Unit {0}) s st in xor_lt 32 (fsm s) (at s 0) (fsm_below st) (w 0)

  -- a state after a step that shifted v in, and before one that joined v
  clocked_state : {s : List ℕ} (v : ℕ) → State (16 + c.size) s → v < 2 ^ 32 → State (16 + c.size) (clocked c s v)
  clocked_state {s} v st hv =
      let (w, m, known) = parts c.size (λ s. State (16 + c.size) (clocked c s v)) s st in
      let next = sound.next_state (at s 5) m (w 5) in
      known (record {
        count = omega (arith, next.count);
        fits = fits_append (2 ^ 32) (spell 15 1 s) (v ∷ c.next (machine s) (at s 5)) (fits_spell (2 ^ 32) 15 1 s w) (hv, next.fits);
      })

  unclocked_state : {s : List ℕ} (v : ℕ) → State (16 + c.size) s → v < 2 ^ 32 → State (16 + c.size) (unclocked c s v)
  unclocked_state {s} v st hv =
      let (w, m, known) = parts c.size (λ s. State (16 + c.size) (unclocked c s v)) s st in
      let back = sound.back_state (at s 4) m (w 4) in
      known (record {
        count = omega (arith, back.count);
        fits = (dropped_below (at s 15) v (at s 1) (at s 10) (w 15) hv (w 1) (w 10), fits_append (2 ^ 32) (spell 15 0 s) (machine_before c s) (fits_spell (2 ^ 32) 15 0 s w) back.fits);
      })

  fed_below : {s : List ℕ} → State (16 + c.size) s → output (machine_before c s) (at s 14) < 2 ^ 32
  fed_below {s} st = let (w, m, known) = parts c.size (λ s. Unit {0}) s st in output_below c.size (at s 14) (sound.back_state (at s 4) m (w 4))

  pub step_state : {s : List ℕ} → State (16 + c.size) s → State (16 + c.size) (step c s)
  unfolding step
  step_state {s} st = clocked_state (feedback s) st (feedback_fits (16 + c.size) st)

  pub feed_state : {s : List ℕ} → State (16 + c.size) s → State (16 + c.size) (feed c s)
  unfolding feed
  feed_state {s} st = clocked_state (feedback s ⊕ fsm s) st (xor_lt 32 (feedback s) (fsm s) (feedback_fits (16 + c.size) st) (fsm_below st))

  pub unstep_state : {s : List ℕ} → State (16 + c.size) s → State (16 + c.size) (unstep c s)
  unfolding unstep
  unstep_state {s} st = unclocked_state 0 st (omega arith)

  pub unfeed_state : {s : List ℕ} → State (16 + c.size) s → State (16 + c.size) (unfeed c s)
  unfolding unfeed
  unfeed_state {s} st = unclocked_state (output (machine_before c s) (at s 14)) st (fed_below st)

  pub unstep_step : {s : List ℕ} → State (16 + c.size) s → unstep c (step c s) ≡ s
  unfolding unstep step
  unstep_step {s} st =
      let (w, m, known) = parts c.size (λ s. unclocked c (clocked c s (feedback s)) 0 ≡ s) s st in
      let a0 = plain_back (at s 0) (at s 2) (over_alpha (at s 11)) (w 0) in
      let back = sound.back_next (at s 5) m (w 5) in
      known cc

  pub step_unstep : {s : List ℕ} → State (16 + c.size) s → step c (unstep c s) ≡ s
  unfolding unstep step
  step_unstep {s} st =
      let (w, m, known) = parts c.size (λ s. clocked c (unclocked c s 0) (feedback (unclocked c s 0)) ≡ s) s st in
      let a15 = plain_again (at s 15) (at s 1) (at s 10) (w 15) (w 1) (w 10) in
      let again = sound.next_back (at s 4) m (w 4) in
      known cc

  pub unfeed_feed : {s : List ℕ} → State (16 + c.size) s → unfeed c (feed c s) ≡ s
  unfolding unfeed feed
  unfeed_feed {s} st =
      let (w, m, known) = parts c.size (λ s. unfeed c (feed c s) ≡ s) s st in
      let back = sound.back_next (at s 5) m (w 5) in
      let fed : output (c.back (c.next (machine s) (at s 5)) (at s 5)) (at s 15) ≡ fsm s = ap (λ m. output m (at s 15)) back in
      let a0 = ap (λ v. over_alpha ((feedback s ⊕ fsm s) ⊕ v ⊕ at s 2 ⊕ over_alpha (at s 11))) fed ∙ dropped_back (at s 0) (at s 2) (over_alpha (at s 11)) (fsm s) (w 0) in
      known cc

  pub feed_unfeed : {s : List ℕ} → State (16 + c.size) s → feed c (unfeed c s) ≡ s
  unfolding unfeed feed
  feed_unfeed {s} st =
      let (w, m, known) = parts c.size (λ s. feed c (unfeed c s) ≡ s) s st in
      let a15 = shifted_again (at s 15) (output (machine_before c s) (at s 14)) (at s 1) (at s 10) (w 15) (fed_below st) (w 1) (w 10) in
      let again = sound.next_back (at s 4) m (w 4) in
      known cc

  pub steps : Steps (16 + c.size) (step c) (feed c) (unstep c) (unfeed c)
  steps = record {
    step_state = step_state;
    feed_state = feed_state;
    unstep_state = unstep_state;
    unfeed_state = unfeed_state;
    unstep_step = unstep_step;
    step_unstep = step_unstep;
    unfeed_feed = unfeed_feed;
    feed_unfeed = feed_unfeed;
  }
