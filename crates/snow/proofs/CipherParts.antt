-- Steps of a cipher, by the register and the machine's words. Assumes nothing.
use Rattle.std.proofs.Common.{◌≡◌, ℕ, List, ◌++◌, length, refl, ap}
use Rattle.words.specs.Words.{◌⊕◌}
use Rattle.words.proofs.Spelled.{by_words}
use Rattle.snow.specs.Register.{at, feedback, shifted, unshifted}
use Rattle.snow.specs.Machines.{Machine}
use Rattle.snow.specs.Cipher.{output, fsm, clocked, step, keystream, machine_before, unclocked, unstep}

module _ (ws : List ℕ) (len : length ws ≡ 16) (m : List ℕ) where
  pub fsm_parts : fsm (ws ++ m) ≡ output m (at ws 15)
  fsm_parts = by_words 16 (λ ws. fsm (ws ++ m) ≡ output m (at ws 15)) ws len refl

  pub keystream_parts : keystream (ws ++ m) ≡ output m (at ws 15) ⊕ at ws 0
  keystream_parts = by_words 16 (λ ws. keystream (ws ++ m) ≡ output m (at ws 15) ⊕ at ws 0) ws len refl

  pub feedback_parts : feedback (ws ++ m) ≡ feedback ws
  feedback_parts = by_words 16 (λ ws. feedback (ws ++ m) ≡ feedback ws) ws len refl

  pub clocked_parts : (c : Machine) (v : ℕ) → clocked c (ws ++ m) v ≡ shifted ws v ++ c.next m (at ws 5)
  clocked_parts c v = by_words 16 (λ ws. clocked c (ws ++ m) v ≡ shifted ws v ++ c.next m (at ws 5)) ws len refl

  pub unclocked_parts : (c : Machine) (v : ℕ) → unclocked c (ws ++ m) v ≡ unshifted ws v ++ c.back m (at ws 4)
  unclocked_parts c v = by_words 16 (λ ws. unclocked c (ws ++ m) v ≡ unshifted ws v ++ c.back m (at ws 4)) ws len refl

  pub fed_parts : (c : Machine) → output (machine_before c (ws ++ m)) (at (ws ++ m) 14) ≡ output (c.back m (at ws 4)) (at ws 14)
  fed_parts c = by_words 16 (λ ws. output (machine_before c (ws ++ m)) (at (ws ++ m) 14) ≡ output (c.back m (at ws 4)) (at ws 14)) ws len refl

-- a step is one that shifts the feedback in, and back one that joined nothing
pub clocked_step : (c : Machine) (s : List ℕ) (v : ℕ) → v ≡ feedback s → clocked c s v ≡ step c s
unfolding step
clocked_step c s v e = ap (clocked c s) e

pub unclocked_unstep : (c : Machine) (s : List ℕ) → unclocked c s 0 ≡ unstep c s
unfolding unstep
unclocked_unstep c s = refl
