-- Thirty-two feed steps and one plain step, and their undoing, of any cipher whose steps undo each other. Assumes nothing.
use Rattle.std.specs.Prelude.{◌≡◌, ℕ, List}
use Rattle.std.proofs.Common.{ap, ◌∙◌}
use Rattle.generator.specs.Meaning.{State, times}
use Rattle.generator.proofs.Repeats.{kept_state, undone}

pub record Steps (size : ℕ) (step feed unstep unfeed : List ℕ → List ℕ) : Type 0 where
  pub step_state : {s : List ℕ} → State size s → State size (step s)
  pub feed_state : {s : List ℕ} → State size s → State size (feed s)
  pub unstep_state : {s : List ℕ} → State size s → State size (unstep s)
  pub unfeed_state : {s : List ℕ} → State size s → State size (unfeed s)
  pub unstep_step : {s : List ℕ} → State size s → unstep (step s) ≡ s
  pub step_unstep : {s : List ℕ} → State size s → step (unstep s) ≡ s
  pub unfeed_feed : {s : List ℕ} → State size s → unfeed (feed s) ≡ s
  pub feed_unfeed : {s : List ℕ} → State size s → feed (unfeed s) ≡ s

module _ (size : ℕ) (step feed unstep unfeed : List ℕ → List ℕ) (laws : Steps size step feed unstep unfeed) where
  pub started_state : {s : List ℕ} → State size s → State size (step (times 32 feed s))
  started_state {s} st = laws.step_state (kept_state size unfeed feed (λ s. laws.feed_state) (λ s. laws.unfeed_feed) 32 s st)

  pub rewound_state : {s : List ℕ} → State size s → State size (times 32 unfeed (unstep s))
  rewound_state {s} st = kept_state size feed unfeed (λ s. laws.unfeed_state) (λ s. laws.feed_unfeed) 32 (unstep s) (laws.unstep_state st)

  pub rewound_started : {s : List ℕ} → State size s → times 32 unfeed (unstep (step (times 32 feed s))) ≡ s
  rewound_started {s} st =
      ap (times 32 unfeed) (laws.unstep_step (kept_state size unfeed feed (λ s. laws.feed_state) (λ s. laws.unfeed_feed) 32 s st))
      ∙ undone size unfeed feed (λ s. laws.feed_state) (λ s. laws.unfeed_feed) 32 0 s st

  pub started_rewound : {s : List ℕ} → State size s → step (times 32 feed (times 32 unfeed (unstep s))) ≡ s
  started_rewound {s} st =
      ap step (undone size feed unfeed (λ s. laws.unfeed_state) (λ s. laws.feed_unfeed) 32 0 (unstep s) (laws.unstep_state st)) ∙ laws.step_unstep st
