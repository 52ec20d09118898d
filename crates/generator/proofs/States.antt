-- States joined, and apart again. Assumes nothing.
use Rattle.std.proofs.Common.{ℕ, ◌+◌, List, ◌++◌, take, drop, arith, length-append, length-drop}
use Rattle.std.proofs.lemmas.List.{length-take-le}
use Rattle.words.proofs.Words.{fits_take, fits_drop, fits_append}
use Rattle.generator.specs.Meaning.{State}

module _ (n k : ℕ) where
  pub first_state : {s : List ℕ} → State (n + k) s → State n (take n s)
  first_state {s} st = record { count = length-take-le n s (omega (arith, st.count)); fits = fits_take _ n s st.fits }

  pub second_state : {s : List ℕ} → State (n + k) s → State k (drop n s)
  second_state {s} st = record { count = simp length-drop (omega (arith, st.count)); fits = fits_drop _ n s st.fits }

  pub joined_state : {s t : List ℕ} → State n s → State k t → State (n + k) (s ++ t)
  joined_state {s} {t} st st' = record { count = simp length-append (omega (arith, st.count, st'.count)); fits = fits_append _ s t st.fits st'.fits }
