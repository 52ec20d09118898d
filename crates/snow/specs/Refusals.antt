-- Filling a generator from a list of words. Assumes nothing.
use Rattle.std.specs.Prelude.{◌≡◌, ℕ, cond, List, length, Ok, Err, Result, ◌==◌}
use Rattle.snow.specs.declared.refusals.FillFault.{FillFault}
use Rattle.snow.specs.declared.refusals.FillFault.TheVariants.{WrongCount}

-- the number by which a refused filling is known
abbrev pub fill_number : FillFault → ℕ
fill_number WrongCount = 12

-- what filling a generator of n words answers, and the state that it leaves
abbrev pub Filled : ℕ → List ℕ → List ℕ → Result Unit FillFault → List ℕ → Type 0
Filled n words before r after = cond (length words == n) ((r ≡ Ok tt) × (after ≡ words)) ((r ≡ Err WrongCount) × (after ≡ before))
