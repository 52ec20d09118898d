-- The rule of a table. Assumes nothing.
use Rattle.std.specs.Prelude.{◌≡◌, ℕ, ◌<◌, List, length, slice_index_or}

-- each entry is what the rule has at its place
pub record Follows {X : Type 0} (rule : ℕ → X) (entries : List X) : Type 0 where
  pub each : (k : ℕ) (d : X) → k < length entries → slice_index_or entries k d ≡ rule k
