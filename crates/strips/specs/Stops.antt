-- The numbers by which the stops of a run are known. Assumes nothing.
use Rattle.std.specs.Prelude.{ℕ, Some, None, Option}
use Rattle.strips.specs.declared.stops.Stop.{Stop}
use Rattle.strips.specs.declared.stops.Stop.TheVariants.{BadLength, CutShort, BadWord, NoRoom, UnknownGenerator}

abbrev pub stop_number : Stop → ℕ
stop_number BadLength = 14
stop_number CutShort = 15
stop_number BadWord = 16
stop_number NoRoom = 17
stop_number UnknownGenerator = 18

-- the number of a run's outcome: 0 where it came to its end
abbrev pub outcome_number : Option Stop → ℕ
outcome_number (Some s) = stop_number s
outcome_number None = 0
