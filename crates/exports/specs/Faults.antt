-- The numbers of what is refused on the state of a generator. Assumes nothing.
use Rattle.std.specs.Prelude.{ℕ}
use Rattle.session.specs.Refusals.{trace_number}
use Rattle.snow.specs.Refusals.{fill_number}
use Rattle.exports.specs.declared.faults.CallFault.{CallFault}
use Rattle.exports.specs.declared.faults.CallFault.TheVariants.{UnknownGenerator, Fill, Trace}

-- no generator has this number
abbrev pub unknown : ℕ
unknown = 18

abbrev pub call_number : CallFault → ℕ
call_number UnknownGenerator = unknown
call_number (Fill f) = fill_number f
call_number (Trace f) = trace_number f
