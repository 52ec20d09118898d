-- The numbers by which the refusals of a session and of a trace are known, and the member that a fault from below names. Assumes nothing.
use Rattle.std.specs.Prelude.{ℕ}
use Rattle.generator.specs.Refusals.{fault_number, member, origin_number}
use Rattle.session.specs.declared.refusals.Refusal.{Refusal}
use Rattle.session.specs.declared.refusals.Refusal.TheVariants.{AlreadyOpen, BadLimit, Load, NotOpen, PastBuffer, PastLimit, BeforeStart, Origin}
use Rattle.session.specs.declared.refusals.TraceFault.{TraceFault}
use Rattle.session.specs.declared.refusals.TraceFault.TheVariants.{ShortBuffer, TooFar, NoOrigin}

abbrev pub number : Refusal → ℕ
number AlreadyOpen = 1
number BadLimit = 2
number (Load fault) = fault_number fault
number NotOpen = 5
number PastBuffer = 6
number PastLimit = 7
number BeforeStart = 8
number (Origin fault) = origin_number fault

-- the member of a combined generator whose key or IV has no load, and 0 for every other refusal
abbrev pub member_of : Refusal → ℕ
member_of AlreadyOpen = 0
member_of BadLimit = 0
member_of (Load fault) = member fault
member_of NotOpen = 0
member_of PastBuffer = 0
member_of PastLimit = 0
member_of BeforeStart = 0
member_of (Origin fault) = 0

abbrev pub trace_number : TraceFault → ℕ
trace_number ShortBuffer = 9
trace_number TooFar = 11
trace_number NoOrigin = 10
