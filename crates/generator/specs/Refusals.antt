-- The numbers by which the refusals of a generator are known, and the member of a combined generator that a fault names. Assumes nothing.
use Rattle.std.specs.Prelude.{ℕ}
use Rattle.generator.specs.declared.Fault.{Fault}
use Rattle.generator.specs.declared.Fault.TheVariants.{Key, Iv}
use Rattle.generator.specs.declared.OriginFault.{OriginFault}
use Rattle.generator.specs.declared.OriginFault.TheVariants.{ShortBuffer, NoOrigin}

abbrev pub fault_number : Fault → ℕ
fault_number (Key k) = 3
fault_number (Iv k) = 4

abbrev pub member : Fault → ℕ
member (Key k) = k
member (Iv k) = k

abbrev pub origin_number : OriginFault → ℕ
origin_number ShortBuffer = 9
origin_number NoOrigin = 10
