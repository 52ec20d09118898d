use Rattle.std.proofs.Common.{◌≡◌}
use Rattle.generator.specs.Meaning.{times}
use Rattle.snow.specs.Cipher.{unfeed}
use Rattle.snow.specs.States.{state_of}
use Rattle.snow.proofs.cipher.Snow.rewind.Given as goal

abbrev pub invariant-loop : goal.invariant-loop
invariant-loop g l = state_of g.M.Machine.words l.self ≡ times l.counter (unfeed g.M.Machine.machine) (state_of g.M.Machine.words l.initial.self)
