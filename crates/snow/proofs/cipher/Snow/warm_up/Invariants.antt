use Rattle.std.proofs.Common.{◌≡◌}
use Rattle.generator.specs.Meaning.{times}
use Rattle.snow.specs.Cipher.{feed}
use Rattle.snow.specs.States.{state_of}
use Rattle.snow.proofs.cipher.Snow.warm_up.Given as goal

abbrev pub invariant-loop : goal.invariant-loop
invariant-loop g l = state_of g.M.Machine.words l.self ≡ times l.counter (feed g.M.Machine.machine) (state_of g.M.Machine.words l.initial.self)
