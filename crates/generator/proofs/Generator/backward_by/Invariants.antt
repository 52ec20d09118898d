use Rattle.std.proofs.Common.{◌≡◌}
use Rattle.generator.specs.Meaning.{times}
use Rattle.generator.proofs.Generator.backward_by.Given as goal

abbrev pub invariant-loop : goal.invariant-loop
invariant-loop g l = g.Self.Generator.state l.self ≡ times l.counter g.Self.Generator.meaning.back (g.Self.Generator.state l.fn.self)
