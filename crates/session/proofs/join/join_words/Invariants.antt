use Rattle.std.proofs.Common.{◌≡◌, ◌*◌}
use Rattle.words.specs.Words.{Bytes}
use Rattle.session.specs.View.{placed, ahead}
use Rattle.session.specs.Calls.{Joined}
use Rattle.session.proofs.join.join_words.Given as goal

abbrev pub invariant-loop-i : goal.invariant-loop-i
invariant-loop-i g l =
    Bytes l.bytes
    × (g.G.Generator.state l.generator ≡ ahead g.G.Generator.meaning (placed (g.G.Generator.state l.initial.generator) 0) (4 * l.i))
    × Joined g.G.Generator.meaning (placed (g.G.Generator.state l.initial.generator) 0) 0 (4 * l.i) l.initial.bytes l.bytes
