use Rattle.std.proofs.Common.{List, take, vec_items}
use Rattle.history.specs.Laws.{Event}
use Rattle.history.specs.Replays.{Ran}
use Rattle.history.proofs.replays.replay.Given as goal

abbrev pub invariant-loop-request : goal.invariant-loop-request
invariant-loop-request g l =
    (h : List Event) × Ran g.G.Generator.meaning l.initial.message (take l.request-index l.requests) (vec_items l.answers) h l.session l.message
