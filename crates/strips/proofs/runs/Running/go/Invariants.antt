use Rattle.std.proofs.Common.{◌≡◌, ◌-◌, length}
use Rattle.strips.specs.Runs.{Progress, Turns}
use Rattle.strips.specs.Turns.{SameBuffer, Holds}
use Rattle.strips.proofs.runs.Running.go.Given as goal

abbrev pub invariant-loop : goal.invariant-loop
invariant-loop g l =
    let before = l.initial.replies.buffer.now in
    (p : Progress) × Turns g.G.Generator.meaning l.initial.self.cursor.strip.bytes.now (length before) p l.self.session × Holds p before l.self.cursor l.replies
    × (l.self.cursor.strip ≡ l.initial.self.cursor.strip) × SameBuffer l.initial.replies l.replies

abbrev pub decreases-loop : goal.decreases-loop
decreases-loop g l = 16000 - l.self.cursor.place
