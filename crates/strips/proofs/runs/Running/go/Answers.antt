use Rattle.std.proofs.Common.{◌≡◌, Err, refl, ap, ◌∙◌, sym}
use Rattle.std.specs.Result.{result_err}
use Rattle.std.proofs.lemmas.Result.{err_from_is_err_and}
use Rattle.strips.specs.Runs.{outcome}
use Rattle.strips.proofs.Turning.{goes_on, went, begins}
use Rattle.strips.proofs.runs.Running.go.Goals as goal

pub loop-init : goal.loop-init
loop-init g c = let b = begins c.requires in (b.0, b.1, b.2, refl, (refl, refl))

pub loop-preserved : goal.loop-preserved
loop-preserved g c =
    let inv = c.loop.invariant in
    let before = c.args.replies.now.buffer.now in
    let said = c.in_ok-turn.ensures in
    let on = goes_on c.args.self.now.cursor c.loop.self.cursor c.turn.new.self.cursor before inv.3 inv.4.1 c.in_ok-turn.field-0 (sym c.if-not-is_end.ensures) inv.1 (said.turned inv.0 before inv.2) in
    (on.0, on.1, on.2, said.onward.0 ∙ inv.3, (said.same_buffer.0 ∙ inv.4.0, said.same_buffer.1 ∙ inv.4.1))

pub returns-in_err-turn-clause-went : goal.returns-in_err-turn-clause-went
returns-in_err-turn-clause-went g c =
    let inv = c.loop.invariant in
    let before = c.args.replies.now.buffer.now in
    let stop = c.in_err-turn.field-0.0 in
    let told = err_from_is_err_and c.from_residual.result c.from_residual.ensures.1 in
    let same : c.from_residual.result ≡ Err stop = cc in
    let is : Err stop ≡ outcome (result_err c.from_residual.result) = ap (λ r. outcome (result_err r)) (sym same) in
    went c.args.self.now.cursor c.loop.self.cursor c.turn.new.self.cursor before inv.3 inv.4.1 (Err stop) (result_err c.from_residual.result) is inv.1 (c.in_err-turn.ensures.turned inv.0 before inv.2)
