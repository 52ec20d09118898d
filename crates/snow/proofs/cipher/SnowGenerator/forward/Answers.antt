use Rattle.std.proofs.Common.{sym, ◌∙◌}
use Rattle.snow.specs.States.{state_of}
use Rattle.snow.proofs.CipherParts.{feedback_parts, clocked_step}
use Rattle.snow.proofs.cipher.SnowGenerator.forward.Goals as goal

pub returns : goal.returns
returns g c =
    let s = c.args.self.now in
    let x = s.register in
    c.clock.ensures ∙ clocked_step g.M.Machine.machine (state_of g.M.Machine.words s) _ (c.feedback-new.ensures ∙ sym (feedback_parts x.words x.count (g.M.Machine.words s.machine)))
