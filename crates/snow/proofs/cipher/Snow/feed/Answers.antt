use Rattle.std.proofs.Common.{sym, ap, ◌∙◌, ap₂}
use Rattle.words.specs.Words.{◌⊕◌}
use Rattle.snow.specs.Cipher.{clocked, feed}
use Rattle.snow.specs.States.{state_of}
use Rattle.snow.proofs.CipherParts.{feedback_parts, fsm_parts}
use Rattle.snow.proofs.cipher.Snow.feed.Goals as goal

pub returns : goal.returns
unfolding feed
returns g c =
    let s = c.args.self.now in
    let x = s.register in
    let m = g.M.Machine.words s.machine in
    c.clock.ensures
    ∙ ap (clocked g.M.Machine.machine (state_of g.M.Machine.words s)) (ap₂ ◌⊕◌ (c.feedback.ensures ∙ sym (feedback_parts x.words x.count m)) (c.output.ensures ∙ sym (fsm_parts x.words x.count m)))
