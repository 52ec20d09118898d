use Rattle.std.proofs.Common.{◌≡◌, ◌++◌, drop, ap, ◌∙◌, ap₂, rules}
use Rattle.strips.specs.Stops.{stop_number}
use Rattle.strips.specs.Replies.{put_at, refusal_reply}
use Rattle.strips.proofs.runs.refuse.Goals as goal

pub returns-clause-replies : goal.returns-clause-replies
unfolding refusal_reply
returns-clause-replies c =
    let begun = c.new-replies.ensures.none in
    let written : c.put_refusal.new.self.buffer.now ≡ refusal_reply (stop_number c.args.stop) 0 0 ++ drop 4 c.args.replies.now =
    c.put_refusal.ensures.buffer ∙ ap₂ (λ at before. put_at at (refusal_reply c.number.result 0 0) before) begun.1 begun.0 ∙ ap (λ n. refusal_reply n 0 0 ++ drop 4 c.args.replies.now) c.number.ensures in
    search rules ∙ written
