use Rattle.std.proofs.Common.{refl, ap, ◌∙◌, arith}
use Rattle.words.specs.Words.{bytes_of}
use Rattle.strips.specs.Replies.{put_at, refusal_reply}
use Rattle.strips.proofs.replies.Replies.put_refusal.Goals as goal

pub returns : goal.returns
unfolding refusal_reply
returns c = record { same_buffer = (refl, c.put_word.auto.buffer); buffer = c.put_word.ensures ∙ ap (λ w. put_at c.args.self.now.written (bytes_of w) c.args.self.now.buffer.now) (omega arith); written = refl }
