use Rattle.std.proofs.Common.{◌+◌, cond, sym, ap, ◌∙◌, subst, ap₂, arith}
use Rattle.strips.specs.Orders.{asked}
use Rattle.strips.specs.Replies.{refusal_reply}
use Rattle.strips.specs.Answered.{in_buffer}
use Rattle.strips.specs.Runs.{reply_to}
use Rattle.strips.specs.Turns.{Wrote}
use Rattle.strips.proofs.Turning.{refusals_is, turned_full, turned_too_long, turned_unread, turned_done}
use Rattle.strips.proofs.runs.Running.turn.Goals as goal

pub returns-then-room-lt4-clause-turned : goal.returns-then-room-lt4-clause-turned
returns-then-room-lt4-clause-turned g c = λ p before h. turned_full h c.args.self.now.session _ (omega (arith, c.room.ensures))

pub returns-in-Err-clause-turned : goal.returns-in-Err-clause-turned
returns-in-Err-clause-turned g c =
    let same = ap₂ (λ n w. refusal_reply n 0 w) c.number.ensures c.place-place.ensures.place in
    let wrote = subst (λ bytes. Wrote c.args.replies.now bytes c.put_refusal.new.self) same c.put_refusal.ensures in
    λ p before h. turned_unread h c.args.self.now.session _ c.in-Err.stop c.put_refusal.new.self (omega (arith, c.room.ensures)) (sym c.in-Err.ensures.reads) wrote

pub returns-then-room-reply_room-clause-turned : goal.returns-then-room-reply_room-clause-turned
returns-then-room-reply_room-clause-turned g c =
    λ p before h. turned_too_long h c.args.self.now.session _ c.in-Ok.entry.order c.in-Ok.entry.words (omega (arith, c.room.ensures)) (sym c.in-Ok.ensures.reads) (omega (arith, c.room-2.ensures, c.reply_room.ensures))

pub returns-clause-turned : goal.returns-clause-turned
returns-clause-turned g c =
    let cursor = c.args.self.now.cursor in
    let replies = c.args.replies.now in
    let order = c.in-Ok.entry.order in
    let a = in_buffer c.answer-answer.result c.answer-answer.new.reply in
    let wrote = subst (λ place. Wrote replies (reply_to place (asked order) a) c.put_answer.new.self) c.place-place.ensures.place c.put_answer.ensures in
    let moved = c.behind-self.ensures in
    let refused = moved.2 ∙ ap (λ b. cursor.refused + cond b 1 0) c.is_err.ensures.value ∙ ap (λ n. cursor.refused + n) (refusals_is c.answer-answer.result c.answer-answer.new.reply) in
    λ p before h. turned_done h c.args.self.now.session _ c.answer-answer.new.session order c.in-Ok.entry.words a c.behind-self.result c.put_answer.new.self (omega (arith, c.room.ensures)) (sym c.in-Ok.ensures.reads) (omega (arith, c.room-2.ensures, c.reply_room.ensures)) c.answer-answer.ensures.answered wrote moved.1 refused
