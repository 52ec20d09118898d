use Rattle.std.proofs.Common.{Ok, Err, sym, subst}
use Rattle.generator.proofs.Handed.{handed_on}
use Rattle.session.specs.Calls.{Opened}
use Rattle.exports.specs.Answers.{Sent, not_opened, not_skipped, applied}
use Rattle.exports.proofs.keystreams.send.Goals as goal

pub returns-in_err-open : goal.returns-in_err-open
returns-in_err-open g c =
    let m = g.G.Generator.meaning in
    let task = c.args.task in
    let buffer = c.args.buffer.now in
    let e = c.in_err-open.field-0.0 in
    let after = c.open.new.self in
    let made = subst (λ v. Opened m v c.args.key.now task.iv.now task.limit (Err e) after) c.new-session.ensures c.in_err-open.ensures.opened in
    record {
      sent = subst (λ r. Sent m c.args.key.now task.iv.now task.limit task.skipped task.start task.count buffer r buffer) (sym (handed_on c.from_residual.result e c.from_residual.ensures.1))
          (not_opened after e made);
      wiped = c.open.ensures.wiped;
    }

pub returns-in_err-skip : goal.returns-in_err-skip
returns-in_err-skip g c =
    let m = g.G.Generator.meaning in
    let task = c.args.task in
    let buffer = c.args.buffer.now in
    let e = c.in_err-skip.field-0.0 in
    let after = c.open.new.self in
    let made = subst (λ v. Opened m v c.args.key.now task.iv.now task.limit (Ok tt) after) c.new-session.ensures c.in_ok-open.ensures.opened in
    record {
      sent = subst (λ r. Sent m c.args.key.now task.iv.now task.limit task.skipped task.start task.count buffer r buffer) (sym (handed_on c.from_residual-in_err-skip.result e c.from_residual-in_err-skip.ensures.1))
          (not_skipped after _ e made c.in_err-skip.ensures.skipped);
      wiped = c.open.ensures.wiped;
    }

pub returns : goal.returns
returns g c =
    let m = g.G.Generator.meaning in
    let task = c.args.task in
    let after = c.open.new.self in
    let made = subst (λ v. Opened m v c.args.key.now task.iv.now task.limit (Ok tt) after) c.new-session.ensures c.in_ok-open.ensures.opened in
    record {
      sent = applied after _ _ _ c.apply_keystream.result made c.in_ok-skip.ensures.skipped c.apply_keystream.ensures.applied;
      wiped = c.open.ensures.wiped;
    }
