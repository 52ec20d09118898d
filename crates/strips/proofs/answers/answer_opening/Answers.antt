use Rattle.std.proofs.Common.{Ok, Err}
use Rattle.strips.proofs.Answering.{refused, opening_answered}
use Rattle.strips.proofs.answers.answer_opening.Goals as goal

pub returns-in_err-open-clause-answered : goal.returns-in_err-open-clause-answered
returns-in_err-open-clause-answered g c =
    refused c.from_residual.result _ c.in_err-open.field-0.0 c.from_residual.ensures.1
    (opening_answered c.args.key.now c.copy_from_slice.new.self c.args.iv.now c.args.limit (Err c.in_err-open.field-0.0) c.copy_from_slice.ensures.after c.are_bytes.ensures c.are_bytes-2.ensures c.in_err-open.ensures.opened)

pub returns-clause-answered : goal.returns-clause-answered
returns-clause-answered g c =
    opening_answered c.args.key.now c.copy_from_slice.new.self c.args.iv.now c.args.limit (Ok tt) c.copy_from_slice.ensures.after c.are_bytes.ensures c.are_bytes-2.ensures c.in_ok-open.ensures.opened
