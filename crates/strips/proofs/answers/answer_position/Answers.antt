use Rattle.std.proofs.Common.{◌≡◌, length, take, Ok, Err, sym, ap, ◌∙◌, subst, arith}
use Rattle.strips.specs.Orders.{placing}
use Rattle.strips.specs.Answered.{Answered, asks_place, eight_bytes}
use Rattle.strips.proofs.Puts.{take_put}
use Rattle.strips.proofs.Answering.{refused}
use Rattle.strips.proofs.answers.answer_position.Goals as goal

pub returns-in_err-position-clause-answered : goal.returns-in_err-position-clause-answered
returns-in_err-position-clause-answered g c =
    refused c.from_residual.result _ c.in_err-position.field-0.0 c.from_residual.ensures.1
    (asks_place (Err c.in_err-position.field-0.0) c.in_err-position.ensures.placed)

pub returns-clause-answered : goal.returns-clause-answered
returns-clause-answered g c =
    let n = c.in_ok-position.position in
    let bytes = c.to_be_bytes.result in
    let long : length bytes ≡ 8 = ap length c.to_be_bytes.ensures in
    let same : take 8 c.put.new.buffer ≡ eight_bytes n =
    ap (take 8) c.put.ensures ∙ take_put 0 bytes c.args.reply.now 8 (omega arith) (omega arith) ∙ c.to_be_bytes.ensures in
    let v = c.args.session.now in
    subst (λ bs. Answered g.G.Generator.meaning v placing (Ok bs) v) (sym same) (asks_place (Ok n) c.in_ok-position.ensures.placed)
