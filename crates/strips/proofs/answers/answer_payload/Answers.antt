use Rattle.std.proofs.Common.{◌≡◌, length, Ok, Err, sym, ap, ◌∙◌, subst}
use Rattle.std.proofs.lemmas.List.{take_at}
use Rattle.strips.specs.Orders.{applying}
use Rattle.strips.specs.Answered.{Answered}
use Rattle.strips.proofs.Answering.{refused, payload_answered}
use Rattle.strips.proofs.answers.answer_payload.Goals as goal

pub returns-in_err-apply_keystream-clause-answered : goal.returns-in_err-apply_keystream-clause-answered
returns-in_err-apply_keystream-clause-answered g c =
    refused c.from_residual.result _ c.in_err-apply_keystream.field-0.0 c.from_residual.ensures.1
    (payload_answered c.args.payload.now c.copy_from_slice.new.self c.apply_keystream.new.buffer (Err c.in_err-apply_keystream.field-0.0) c.copy_from_slice.ensures.after c.in_err-apply_keystream.ensures.applied)

pub returns-clause-answered : goal.returns-clause-answered
returns-clause-answered g c =
    let payload = c.args.payload.now in
    let after = c.apply_keystream.new.buffer in
    let long : length after ≡ length payload = c.apply_keystream.auto.buffer ∙ ap length c.copy_from_slice.ensures.after in
    subst (λ bytes. Answered g.G.Generator.meaning c.args.session.now (applying payload) (Ok bytes) c.apply_keystream.new.self)
    (sym (take_at after _ (length payload) long))
    (payload_answered payload c.copy_from_slice.new.self after (Ok tt) c.copy_from_slice.ensures.after c.in_ok-apply_keystream.ensures.applied)
