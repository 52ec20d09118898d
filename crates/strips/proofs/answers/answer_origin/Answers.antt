use Rattle.std.proofs.Common.{◌≡◌, ℕ, ◌-◌, List, ◌∷◌, ◌++◌, take, replicate, Ok, Err, sym, ◌∙◌, subst, ap₂}
use Rattle.strips.specs.Orders.{naming}
use Rattle.strips.specs.Answered.{Answered, asks_origin}
use Rattle.strips.proofs.Puts.{front_part}
use Rattle.strips.proofs.Answering.{refused, origin_short, same_session}
use Rattle.strips.proofs.answers.answer_origin.Goals as goal

pub returns-in_err-key_len-clause-answered : goal.returns-in_err-key_len-clause-answered
returns-in_err-key_len-clause-answered g c =
    let e = c.in_err-key_len.field-0.0 in
    refused c.from_residual.result _ e c.from_residual.ensures.1 (same_session c.origin.ensures.same (asks_origin (Err e) c.origin.new.key c.origin.new.iv c.in_err-key_len.ensures.named))

pub returns-clause-answered : goal.returns-clause-answered
returns-clause-answered g c =
    let v = c.args.session.now in
    let m = g.G.Generator.meaning in
    let k = c.in_ok-key_len.key_len in
    let i = c.in_ok-key_len.iv_len in
    let key = c.origin.new.key in
    let iv = c.origin.new.iv in
    let short = origin_short m v (replicate 255 0) (replicate 255 0) (k, i) key iv c.in_ok-key_len.ensures.named in
    let kp = front_part k key short.0 in
    let ip = front_part i iv short.1 in
    let same : take c.put_names.result c.put_names.new.reply ≡ k ∷ i ∷ (take k key ++ take i iv) = c.put_names.ensures.names ∙ ap₂ (λ (x y : ℕ). x ∷ y ∷ (take (k - 0) key ++ take (i - 0) iv)) kp.1 ip.1 ∙ ap₂ (λ (x y : List ℕ). k ∷ i ∷ (x ++ y)) kp.0 ip.0 in
    let ks = c.origin.auto.key in
    let is = c.origin.auto.iv in
    subst (λ bs. Answered m v naming (Ok bs) c.origin.new.self) (sym same) (same_session c.origin.ensures.same (asks_origin (Ok (k, i)) key iv c.in_ok-key_len.ensures.named))
