use Rattle.std.proofs.Common.{◌≡◌, ◌+◌, [], ◌∷◌, ◌++◌, length, take, refl, ap, ◌∙◌, arith}
use Rattle.strips.proofs.Puts.{take_put}
use Rattle.strips.proofs.answers.put_names.Goals as goal

pub returns-clause-names : goal.returns-clause-names
returns-clause-names c =
    let reply = c.args.reply.now in
    let key = c.args.key.now in
    let iv = c.args.iv.now in
    let b1 = c.put.new.buffer in
    let b2 = c.put-2.new.buffer in
    let room : (length b1 ≡ length reply) × (length b2 ≡ length b1) = (c.put.auto.buffer, c.put-2.auto.buffer) in
    let lengths : take 2 b1 ≡ length key ∷ length iv ∷ [] = ap (take 2) c.put.ensures ∙ take_put 0 (length key ∷ length iv ∷ []) reply 2 (omega arith) refl in
    let with-key : take (2 + length key) b2 ≡ take 2 b1 ++ key = ap (take (2 + length key)) c.put-2.ensures ∙ take_put 2 key b1 (2 + length key) (omega arith) refl in
    let with_iv = ap (take (2 + length key + length iv)) c.put-3.ensures ∙ take_put (2 + length key) iv b2 (2 + length key + length iv) (omega arith) refl in
    with_iv ∙ ap (λ bs. bs ++ iv) (with-key ∙ ap (λ bs. bs ++ key) lengths)
