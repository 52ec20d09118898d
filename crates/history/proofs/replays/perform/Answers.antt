use Rattle.std.proofs.Common.{◌≡◌, replicate, vec_items, sym, ◌∙◌, subst, rules}
use Rattle.std.specs.Vec.{with_items}
use Rattle.std.proofs.lemmas.List.{with_items_is}
use Rattle.session.specs.Calls.{Opened, Applied}
use Rattle.history.specs.declared.requests.Request.TheVariants.{Origin}
use Rattle.history.specs.declared.requests.Answer.TheVariants.{Names}
use Rattle.history.specs.Replays.{Does, opens, applies, elsewhere, skips, steps_back, asks_place, asks_origin, closes}
use Rattle.history.proofs.Runs.{as_asked, origin_over}
use Rattle.history.proofs.replays.perform.Goals as goal

pub returns-in_ok-copy-in-Open : goal.returns-in_ok-copy-in-Open
returns-in_ok-copy-in-Open g c =
    let m = g.G.Generator.meaning in
    let v = c.args.session.now in
    let w = c.open.new.self in
    let iv = c.in-Open.iv in
    let limit = c.in-Open.limit in
    let r = c.open.result in
    let same : c.deref_mut.result.now ≡ c.in-Open.key.now = c.deref_mut.ensures.value ∙ c.in_ok-copy-in-Open.ensures.items_if_clones_equal (λ x y e. e) in
    as_asked c.in-Open.is
    (opens c.in-Open.key iv limit r c.are_bytes.ensures c.are_bytes-in-Open.ensures (subst (λ k. Opened m v k iv.now limit r w) same c.open.ensures.opened))

pub returns-in-ApplyToMessage : goal.returns-in-ApplyToMessage
returns-in-ApplyToMessage g c =
    as_asked c.in-ApplyToMessage.is (applies c.in-ApplyToMessage.start c.in-ApplyToMessage.count c.apply_keystream.result c.apply_keystream.ensures.applied)

pub returns-in_ok-copy-in-ApplyElsewhere : goal.returns-in_ok-copy-in-ApplyElsewhere
returns-in_ok-copy-in-ApplyElsewhere g c =
    let m = g.G.Generator.meaning in
    let v = c.args.session.now in
    let w = c.apply_keystream-done.new.self in
    let bytes = c.in-ApplyElsewhere.bytes in
    let start = c.in-ApplyElsewhere.start in
    let count = c.in-ApplyElsewhere.count in
    let copy = c.in_ok-copy-in-ApplyElsewhere.copy in
    let r = c.apply_keystream-done.result in
    let left = c.apply_keystream-done.new.buffer in
    let same : c.deref_mut-in-ApplyElsewhere.result.now ≡ bytes.now = c.deref_mut-in-ApplyElsewhere.ensures.value ∙ c.in_ok-copy-in-ApplyElsewhere.ensures.items_if_clones_equal (λ x y e. e) in
    let out : vec_items (with_items copy left) ≡ left = with_items_is copy left (search rules) in
    as_asked c.in-ApplyElsewhere.is
    (elsewhere bytes start count r (with_items copy left)
    (subst (λ b. Applied m v start count b r w (vec_items (with_items copy left))) same (subst (Applied m v start count c.deref_mut-in-ApplyElsewhere.result.now r w) (sym out) c.apply_keystream-done.ensures.applied)))

pub returns-in-Skip : goal.returns-in-Skip
returns-in-Skip g c = as_asked c.in-Skip.is (skips c.in-Skip.n c.skip.result c.skip.ensures.skipped)

pub returns-in-StepBack : goal.returns-in-StepBack
returns-in-StepBack g c = as_asked c.in-StepBack.is (steps_back c.in-StepBack.n c.step_back.result c.step_back.ensures.stepped)

pub returns-in-Position : goal.returns-in-Position
returns-in-Position g c = as_asked c.in-Position.is (asks_place c.position.result c.position.ensures.placed)

pub returns-in_ok-iv-in-Origin : goal.returns-in_ok-iv-in-Origin
returns-in_ok-iv-in-Origin g c =
    let m = g.G.Generator.meaning in
    let v = c.args.session.now in
    let key = c.in_ok-key-in-Origin.key in
    let iv = c.in_ok-iv-in-Origin.iv in
    let r = c.origin-named.result in
    let key_left = c.origin-named.new.key in
    let iv-left = c.origin-named.new.iv in
    let named = origin_over m v r c.deref_mut-in-Origin.result.now c.deref_mut-in-Origin-2.result.now key_left iv-left (replicate 255 0) (replicate 255 0) (vec_items (with_items key key_left)) (vec_items (with_items iv iv-left))
    (c.deref_mut-in-Origin.ensures.value ∙ c.in_ok-key-in-Origin.ensures.items_if_clones_equal (λ y e. e))
    (c.deref_mut-in-Origin-2.ensures.value ∙ c.in_ok-iv-in-Origin.ensures.items_if_clones_equal (λ y e. e))
    (with_items_is key key_left (search rules))
    (with_items_is iv iv-left (search rules))
    c.origin-named.ensures.named in
    as_asked c.in-Origin.is
    (subst (λ u. Does m v c.args.message.now Origin (Names r (with_items key key_left) (with_items iv iv-left)) u c.args.message.now) (sym c.origin-named.ensures.same)
    (asks_origin r (with_items key key_left) (with_items iv iv-left) named))

pub returns-in-Close : goal.returns-in-Close
returns-in-Close g c = as_asked c.in-Close.is (closes c.close.result c.close.ensures.closed)
