-- Runs of requests are runs of calls. Assumes nothing.
use Rattle.std.proofs.Common.{◌≡◌, ℕ, ◌+◌, ◌<◌, ◌≤◌, Bool, true, false, cond, eqb, List, [], ◌∷◌, ◌++◌, length, get_or, take, Ok, Err, vec_items, Result, sym, refl, subst, eqb-true}
use borrow.Author.Tests.{eqb-false}
use Rattle.std.proofs.lemmas.List.{take_more}
use Rattle.generator.specs.Meaning.{Meaning}
use Rattle.history.specs.declared.requests.Request.{Request}
use Rattle.history.specs.declared.requests.Answer.{Answer}
use Rattle.session.specs.View.{View}
use Rattle.session.specs.declared.refusals.Refusal.{Refusal}
use Rattle.session.specs.Calls.{Applied, OriginOf}
use Rattle.history.specs.Laws.{Event, piece, stray, unchanged, Call, open_accepted, open_refused, apply_piece, apply_stray, apply_refused, elsewhere_accepted, elsewhere_refused, skip_accepted, skip_refused, back_accepted, back_refused, ask, close_accepted, close_refused, After, made, then}
use Rattle.history.specs.Replays.{Does, opens, applies, elsewhere, skips, steps_back, asks_place, asks_origin, closes, accepted, event, Ran, none, more, Stopped}

-- an accepted call on the message, at the position or not
on_message : (m : Meaning) (v w : View) (msg after : List ℕ) (start count : ℕ) → Applied m v start count msg (Ok tt) w after → Call m v msg (cond (eqb start v.position) (piece start count) (stray start count)) w after
on_message m v w msg after start count p = go (eqb start v.position) refl
  where
    go : (b : Bool) → eqb start v.position ≡ b → Call m v msg (cond b (piece start count) (stray start count)) w after
    go true e =
        let at = eqb-true start v.position e in
        subst (λ s. Call m v msg (piece s count) w after) (sym at) (apply_piece count (subst (λ s. Applied m v s count msg (Ok tt) w after) at p))
    go false e = apply_stray start count (eqb-false start v.position e) p

is_call : {m : Meaning} {v w : View} {msg after : List ℕ} {q : Request} {a : Answer} → Does m v msg q a w after → Call m v msg (cond (accepted a) (event v msg q) unchanged) w after
is_call (opens key iv limit (Ok tt) kb ib p) = open_accepted key.now iv.now limit kb ib p
is_call (opens key iv limit (Err e) kb ib p) = open_refused key.now iv.now limit e p
is_call {m} {v} {w} {msg} {after} (applies start count (Ok tt) p) = on_message m v w msg after start count p
is_call (applies start count (Err e) p) = apply_refused start count e p
is_call (elsewhere bytes start count (Ok tt) out p) = elsewhere_accepted start count bytes.now (vec_items out) p
is_call (elsewhere bytes start count (Err e) out p) = elsewhere_refused start count bytes.now (vec_items out) e p
is_call (skips n (Ok tt) p) = skip_accepted n p
is_call (skips n (Err e) p) = skip_refused n e p
is_call (steps_back n (Ok tt) p) = back_accepted n p
is_call (steps_back n (Err e) p) = back_refused n e p
is_call (asks_place (Ok n) p) = ask
is_call (asks_place (Err e) p) = ask
is_call (asks_origin (Ok n) key iv p) = ask
is_call (asks_origin (Err e) key iv p) = ask
is_call (closes (Ok tt) p) = close_accepted p
is_call (closes (Err e) p) = close_refused e p

pub after_run : {m : Meaning} {given : List ℕ} {qs : List Request} {rs : List Answer} {h : List Event} {v : View} {msg : List ℕ} → Ran m given qs rs h v msg → After m h v msg
after_run none = made
after_run (more r d) = then (after_run r) (is_call d)

-- an origin, over other names for what the buffers held and hold
pub origin_over : (m : Meaning) (v : View) (r : Result (ℕ × ℕ) Refusal) (key iv key-after iv-after key' iv' key-after' iv-after' : List ℕ) → key ≡ key' → iv ≡ iv' → key-after' ≡ key-after → iv-after' ≡ iv-after → OriginOf m v key iv r key-after iv-after
    → OriginOf m v key' iv' r key-after' iv-after'
origin_over m v r key iv key-after iv-after key' iv' key-after' iv-after' e f e' f' named =
    subst (λ x. OriginOf m v x iv' r key-after' iv-after') e (subst (λ x. OriginOf m v key x r key-after' iv-after') f (subst (λ x. OriginOf m v key iv r x iv-after') (sym e') (subst (OriginOf m v key iv r key-after) (sym f') named)))

-- what was asked, under another name for it
pub as_asked : {m : Meaning} {v w : View} {msg after : List ℕ} {q asked : Request} {a : Answer} → asked ≡ q → Does m v msg q a w after → Does m v msg asked a w after
as_asked {m} {v} {w} {msg} {after} {a = a} e = subst (λ r. Does m v msg r a w after) (sym e)

-- the next of a list of requests
pub ran_more : {m : Meaning} {given : List ℕ} (qs : List Request) (i : ℕ) (d : Request) (rs rs' : List Answer) {h : List Event} {v w : View} {msg after : List ℕ} (a : Answer)
    → i < length qs → rs' ≡ rs ++ a ∷ [] → Ran m given (take i qs) rs h v msg → Does m v msg (get_or qs i d) a w after → (h : List Event) × Ran m given (take (i + 1) qs) rs' h w after
ran_more {m} {given} qs i d rs rs' {h} {v} {w} {msg} {after} a lt e ran does =
    let h' = cond (accepted a) (event v msg (get_or qs i d)) unchanged ∷ h in
    (h', subst (λ xs. Ran m given xs rs' h' w after) (sym (take_more qs i d lt)) (subst (λ ys. Ran m given (take i qs ++ get_or qs i d ∷ []) ys h' w after) (sym e) (more ran does)))

-- memory ran out after so many requests, and the message was left as they left it
pub stopped : {m : Meaning} {given : List ℕ} (qs : List Request) (count : ℕ) (rs : List Answer) (h : List Event) (v : View) (msg left : List ℕ) → left ≡ msg → count ≤ length qs → Ran m given (take count qs) rs h v msg → Stopped m given qs left
stopped {m} {given} qs count rs h v msg left e within ran =
    subst (Stopped m given qs) (sym e) (record { count = count; within = within; answers = rs; events = h; view = v; ran = ran; after = after_run ran })
