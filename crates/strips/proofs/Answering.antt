-- What a session's calls say of the orders put to it. Assumes nothing.
use Rattle.std.proofs.Common.{◌≡◌, ℕ, ◌+◌, ◌/◌, ◌≤◌, Bool, true, false, cond, List, [], length, drop, IsErrAnd, Ok, Err, Result, sym, ap, ◌∙◌, subst, arith}
use Rattle.std.proofs.lemmas.List.{length-append}
use Rattle.words.specs.Words.{Bytes}
use Rattle.generator.specs.Meaning.{Meaning}
use Rattle.generator.specs.Calls.{Named}
use Rattle.generator.proofs.Handed.{handed_on}
use Rattle.generator.specs.declared.OriginFault.{OriginFault}
use Rattle.session.specs.declared.refusals.Refusal.{Refusal}
use Rattle.session.specs.declared.refusals.Refusal.TheVariants.{NotOpen}
use Rattle.session.specs.View.{View}
use Rattle.session.specs.Calls.{closed, Opened, Applied, OriginOf, from_origin}
use Rattle.strips.specs.declared.orders.Order.{Order}
use Rattle.strips.specs.Orders.{Asked, opening, applying, asked}
use Rattle.strips.specs.Answered.{Answered, opens, applies, with_bytes, in_buffer}

-- a refusal that a `?` hands up
pub refused : {m : Meaning} {v w : View} {q : Asked} (r : Result ℕ Refusal) (buffer : List ℕ) (e : Refusal) → IsErrAnd r (λ y. y ≡ e) → Answered m v q (Err e) w → Answered m v q (in_buffer r buffer) w
refused {m} {v} {w} {q} r buffer e by a = subst (λ x. Answered m v q (in_buffer x buffer) w) (sym (handed_on r e by)) a

pub opening_answered : {m : Meaning} {v w : View} (key copy iv : List ℕ) (limit : ℕ) (r : Result Unit Refusal) → copy ≡ key → Bytes key → Bytes iv → Opened m v copy iv limit r w → Answered m v (opening key iv limit) (with_bytes r []) w
opening_answered {m} {v} {w} key copy iv limit r e kb ib p = opens key iv limit r kb ib (subst (λ k. Opened m v k iv limit r w) e p)

pub payload_answered : {m : Meaning} {v w : View} (bytes copy after : List ℕ) (r : Result Unit Refusal) → copy ≡ bytes → Applied m v 0 (length bytes) copy r w after → Answered m v (applying bytes) (with_bytes r after) w
payload_answered {m} {v} {w} bytes copy after r e p = applies bytes after r (subst (λ b. Applied m v 0 (length bytes) b r w after) e p)

-- the lengths that an origin answers are those of parts of its buffers
named_short : (m : Meaning) (k : ℕ) (s key iv : List ℕ) (n : ℕ × ℕ) (key' iv' : List ℕ) → Named m k s key iv (Ok n) key' iv' → (n.0 ≤ length key') × (n.1 ≤ length iv')
named_short m k s key iv n key' iv' (room, (a, b, reach, e, fk, fi)) =
    let la : length key' ≡ length a + length (drop (length a) key) = ap length fk ∙ length-append a (drop (length a) key) in
    let lb : length iv' ≡ length b + length (drop (length b) iv) = ap length fi ∙ length-append b (drop (length b) iv) in
    let e0 : n.0 ≡ length a = ap (λ p. p.0) e in
    let e1 : n.1 ≡ length b = ap (λ p. p.1) e in
    (omega arith, omega arith)

pub origin_short : (m : Meaning) (v : View) (key iv : List ℕ) (n : ℕ × ℕ) (key' iv' : List ℕ) → OriginOf m v key iv (Ok n) key' iv' → (n.0 ≤ length key') × (n.1 ≤ length iv')
origin_short m v key iv n key' iv' named = go (closed v) named
  where
    by_answer : (a : Result (ℕ × ℕ) OriginFault) → ◌≡◌ {A = Result (ℕ × ℕ) Refusal} (Ok n) (from_origin a) → Named m (v.position / 4) v.state key iv a key' iv' → (n.0 ≤ length key') × (n.1 ≤ length iv')
    by_answer (Ok l) e nm =
        let same : l ≡ n = cc in
        named_short m (v.position / 4) v.state key iv n key' iv' (subst (λ x. Named m (v.position / 4) v.state key iv (Ok x) key' iv') same nm)
    by_answer (Err f) e nm = let z : ◌≡◌ {A = ℕ} 0 1 = cc in absurd (omega arith)

    go : (b : Bool)
        → cond b ((◌≡◌ {A = Result (ℕ × ℕ) Refusal} (Ok n) (Err NotOpen)) × (key' ≡ key) × (iv' ≡ iv))
        ((a : Result (ℕ × ℕ) OriginFault) × (◌≡◌ {A = Result (ℕ × ℕ) Refusal} (Ok n) (from_origin a)) × Named m (v.position / 4) v.state key iv a key' iv')
        → (n.0 ≤ length key') × (n.1 ≤ length iv')
    go true (e, ek, ei) = let z : ◌≡◌ {A = ℕ} 0 1 = cc in absurd (omega arith)
    go false (a, e, nm) = by_answer a e nm

-- an order of the code, under another name for it
pub as_asked : {m : Meaning} {v w : View} {o order : Order} {r : Result (List ℕ) Refusal} → order ≡ o → Answered m v (asked o) r w → Answered m v (asked order) r w
as_asked {m} {v} {w} {r = r} e = subst (λ x. Answered m v (asked x) r w) (sym e)

-- a session that is as it was
pub same_session : {m : Meaning} {v w : View} {q : Asked} {r : Result (List ℕ) Refusal} → w ≡ v → Answered m v q r v → Answered m v q r w
same_session {m} {v} {w} {q} {r} e = subst (λ u. Answered m v q r u) (sym e)
