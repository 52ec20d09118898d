-- What a session answers fits a reply. Assumes nothing.
use Rattle.std.proofs.Common.{◌≡◌, ℕ, ◌+◌, ◌/◌, ◌^◌, ◌<◌, ◌≤◌, Bool, true, false, cond, List, ◌∷◌, ◌++◌, length, take, replicate, Some, None, Ok, Err, Option, Result, sym, refl, ap, subst, arith}
use Rattle.std.proofs.lemmas.List.{length-append, length-take}
use Rattle.std.proofs.lemmas.Bool.Decides.{nat_tests}
use Rattle.generator.specs.declared.Fault.{Fault}
use Rattle.generator.specs.declared.Fault.TheVariants.{Key, Iv}
use Rattle.generator.specs.declared.OriginFault.{OriginFault}
use Rattle.generator.specs.declared.OriginFault.TheVariants.{ShortBuffer, NoOrigin}
use Rattle.generator.specs.Meaning.{Meaning, Lawful, Reaches}
use Rattle.generator.specs.Calls.{Named}
use Rattle.session.specs.declared.refusals.Refusal.{Refusal}
use Rattle.session.specs.declared.refusals.Refusal.TheVariants.{AlreadyOpen, BadLimit, Load, NotOpen, PastBuffer, PastLimit, BeforeStart, Origin}
use Rattle.session.specs.Refusals.{number, member_of}
use Rattle.session.specs.View.{View, moved, ahead}
use Rattle.session.specs.Calls.{closed, Opened, Applied, Joined, apply_refusal, Skipped, SteppedBack, PositionOf, OriginOf, from_origin, Closed}
use Rattle.strips.specs.Orders.{Asked, applying}
use Rattle.strips.specs.Answered.{Answered, name_bytes, ends, opens, applies, skips, steps_back, asks_place, asks_origin, closes}

pub number_small : (e : Refusal) → number e < 32
number_small AlreadyOpen = omega arith
number_small BadLimit = omega arith
number_small (Load (Key k)) = omega arith
number_small (Load (Iv k)) = omega arith
number_small NotOpen = omega arith
number_small PastBuffer = omega arith
number_small PastLimit = omega arith
number_small BeforeStart = omega arith
number_small (Origin ShortBuffer) = omega arith
number_small (Origin NoOrigin) = omega arith

-- reply bytes that can be counted in 28 bits, and a member that fits four
abbrev pub Short : Result (List ℕ) Refusal → Type 0
Short (Ok bytes) = length bytes < 2 ^ 28
Short (Err e) = member_of e < 16

opening_member : (m : Meaning) (v w : View) (key iv : List ℕ) (limit : ℕ) (e : Refusal) → Lawful m → Opened m v key iv limit (Err e) w → member_of e < 16
opening_member m v w key iv limit e lawful p = by_load (m.load key iv) refl
  where
    by_load : (r : Result (List ℕ) Fault) → m.load key iv ≡ r → member_of e < 16
    by_load (Ok s) h = grind (arith, nat_tests)
    by_load (Err f) h = let small = lawful.fault_member h in grind (arith, nat_tests)

abbrev AppliedIf : Meaning → View → List ℕ → View → List ℕ → Option Refusal → Type 0
AppliedIf m v bytes w after (Some e) = (◌≡◌ {A = Result Unit Refusal} (Ok tt) (Err e)) × (w ≡ v) × (after ≡ bytes)
AppliedIf m v bytes w after None = (◌≡◌ {A = Result Unit Refusal} (Ok tt) (Ok tt)) × (w ≡ moved v (ahead m v (length bytes)) (v.position + length bytes)) × Joined m v 0 (length bytes) bytes after

joined_length : (m : Meaning) (v w : View) (bytes after : List ℕ) → Applied m v 0 (length bytes) bytes (Ok tt) w after → length after ≡ length bytes
joined_length m v w bytes after p = go (apply_refusal v (length bytes) 0 (length bytes)) p
  where
    go : (o : Option Refusal) → AppliedIf m v bytes w after o → length after ≡ length bytes
    go (Some e) (x, y, z) = let bad : ◌≡◌ {A = ℕ} 0 1 = cc in absurd (omega arith)
    go None (x, y, j) = j.same_length

apply_member : (m : Meaning) (v w : View) (bytes after : List ℕ) (e : Refusal) → Applied m v 0 (length bytes) bytes (Err e) w after → member_of e < 16
apply_member m v w bytes after e p = grind (arith, nat_tests)

skip_member : (m : Meaning) (v w : View) (n : ℕ) (e : Refusal) → Skipped m v n (Err e) w → member_of e < 16
skip_member m v w n e p = grind (arith, nat_tests)

back_member : (m : Meaning) (v w : View) (n : ℕ) (e : Refusal) → SteppedBack m v n (Err e) w → member_of e < 16
back_member m v w n e p = grind (arith, nat_tests)

place_member : (v : View) (e : Refusal) → PositionOf v (Err e) → member_of e < 16
place_member v e p = grind (arith, nat_tests)

close_member : (m : Meaning) (v w : View) (e : Refusal) → Closed m v (Err e) w → member_of e < 16
close_member m v w e p = grind (arith, nat_tests)

-- a key and an IV that are named are of 255 bytes at most
named_lengths : (m : Meaning) (k : ℕ) (s key iv : List ℕ) (n : ℕ × ℕ) (key' iv' : List ℕ) → Lawful m → Named m k s key iv (Ok n) key' iv' → (n.0 ≤ 255) × (n.1 ≤ 255)
named_lengths m k s key iv n key' iv' lawful (room, (a, b, reach, e, fk, fi)) =
    let loaded : Reaches m a b 0 reach.start = record { key_bytes = reach.key_bytes; iv_bytes = reach.iv_bytes; start = reach.start; loads = reach.loads; arrives = refl } in
    let short = lawful.load_short loaded in
    let e0 : n.0 ≡ length a = ap (λ p. p.0) e in
    let e1 : n.1 ≡ length b = ap (λ p. p.1) e in
    (omega arith, omega arith)

origin_fits : (m : Meaning) (v : View) (key iv : List ℕ) (r : Result (ℕ × ℕ) Refusal) (key' iv' : List ℕ) → Lawful m → OriginOf m v key iv r key' iv' → Short (name_bytes r key' iv')
origin_fits m v key iv r key' iv' lawful named = go (closed v) named
  where
    refuses : (e : Refusal) → r ≡ Err e → member_of e < 16 → Short (name_bytes r key' iv')
    refuses e is small = subst (λ x. Short (name_bytes x key' iv')) (sym is) small

    answers : (a : Result (ℕ × ℕ) OriginFault) → r ≡ from_origin a → Named m (v.position / 4) v.state key iv a key' iv' → Short (name_bytes r key' iv')
    answers (Ok n) is nm =
        let short = named_lengths m (v.position / 4) v.state key iv n key' iv' lawful nm in
        let sizes : length (take n.0 key' ++ take n.1 iv') ≤ n.0 + n.1 = simp (length-append, length-take) (omega arith) in
        let few : length (n.0 ∷ n.1 ∷ (take n.0 key' ++ take n.1 iv')) < 2 ^ 28 = omega arith in
        subst (λ x. Short (name_bytes x key' iv')) (sym is) few
    answers (Err f) is nm = refuses (Origin f) is (omega arith)

    go : (b : Bool) → cond b ((r ≡ Err NotOpen) × (key' ≡ key) × (iv' ≡ iv)) ((a : Result (ℕ × ℕ) OriginFault) × (r ≡ from_origin a) × Named m (v.position / 4) v.state key iv a key' iv') → Short (name_bytes r key' iv')
    go true (is, x, y) = refuses NotOpen is (omega arith)
    go false (a, is, nm) = answers a is nm

pub answer_fits : {m : Meaning} {v w : View} {q : Asked} {a : Result (List ℕ) Refusal} → Lawful m → ((bytes : List ℕ) → q ≡ applying bytes → length bytes ≤ 64000) → Answered m v q a w → Short a
answer_fits lawful short ends = omega arith
answer_fits lawful short (opens key iv limit (Ok tt) kb ib p) = omega arith
answer_fits {m} {v} {w} lawful short (opens key iv limit (Err e) kb ib p) = opening_member m v w key iv limit e lawful p
answer_fits {m} {v} {w} lawful short (applies bytes after (Ok tt) p) = let few = short bytes refl in omega (arith, joined_length m v w bytes after p)
answer_fits {m} {v} {w} lawful short (applies bytes after (Err e) p) = apply_member m v w bytes after e p
answer_fits lawful short (skips n (Ok tt) p) = omega arith
answer_fits {m} {v} {w} lawful short (skips n (Err e) p) = skip_member m v w n e p
answer_fits lawful short (steps_back n (Ok tt) p) = omega arith
answer_fits {m} {v} {w} lawful short (steps_back n (Err e) p) = back_member m v w n e p
answer_fits lawful short (asks_place (Ok n) p) = omega arith
answer_fits {v = v} lawful short (asks_place (Err e) p) = place_member v e p
answer_fits {m} {v} lawful short (asks_origin r key iv p) = origin_fits m v (replicate 255 0) (replicate 255 0) r key iv lawful p
answer_fits lawful short (closes (Ok tt) p) = omega arith
answer_fits {m} {v} {w} lawful short (closes (Err e) p) = close_member m v w e p
