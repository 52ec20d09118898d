-- The laws of sessions. Assumes nothing.
use Rattle.std.proofs.Common.{◌≡◌, ℕ, ◌+◌, ◌-◌, ◌/◌, ◌^◌, ◌<◌, ◌≤◌, Bool, true, false, ltb, leb, ◌⊎◌, List, length, get_or, Ok, Err, Result, sym, refl, ap, ◌∙◌, subst, inl, inr, ⊎_elim, arith, ltb-false, ltb-true, ne_eqb, leb-false, leb-true}
use lib.Bits.{bit_xor, xor_assoc, xor_self, xor_zero_r}
use Rattle.std.proofs.lemmas.List.{ext_get_or}
use Rattle.std.proofs.lemmas.Bool.Decides.{nat_tests}
use Rattle.generator.specs.Meaning.{Meaning, Lawful, Reaches, times}
use Rattle.generator.specs.Calls.{Named, Roomy, AtFront}
use Rattle.generator.specs.declared.OriginFault.{OriginFault}
use Rattle.generator.specs.declared.OriginFault.TheVariants.{ShortBuffer, NoOrigin}
use Rattle.session.specs.declared.refusals.Refusal.{Refusal}
use Rattle.session.specs.declared.refusals.Refusal.TheVariants.{Origin}
use Rattle.session.specs.declared.refusals.TraceFault.{TraceFault}
use Rattle.session.specs.declared.refusals.TraceFault.TheVariants.{NoOrigin as Unnamed}
use Rattle.session.specs.View.{View, stream_byte}
use Rattle.session.specs.Calls.{OriginOf, Joined, Traced, from_origin, from_trace}
use Rattle.history.specs.Laws.{SessionLaws, Opening, Event, Keystream, SameKeyIv}
use Rattle.generator.proofs.Repeats.{times_even, trace_one}
use Rattle.history.proofs.Standing.{Kept, key_byte, kept, emptied, gone_by, bounded}

xor_twice : (b x : ℕ) → bit_xor (bit_xor x b) b ≡ x
xor_twice b x = xor_assoc x b b ∙ ap (bit_xor x) (xor_self b) ∙ xor_zero_r x

module _ {m : Meaning} {o : Opening} {h : List Event} {v : View} {msg : List ℕ} (k : Kept m o h v msg) where
  -- where the opening's steps lead, n words on
  reaches : (n : ℕ) (s : List ℕ) → times n m.next k.start ≡ s → Reaches m o.key o.iv n s
  reaches n s e = record {
    key_bytes = k.loaded.key_bytes;
    iv_bytes = k.loaded.iv_bytes;
    start = k.start;
    loads = k.loaded.loads ∙ ap Ok k.loaded.arrives;
    arrives = e;
  }

  here : Reaches m o.key o.iv (v.position / 4) v.state
  here = reaches (v.position / 4) v.state k.here

  keystream : (i : ℕ) → Keystream m o.key o.iv i (key_byte m k.start i)
  keystream i = record { state = times (i / 4) m.next k.start; reached = reaches (i / 4) _ refl; is = refl }

same_forth : (m : Meaning) {key iv : List ℕ} {n : ℕ} {s t : List ℕ} (key' iv' : List ℕ) → key ≡ key' → iv ≡ iv' → Reaches m key iv n s → Reaches m key' iv' n t → s ≡ t
same_forth m {n = n} key' iv' e f r r' =
    let starts : r.start ≡ r'.start = cc (r.loads, r'.loads, e, f) in
    sym r.arrives ∙ ap (times n m.next) starts ∙ r'.arrives

-- two sessions at one position
same_exactly : {m : Meaning} (lawful : Lawful m) {o o' : Opening} {h h' : List Event} {v v' : View} {msg msg' : List ℕ} → Kept m o h v msg → Kept m o' h' v' msg' → v.position ≡ v'.position
    → (v.state ≡ v'.state → SameKeyIv o o') × (SameKeyIv o o' → v.state ≡ v'.state)
same_exactly {m} lawful {o} {o'} {v = v} {v' = v'} k k' at =
    let reached = here k in
    let reached' = reaches k' (v.position / 4) v'.state (ap (λ p. times (p / 4) m.next k'.start) at ∙ k'.here) in
    (λ same. trace_one lawful (v.position / 4) (subst (Reaches m o.key o.iv (v.position / 4)) same reached) reached', λ same. same_forth m o'.key o'.iv same.0 same.1 reached reached')

abbrev Answer : Opening → List ℕ → List ℕ → List ℕ → List ℕ → Result (ℕ × ℕ) Refusal → Type 0
Answer o key iv key-after iv-after r =
    ((r ≡ Err (Origin ShortBuffer)) × ((length key < 255) ⊎ (length iv < 255))) ⊎ ((r ≡ Ok (length o.key, length o.iv)) × AtFront o.key key key-after × AtFront o.iv iv iv-after)

-- what `origin` answers an open session
origin_is : {m : Meaning} (lawful : Lawful m) (o : Opening) (v : View) (key iv key-after iv-after : List ℕ) (r : Result (ℕ × ℕ) Refusal) → 0 < v.limit → Reaches m o.key o.iv (v.position / 4) v.state → OriginOf m v key iv r key-after iv-after → Answer o key iv key-after iv-after r
origin_is {m} lawful o v key iv key-after iv-after r active reached p =
    let q : (a : Result (ℕ × ℕ) OriginFault) × (r ≡ from_origin a) × Named m (v.position / 4) v.state key iv a key-after iv-after = rw (ne_eqb v.limit 0 (λ e. omega arith)) at p in
    go q.0 q.1 q.2
  where
    go : (a : Result (ℕ × ℕ) OriginFault) → r ≡ from_origin a → Named m (v.position / 4) v.state key iv a key-after iv-after → Answer o key iv key-after iv-after r
    go (Ok lengths) e n =
        let at = n.1 in
        let same = trace_one lawful (v.position / 4) at.2 reached in
        inr (e ∙ ap Ok at.3 ∙ (λ i. Ok (length (same.0 i), length (same.1 i))), subst (λ part. AtFront part key key-after) same.0 at.4, subst (λ part. AtFront part iv iv-after) same.1 at.5)
    go (Err NoOrigin) e n = absurd (n.1 o.key o.iv reached)
    go (Err ShortBuffer) e n = inl (e, n.0)

-- the keystream that put a part of a buffer through takes it back again
joined_twice : (m : Meaning) (v v' : View) (start count : ℕ) (a b c : List ℕ) → v.state ≡ v'.state → v.position ≡ v'.position → Joined m v start count a b → Joined m v' start count b c → c ≡ a
joined_twice m v v' start count a b c same at p q = ext_get_or 0 c a (q.same_length ∙ p.same_length) (λ i _. go i (leb start i) (ltb i (start + count)) refl refl)
  where
    go : (i : ℕ) (f g : Bool) → leb start i ≡ f → ltb i (start + count) ≡ g → get_or c i 0 ≡ get_or a i 0
    go i true true e e' =
        let from = leb-true start i e in
        let below = ltb-true i (start + count) e' in
        let n = i - start in
        let place : start + n ≡ i = omega arith in
        let byte : stream_byte m v n ≡ stream_byte m v' n = cc in
        subst (λ j. get_or c j 0 ≡ get_or a j 0) place
        (q.window n (omega arith) ∙ ap (λ x. bit_xor x (stream_byte m v' n)) (p.window n (omega arith) ∙ ap (bit_xor (get_or a (start + n) 0)) byte) ∙ xor_twice (stream_byte m v' n) (get_or a (start + n) 0))
    go i true false e e' = q.rest i (ltb-false _ _ e') ∙ p.rest i (ltb-false _ _ e')
    go i false g e e' = q.front i (leb-false _ _ e) ∙ p.front i (leb-false _ _ e)

module _ {m : Meaning} (lawful : Lawful m) (s key iv key-after iv-after : List ℕ) (r : Result (ℕ × ℕ) TraceFault) (n : ℕ) where
  abbrev Traces : Type 0
  Traces = ((k i : List ℕ) → Reaches m k i n s → (r ≡ Ok (length k, length i)) × AtFront k key key-after × AtFront i iv iv-after)
      × (((k i : List ℕ) → Reaches m k i n s → ⊥) → (r ≡ Err Unnamed) × (key-after ≡ key) × (iv-after ≡ iv))
      × (r ≡ Err Unnamed → (k i : List ℕ) → Reaches m k i n s → ⊥)

  traces : n ≤ 2 ^ 20 → Roomy key iv → Traced m n s key iv r key-after iv-after → Traces
  traces small roomy t =
      let q : (a : Result (ℕ × ℕ) OriginFault) × (r ≡ from_trace a) × Named m n s key iv a key-after iv-after = grind (arith, nat_tests) in
      go q.0 q.1 q.2
    where
      go : (a : Result (ℕ × ℕ) OriginFault) → r ≡ from_trace a → Named m n s key iv a key-after iv-after → Traces
      go (Ok lengths) e named =
          let at = named.1 in (
            λ k i reached.
                let same = trace_one lawful n at.2 reached in
                (e ∙ ap Ok at.3 ∙ (λ j. Ok (length (same.0 j), length (same.1 j))), subst (λ part. AtFront part key key-after) same.0 at.4, subst (λ part. AtFront part iv iv-after) same.1 at.5),
            λ none. absurd (none at.0 at.1 at.2),
            λ f. let z : ◌≡◌ {A = ℕ} 0 1 = cc in absurd (omega arith),
          )
      go (Err NoOrigin) e named = (λ k i reached. absurd (named.1 k i reached), λ none. (e, named.2, named.3), λ f. named.1)
      go (Err ShortBuffer) e named = absurd (⊎_elim (λ h. omega (arith, h, roomy.0)) (λ h. omega (arith, h, roomy.1)) named.0)

pub session_laws : {m : Meaning} → Lawful m → SessionLaws m
session_laws {m} lawful = record {
  position_is = gone_by lawful;
  within_limit = bounded lawful;
  limit_is = λ u.
      let k = kept lawful u in
      (k.limits, k.active);
  state_at = λ u. here (kept lawful u);
  closed_is_shut = emptied lawful;
  same_state = λ u u' at. same_exactly lawful (kept lawful u) (kept lawful u') at;
  same_length = λ u. (kept lawful u).long;
  odd_cover = λ i u none odd.
      let k = kept lawful u in
      let b = key_byte m k.start i in
      (b, keystream k i, k.bytes i none ∙ (times_even _ (xor_twice b) _ _).1 odd);
  even_cover = λ i u none even.
      let k = kept lawful u in
      k.bytes i none ∙ (times_even _ (xor_twice (key_byte m k.start i)) _ _).0 even;
  origin_named = λ {o = o} {v = v} key iv key-after iv-after r u named.
      let k = kept lawful u in
      origin_is lawful o v key iv key-after iv-after r (omega (arith, k.limits, k.active)) (here k) named;
  deciphers = λ {v = v} {v' = v'} w w' start count a b c u u' same at p q.
      let state = (same_exactly lawful (kept lawful u) (kept lawful u') at).1 same in
      let one : Joined m v start count a b = grind (arith, nat_tests) in
      let two : Joined m v' start count b c = grind (arith, nat_tests) in
      joined_twice m v v' start count a b c state at one two;
  trace_one = λ n r r'. trace_one lawful n r r';
  trace_names = λ n s key iv key-after iv-after r. traces lawful s key iv key-after iv-after r n;
}
