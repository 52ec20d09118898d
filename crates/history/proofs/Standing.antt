-- What every call of a session keeps. Assumes nothing.
use Rattle.std.proofs.Common.{◌≡◌, ℕ, ◌+◌, ◌-◌, ◌*◌, ◌/◌, ◌%◌, ◌<◌, ◌≤◌, Bool, true, false, cond, ltb, leb, List, ◌∷◌, length, get_or, Some, None, Ok, Err, Option, Result, sym, refl, ap, ◌∙◌, subst, zero-add, one-add, arith, ltb-false, ltb-true, leb-false, leb-true}
use lib.Bits.{bit_xor}
use Rattle.std.proofs.lemmas.Bool.Decides.{nat_tests}
use Rattle.generator.specs.Meaning.{Meaning, Lawful, State, Reaches, times}
use Rattle.words.specs.Words.{Bytes, byte_of}
use Rattle.generator.specs.declared.Fault.{Fault}
use Rattle.session.specs.View.{View, shut, moved, ahead, behind, stream_byte}
use Rattle.session.specs.Calls.{Opened, Joined}
use Rattle.history.specs.Laws.{Opening, Event, opened, piece, stray, onward, back, ended, unchanged, Call, open_accepted, open_refused, apply_piece, apply_stray, apply_refused, elsewhere_accepted, elsewhere_refused, skip_accepted, skip_refused, back_accepted, back_refused, ask, close_accepted, close_refused, After, made, then, lasting, Under, gone_on, gone_back, covers, strays}
use Rattle.generator.proofs.Repeats.{times_add, back_again}

ok_err : {A E : Type 0} {x : A} {e : E} → ◌≡◌ {A = Result A E} (Ok x) (Err e) → ⊥
ok_err p = let z : ◌≡◌ {A = ℕ} 0 1 = cc in omega arith

-- v stands where the steps from s lead
abbrev At : Meaning → List ℕ → View → Type 0
At m s v = times (v.position / 4) m.next s ≡ v.state

-- keystream byte i, from the state s of the load
abbrev pub key_byte : Meaning → List ℕ → ℕ → ℕ
key_byte m s i = byte_of (m.word (times (i / 4) m.next s)) (i % 4)

-- one opening, further on or back
record Moves (m : Meaning) (v w : View) : Type 0 where
  limits : w.limit ≡ v.limit
  bounded : v.position ≤ v.limit → w.position ≤ w.limit
  follows : {s : List ℕ} → State m.size s → At m s v → At m s w

stays : {m : Meaning} {v w : View} → w ≡ v → Moves m v w
stays {m} {v} e = subst (Moves m v) (sym e) (record { limits = refl; bounded = λ h. h; follows = λ st at. at })

ahead_at : (m : Meaning) (v : View) (n : ℕ) (s : List ℕ) → At m s v → times ((v.position + n) / 4) m.next s ≡ ahead m v n
ahead_at m v n s at =
    let a = (v.position + n) / 4 - v.position / 4 in
    let parts : (v.position + n) / 4 ≡ a + v.position / 4 = omega arith in
    ap (λ k. times k m.next s) parts ∙ times_add a (v.position / 4) m.next s ∙ ap (times a m.next) at

-- n bytes on, within the limit
abbrev Ahead : Meaning → View → View → ℕ → Type 0
Ahead m v w n = (w ≡ moved v (ahead m v n) (v.position + n)) × (v.position + n ≤ v.limit)

goes_ahead : (m : Meaning) (v w : View) (n : ℕ) → Ahead m v w n → Moves m v w
goes_ahead m v w n (e, room) = subst (Moves m v) (sym e) (record { limits = refl; bounded = λ _. room; follows = λ {s} st at. ahead_at m v n s at })

goes_back : {m : Meaning} (lawful : Lawful m) (v w : View) (n : ℕ) → w ≡ moved v (behind m v n) (v.position - n) → Moves m v w
goes_back {m} lawful v w n e = subst (Moves m v) (sym e) (record {
  limits = refl;
  bounded = λ h. omega arith;
  follows = λ {s} st at.
      let k = v.position / 4 - (v.position - n) / 4 in
      let parts : (v.position - n) / 4 + k ≡ v.position / 4 = omega arith in
      sym (ap (times k m.back) (sym at ∙ ap (λ a. times a m.next s) (sym parts)) ∙ back_again lawful k ((v.position - n) / 4) st);
})

-- the position p is what the calls h since the opening come to
abbrev Balanced : List Event → ℕ → Type 0
Balanced h p = p + gone_back h ≡ gone_on h

-- what lasts of an opening o after the events h
pub record Kept (m : Meaning) (o : Opening) (h : List Event) (v : View) (msg : List ℕ) : Type 0 where
  pub start : List ℕ
  pub loaded : Reaches m o.key o.iv 0 start
  pub here : At m start v
  pub limits : v.limit ≡ 4 * o.limit
  pub active : 0 < o.limit
  pub within : v.position ≤ v.limit
  pub gone : Balanced h v.position
  pub long : length msg ≡ length o.message
  pub bytes : (i : ℕ) → strays i h ≡ 0 → get_or msg i 0 ≡ times (covers i h) (λ x. bit_xor x (key_byte m start i)) (get_or o.message i 0)

pub data Standing (m : Meaning) : Option Opening → List Event → View → List ℕ → Type 0 where
  idle : {h : List Event} {msg : List ℕ} → Balanced h 0 → Standing m None h (shut m) msg
  busy : {o : Opening} {h : List Event} {v : View} {msg : List ℕ} → Kept m o h v msg → Standing m (Some o) h v msg

still : {m : Meaning} {h : List Event} {msg : List ℕ} {w : View} → Balanced h 0 → w ≡ shut m → Standing m None h w msg
still {m} {h} {msg} none e = subst (λ v. Standing m None h v msg) (sym e) (idle none)

abbrev opening : List ℕ → List ℕ → ℕ → List ℕ → Opening
opening key iv limit msg = record { key = key; iv = iv; limit = limit; message = msg }

-- an accepted opening, whatever stood before
opens : (m : Meaning) (v w : View) (key iv msg : List ℕ) (limit : ℕ) (h : List Event) → Bytes key → Bytes iv → Opened m v key iv limit (Ok tt) w → Standing m (Some (opening key iv limit msg)) (opened (opening key iv limit msg) ∷ h) w msg
opens m v w key iv msg limit h kb ib p = go (m.load key iv) refl
  where
    go : (l : Result (List ℕ) Fault) → m.load key iv ≡ l → Standing m (Some (opening key iv limit msg)) (opened (opening key iv limit msg) ∷ h) w msg
    go (Ok s) e =
        let at : (w ≡ record { state = s; position = 0; limit = 4 * limit }) × (0 < limit) = grind (arith, nat_tests) in
        subst (λ u. Standing m (Some (opening key iv limit msg)) (opened (opening key iv limit msg) ∷ h) u msg) (sym at.0) (busy (record {
          start = s;
          loaded = record { key_bytes = kb; iv_bytes = ib; start = s; loads = e; arrives = refl };
          here = refl;
          limits = refl;
          active = at.1;
          within = omega arith;
          gone = refl;
          long = refl;
          bytes = λ i _. refl;
        }))
    go (Err f) e = absurd (grind (arith, nat_tests))

-- n bytes more since the opening
on_balance : {s : List ℕ} (h : List Event) (v w : View) (n : ℕ) → w ≡ moved v s (v.position + n) → Balanced h v.position → w.position + gone_back h ≡ gone_on h + n
on_balance h v w n e balanced = let at : w.position ≡ v.position + n = ap (λ u. u.position) e in omega arith

-- any call but an opening and a close: what it makes of the session, and of the message
carries : {m : Meaning} (lawful : Lawful m) {o : Opening} {h : List Event} {v w : View} {msg : List ℕ} (e : Event) (after : List ℕ) → Balanced (e ∷ h) w.position → Moves m v w → length after ≡ length msg → (k : Kept m o h v msg)
    → ((i : ℕ) → strays i (e ∷ h) ≡ 0 → get_or after i 0 ≡ times (covers i (e ∷ h)) (λ x. bit_xor x (key_byte m k.start i)) (get_or o.message i 0))
    → Standing m (Some o) (e ∷ h) w after
carries lawful e after gone move long k bytes = busy (record {
  start = k.start;
  loaded = k.loaded;
  here = move.follows (lawful.load_state k.loaded) k.here;
  limits = move.limits ∙ k.limits;
  active = k.active;
  within = move.bounded k.within;
  gone = gone;
  long = long ∙ k.long;
  bytes = bytes;
})

-- a call that leaves the message as it is
goes_on : {m : Meaning} (lawful : Lawful m) {o : Opening} {h : List Event} {v w : View} {msg : List ℕ} (e : Event) → ((i : ℕ) → (covers i (e ∷ h) ≡ covers i h) × (strays i (e ∷ h) ≡ strays i h)) → Balanced (e ∷ h) w.position → Moves m v w → Kept m o h v msg → Standing m (Some o) (e ∷ h) w msg
goes_on {m} lawful {o} {msg = msg} e covered gone move k =
    carries lawful e msg gone move refl k
    (λ i none. k.bytes i (sym (covered i).1 ∙ none) ∙ ap (λ n. times n (λ x. bit_xor x (key_byte m k.start i)) (get_or o.message i 0)) (sym (covered i).0))

-- a call that changes nothing
rests : {m : Meaning} (lawful : Lawful m) {o : Opening} {h : List Event} {v w : View} {msg : List ℕ} → w ≡ v → Kept m o h v msg → Standing m (Some o) (unchanged ∷ h) w msg
rests lawful {h = h} e k = goes_on lawful unchanged (λ i. (refl, refl)) (ap (λ u. u.position + gone_back h) e ∙ k.gone) (stays e) k

stream_is : (m : Meaning) (v : View) (s : List ℕ) → At m s v → (n i : ℕ) → v.position + n ≡ i → stream_byte m v n ≡ key_byte m s i
stream_is m v s at n i e =
    ap (λ t. byte_of (m.word t) ((v.position + n) % 4)) (sym (ahead_at m v n s at)) ∙ ap (key_byte m s) e

one_piece : {m : Meaning} (lawful : Lawful m) {o : Opening} {h : List Event} {v w : View} {msg after : List ℕ} (count : ℕ) → Ahead m v w count → Joined m v v.position count msg after → Kept m o h v msg → Standing m (Some o) (piece v.position count ∷ h) w after
one_piece {m} lawful {o} {h} {v} {w} {msg} {after} count a join k =
    carries lawful (piece v.position count) after (on_balance h v w count a.0 k.gone) (goes_ahead m v w count a) join.same_length k
    (λ i none. go i (leb v.position i) (ltb i (v.position + count)) refl refl none)
  where
    go : (i : ℕ) (a b : Bool) → leb v.position i ≡ a → ltb i (v.position + count) ≡ b → strays i h ≡ 0
        → get_or after i 0 ≡ times (cond a (cond b 1 0) 0 + covers i h) (λ x. bit_xor x (key_byte m k.start i)) (get_or o.message i 0)
    go i true true e e' none =
        let from = leb-true v.position i e in
        let below = ltb-true i (v.position + count) e' in
        let n = i - v.position in
        let place : v.position + n ≡ i = omega arith in
        let joined = join.window n (omega arith) in
        rw one-add
        (ap (λ j. get_or after j 0) (sym place) ∙ joined ∙ ap (bit_xor (get_or msg (v.position + n) 0)) (stream_is m v k.start k.here n i place)
        ∙ ap (λ x. bit_xor x (key_byte m k.start i)) (ap (λ j. get_or msg j 0) place ∙ k.bytes i none))
    go i true false e e' none = rw zero-add (join.rest i (ltb-false _ _ e') ∙ k.bytes i none)
    go i false b e e' none = rw zero-add (join.front i (leb-false _ _ e) ∙ k.bytes i none)

one_stray : {m : Meaning} (lawful : Lawful m) {o : Opening} {h : List Event} {v w : View} {msg after : List ℕ} (start count : ℕ) → Ahead m v w count → Joined m v start count msg after → Kept m o h v msg → Standing m (Some o) (stray start count ∷ h) w after
one_stray {m} lawful {o} {h} {v} {w} {msg} {after} start count a join k =
    carries lawful (stray start count) after (on_balance h v w count a.0 k.gone) (goes_ahead m v w count a) join.same_length k
    (λ i none. go i (leb start i) (ltb i (start + count)) refl refl none ∙ k.bytes i (omega arith))
  where
    go : (i : ℕ) (a b : Bool) → leb start i ≡ a → ltb i (start + count) ≡ b → cond a (cond b 1 0) 0 + strays i h ≡ 0 → get_or after i 0 ≡ get_or msg i 0
    go i true true e e' none = absurd (omega arith)
    go i true false e e' none = join.rest i (ltb-false _ _ e')
    go i false b e e' none = join.front i (leb-false _ _ e)

-- keystream passed over, on no message
onwards : {m : Meaning} (lawful : Lawful m) {o : Opening} {h : List Event} {v w : View} {msg : List ℕ} (n : ℕ) → Ahead m v w n → Kept m o h v msg → Standing m (Some o) (onward n ∷ h) w msg
onwards {m} lawful {h = h} {v} {w} n a k = goes_on lawful (onward n) (λ i. (refl, refl)) (on_balance h v w n a.0 k.gone) (goes_ahead m v w n a) k

-- the opening that lasts after one event more
abbrev turned : Event → Option Opening → Option Opening
turned (opened p) o = Some p
turned (piece start count) o = o
turned (stray start count) o = o
turned (onward n) o = o
turned (back n) o = o
turned ended o = None
turned unchanged o = o

turned_is : (e : Event) (h : List Event) → lasting (e ∷ h) ≡ turned e (lasting h)
turned_is (opened p) h = refl
turned_is (piece start count) h = refl
turned_is (stray start count) h = refl
turned_is (onward n) h = refl
turned_is (back n) h = refl
turned_is ended h = refl
turned_is unchanged h = refl

call_idle : {m : Meaning} {h : List Event} {w : View} {msg msg' : List ℕ} {e : Event} → Balanced h 0 → Call m (shut m) msg e w msg' → Standing m (turned e None) (e ∷ h) w msg'
call_idle {m} {h = h} {w = w} {msg = msg} z (open_accepted key iv limit kb ib p) = opens m (shut m) w key iv msg limit h kb ib p
call_idle z (open_refused key iv limit e p) = still z (grind (arith, nat_tests))
call_idle z (apply_piece count p) = absurd (ok_err p.0)
call_idle z (apply_stray start count off p) = absurd (ok_err p.0)
call_idle z (apply_refused start count e p) = still z p.1
call_idle z (elsewhere_accepted start count buffer after p) = absurd (ok_err p.0)
call_idle z (elsewhere_refused start count buffer after e p) = still z p.1
call_idle z (skip_accepted n p) = absurd (ok_err p.0)
call_idle z (skip_refused n e p) = still z p.1
call_idle z (back_accepted n p) = absurd (ok_err p.0)
call_idle z (back_refused n e p) = still z p.1
call_idle z ask = idle z
call_idle z (close_accepted p) = absurd (ok_err p.0)
call_idle z (close_refused e p) = still z p.1

call_busy : {m : Meaning} (lawful : Lawful m) {o : Opening} {h : List Event} {v w : View} {msg msg' : List ℕ} {e : Event} → Kept m o h v msg → Call m v msg e w msg' → Standing m (turned e (Some o)) (e ∷ h) w msg'
call_busy {m} lawful {h = h} {v = v} {w = w} {msg = msg} k (open_accepted key iv limit kb ib p) = opens m v w key iv msg limit h kb ib p
call_busy lawful {v = v} k (open_refused key iv limit e p) = let active : 0 < v.limit = omega (arith, k.limits, k.active) in rests lawful (grind (arith, nat_tests)) k
call_busy {m} lawful {v = v} {w = w} {msg = msg} {msg' = after} k (apply_piece count p) =
    let a : Ahead m v w count × Joined m v v.position count msg after = grind (arith, nat_tests) in
    one_piece lawful count a.0 a.1 k
call_busy {m} lawful {v = v} {w = w} {msg = msg} {msg' = after} k (apply_stray start count off p) =
    let a : Ahead m v w count × Joined m v start count msg after = grind (arith, nat_tests) in
    one_stray lawful start count a.0 a.1 k
call_busy {m} lawful {o = o} {h = h} {v = v} {w = w} {msg = msg} {msg' = after} k (apply_refused start count e p) =
    let a : (w ≡ v) × (after ≡ msg) = grind (arith, nat_tests) in
    subst (Standing m (Some o) (unchanged ∷ h) w) (sym a.1) (rests lawful a.0 k)
call_busy {m} lawful {v = v} {w = w} k (elsewhere_accepted start count buffer after p) = let a : Ahead m v w count = grind (arith, nat_tests) in onwards lawful count a k
call_busy lawful k (elsewhere_refused start count buffer after e p) = rests lawful (grind (arith, nat_tests)) k
call_busy {m} lawful {v = v} {w = w} k (skip_accepted n p) = let a : Ahead m v w n = grind (arith, nat_tests) in onwards lawful n a k
call_busy lawful k (skip_refused n e p) = rests lawful (grind (arith, nat_tests)) k
call_busy {m} lawful {v = v} {w = w} k (back_accepted n p) =
    let a : (w ≡ moved v (behind m v n) (v.position - n)) × (n ≤ v.position) = grind (arith, nat_tests) in
    let at : w.position ≡ v.position - n = ap (λ u. u.position) a.0 in
    goes_on lawful (back n) (λ i. (refl, refl)) (omega (arith, k.gone)) (goes_back lawful v w n a.0) k
call_busy lawful k (back_refused n e p) = rests lawful (grind (arith, nat_tests)) k
call_busy lawful k ask = rests lawful refl k
call_busy lawful k (close_accepted p) = still refl (grind (arith, nat_tests))
call_busy lawful k (close_refused e p) = rests lawful (grind (arith, nat_tests)) k

call : {m : Meaning} (lawful : Lawful m) {o : Option Opening} {h : List Event} {v w : View} {msg msg' : List ℕ} {e : Event} → Standing m o h v msg → Call m v msg e w msg' → Standing m (turned e o) (e ∷ h) w msg'
call lawful (idle z) c = call_idle z c
call lawful (busy k) c = call_busy lawful k c

-- after every list of calls
stands : {m : Meaning} (lawful : Lawful m) {h : List Event} {v : View} {msg : List ℕ} → After m h v msg → Standing m (lasting h) h v msg
stands lawful made = idle refl
stands {m} lawful (then {w = w} {msg' = after} {h = h} {e = e} a c) = subst (λ o. Standing m o (e ∷ h) w after) (sym (turned_is e h)) (call lawful (stands lawful a) c)

pub kept : {m : Meaning} (lawful : Lawful m) {h : List Event} {v : View} {msg : List ℕ} {o : Opening} → Under m o h v msg → Kept m o h v msg
kept {m} lawful {h} {v} {msg} (a, e) = go (subst (λ p. Standing m p h v msg) e (stands lawful a))
  where
    go : {o : Opening} → Standing m (Some o) h v msg → Kept m o h v msg
    go (busy k) = k

pub emptied : {m : Meaning} (lawful : Lawful m) {h : List Event} {v : View} {msg : List ℕ} → After m h v msg → lasting h ≡ None → v ≡ shut m
emptied {m} lawful {h} {v} {msg} a e = go (subst (λ p. Standing m p h v msg) e (stands lawful a))
  where
    go : {u : View} → Standing m None h u msg → u ≡ shut m
    go (idle z) = refl

pub gone_by : {m : Meaning} (lawful : Lawful m) {h : List Event} {v : View} {msg : List ℕ} → After m h v msg → v.position + gone_back h ≡ gone_on h
gone_by {m} lawful {h} {v} {msg} a = go (stands lawful a)
  where
    go : {o : Option Opening} {u : View} → Standing m o h u msg → Balanced h u.position
    go (idle z) = z
    go (busy k) = k.gone

pub bounded : {m : Meaning} (lawful : Lawful m) {h : List Event} {v : View} {msg : List ℕ} → After m h v msg → v.position ≤ v.limit
bounded {m} lawful {h} {v} {msg} a = go (stands lawful a)
  where
    go : {o : Option Opening} {u : View} → Standing m o h u msg → u.position ≤ u.limit
    go (idle z) = omega arith
    go (busy k) = k.within
