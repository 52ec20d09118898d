-- What a list of requests, made of one session, answers and comes to. Assumes nothing.
use Rattle.std.specs.Prelude.{ℕ, ◌≤◌, Bool, true, false, cond, List, [], ◌∷◌, ◌++◌, length, take, replicate, Ok, Err, vec_items, Result, Vec, ◌==◌}
use Rattle.std.specs.Borrow.{Bor}
use Rattle.std.specs.declared.alloc.Global.{Global}
use Rattle.words.specs.Words.{Bytes}
use Rattle.generator.specs.Meaning.{Meaning}
use Rattle.session.specs.declared.refusals.Refusal.{Refusal}
use Rattle.session.specs.View.{View, shut}
use Rattle.session.specs.Calls.{Opened, Applied, Skipped, SteppedBack, PositionOf, OriginOf, Closed}
use Rattle.history.specs.declared.requests.Request.{Request}
use Rattle.history.specs.declared.requests.Request.TheVariants.{Open, ApplyToMessage, ApplyElsewhere, Skip, StepBack, Position, Origin, Close}
use Rattle.history.specs.declared.requests.Answer.{Answer}
use Rattle.history.specs.declared.requests.Answer.TheVariants.{Done, Through, Place, Names}
use Rattle.history.specs.Laws.{Event, opened, piece, stray, onward, back, ended, unchanged, After}

-- One request made of a session that is lent a message: its answer, and the session and the message after it, as the call's own contract
-- says. A request for the origin lends two buffers of 255 zeros.
pub data Does (m : Meaning) (v : View) (msg : List ℕ) : Request → Answer → View → List ℕ → Type 0 where
  opens : {w : View} (key iv : Bor (List ℕ)) (limit : ℕ) (r : Result Unit Refusal) → Bytes key.now → Bytes iv.now → Opened m v key.now iv.now limit r w → Does m v msg (Open key iv limit) (Done r) w msg
  applies : {w : View} {after : List ℕ} (start count : ℕ) (r : Result Unit Refusal) → Applied m v start count msg r w after → Does m v msg (ApplyToMessage start count) (Done r) w after
  elsewhere : {w : View} (bytes : Bor (List ℕ)) (start count : ℕ) (r : Result Unit Refusal) (out : Vec ℕ Global) → Applied m v start count bytes.now r w (vec_items out) → Does m v msg (ApplyElsewhere bytes start count) (Through r out) w msg
  skips : {w : View} (n : ℕ) (r : Result Unit Refusal) → Skipped m v n r w → Does m v msg (Skip n) (Done r) w msg
  steps_back : {w : View} (n : ℕ) (r : Result Unit Refusal) → SteppedBack m v n r w → Does m v msg (StepBack n) (Done r) w msg
  asks_place : (r : Result ℕ Refusal) → PositionOf v r → Does m v msg Position (Place r) v msg
  asks_origin : (r : Result (ℕ × ℕ) Refusal) (key iv : Vec ℕ Global) → OriginOf m v (replicate 255 0) (replicate 255 0) r (vec_items key) (vec_items iv) → Does m v msg Origin (Names r key iv) v msg
  closes : {w : View} (r : Result Unit Refusal) → Closed m v r w → Does m v msg Close (Done r) w msg

abbrev pub ok : {X : Type 0} → Result X Refusal → Bool
ok (Ok x) = true
ok (Err e) = false

abbrev pub accepted : Answer → Bool
accepted (Done r) = ok r
accepted (Through r out) = ok r
accepted (Place r) = ok r
accepted (Names r key iv) = ok r

-- what a request comes to where it is accepted
abbrev pub event : View → List ℕ → Request → Event
event v msg (Open key iv limit) = opened (record { key = key.now; iv = iv.now; limit = limit; message = msg })
event v msg (ApplyToMessage start count) = cond (start == v.position) (piece start count) (stray start count)
event v msg (ApplyElsewhere bytes start count) = onward count
event v msg (Skip n) = onward n
event v msg (StepBack n) = back n
event v msg Position = unchanged
event v msg Origin = unchanged
event v msg Close = ended

-- requests made one after the other of a new session that is lent the message `given`: their answers, what they came to, newest first, and
-- the session and the message after them
pub data Ran (m : Meaning) (given : List ℕ) : List Request → List Answer → List Event → View → List ℕ → Type 0 where
  none : Ran m given [] [] [] (shut m) given
  more : {qs : List Request} {rs : List Answer} {h : List Event} {v w : View} {msg after : List ℕ} {q : Request} {a : Answer} → Ran m given qs rs h v msg → Does m v msg q a w after
      → Ran m given (qs ++ q ∷ []) (rs ++ a ∷ []) (cond (accepted a) (event v msg q) unchanged ∷ h) w after

-- every request was made
pub record Replayed (m : Meaning) (given : List ℕ) (qs : List Request) (rs : List Answer) (v : View) (msg : List ℕ) : Type 0 where
  pub events : List Event
  pub ran : Ran m given qs rs events v msg
  pub after : After m events v msg

-- memory ran out when the first `count` requests were made, and no other
pub record Stopped (m : Meaning) (given : List ℕ) (qs : List Request) (msg : List ℕ) : Type 0 where
  pub count : ℕ
  pub within : count ≤ length qs
  pub answers : List Answer
  pub events : List Event
  pub view : View
  pub ran : Ran m given (take count qs) answers events view msg
  pub after : After m events view msg
