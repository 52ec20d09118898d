-- What holds of every session after every list of its calls, whatever the generator. Assumes nothing.
use Rattle.std.specs.Prelude.{◌≡◌, ℕ, ◌+◌, ◌*◌, ◌/◌, ◌%◌, ◌^◌, ◌<◌, ◌≤◌, cond, ◌⊎◌, List, [], ◌∷◌, length, Some, None, Ok, Err, Option, Result, ◌≢◌, bit_xor, nat_le, nat_lt, slice_index}
use Rattle.words.specs.Words.{Bytes, byte_of}
use Rattle.generator.specs.Meaning.{Meaning, Reaches}
use Rattle.generator.specs.Calls.{Roomy, Cramped, AtFront}
use Rattle.generator.specs.declared.OriginFault.TheVariants.{ShortBuffer}
use Rattle.session.specs.declared.refusals.Refusal.{Refusal}
use Rattle.session.specs.declared.refusals.Refusal.TheVariants.{Origin}
use Rattle.session.specs.declared.refusals.TraceFault.{TraceFault}
use Rattle.session.specs.declared.refusals.TraceFault.TheVariants.{NoOrigin}
use Rattle.session.specs.View.{View, shut}
use Rattle.session.specs.Calls.{Opened, Applied, Skipped, SteppedBack, OriginOf, Closed, Traced}

-- an accepted opening: its key and IV, its limit in words, and what the message held then
pub record Opening : Type 0 where
  pub key : List ℕ
  pub iv : List ℕ
  pub limit : ℕ
  pub message : List ℕ

-- What a call of a session came to. One message is lent to the session, and any call may take another buffer in its place.
--   opened      an accepted opening
--   piece       keystream applied to the message from start on, count bytes, where start is the position
--   stray       the same, where start is not the position
--   onward      so many bytes skipped, or keystream applied to so many bytes of another buffer
--   back        so many bytes stepped back
--   ended       an accepted closing
--   unchanged   a refused call, or one that only answers
pub data Event : Type 0 where
  opened : Opening → Event
  piece : ℕ → ℕ → Event
  stray : ℕ → ℕ → Event
  onward : ℕ → Event
  back : ℕ → Event
  ended : Event
  unchanged : Event

-- One call: the session and the message before it, what it came to, and both after it. Each case says what the call's own contract says.
pub data Call (m : Meaning) : View → List ℕ → Event → View → List ℕ → Type 0 where
  open_accepted : {v w : View} {msg : List ℕ} (key iv : List ℕ) (limit : ℕ) → Bytes key → Bytes iv → Opened m v key iv limit (Ok tt) w → Call m v msg (opened (record { key = key; iv = iv; limit = limit; message = msg })) w msg
  open_refused : {v w : View} {msg : List ℕ} (key iv : List ℕ) (limit : ℕ) (e : Refusal) → Opened m v key iv limit (Err e) w → Call m v msg unchanged w msg
  apply_piece : {v w : View} {msg after : List ℕ} (count : ℕ) → Applied m v v.position count msg (Ok tt) w after → Call m v msg (piece v.position count) w after
  apply_stray : {v w : View} {msg after : List ℕ} (start count : ℕ) → (start ≢ v.position) → Applied m v start count msg (Ok tt) w after → Call m v msg (stray start count) w after
  apply_refused : {v w : View} {msg after : List ℕ} (start count : ℕ) (e : Refusal) → Applied m v start count msg (Err e) w after → Call m v msg unchanged w after
  elsewhere_accepted : {v w : View} {msg : List ℕ} (start count : ℕ) (buffer after : List ℕ) → Applied m v start count buffer (Ok tt) w after → Call m v msg (onward count) w msg
  elsewhere_refused : {v w : View} {msg : List ℕ} (start count : ℕ) (buffer after : List ℕ) (e : Refusal) → Applied m v start count buffer (Err e) w after → Call m v msg unchanged w msg
  skip_accepted : {v w : View} {msg : List ℕ} (n : ℕ) → Skipped m v n (Ok tt) w → Call m v msg (onward n) w msg
  skip_refused : {v w : View} {msg : List ℕ} (n : ℕ) (e : Refusal) → Skipped m v n (Err e) w → Call m v msg unchanged w msg
  back_accepted : {v w : View} {msg : List ℕ} (n : ℕ) → SteppedBack m v n (Ok tt) w → Call m v msg (back n) w msg
  back_refused : {v w : View} {msg : List ℕ} (n : ℕ) (e : Refusal) → SteppedBack m v n (Err e) w → Call m v msg unchanged w msg
  -- the position and the origin
  ask : {v : View} {msg : List ℕ} → Call m v msg unchanged v msg
  close_accepted : {v w : View} {msg : List ℕ} → Closed m v (Ok tt) w → Call m v msg ended w msg
  close_refused : {v w : View} {msg : List ℕ} (e : Refusal) → Closed m v (Err e) w → Call m v msg unchanged w msg

-- a session and its message after a list of calls from its making on, the newest first
pub data After (m : Meaning) : List Event → View → List ℕ → Type 0 where
  made : {msg : List ℕ} → After m [] (shut m) msg
  then : {v w : View} {msg msg' : List ℕ} {h : List Event} {e : Event} → After m h v msg → Call m v msg e w msg' → After m (e ∷ h) w msg'

-- the opening that lasts
abbrev pub lasting : List Event → Option Opening
lasting [] = None
lasting (opened o ∷ h) = Some o
lasting (piece start count ∷ h) = lasting h
lasting (stray start count ∷ h) = lasting h
lasting (onward n ∷ h) = lasting h
lasting (back n ∷ h) = lasting h
lasting (ended ∷ h) = None
lasting (unchanged ∷ h) = lasting h

-- a session and its message after the calls h, of which the opening o lasts
abbrev pub Under : Meaning → Opening → List Event → View → List ℕ → Type 0
Under m o h v msg = After m h v msg × (lasting h ≡ Some o)

abbrev pub SameKeyIv : Opening → Opening → Type 0
SameKeyIv o o' = (o.key ≡ o'.key) × (o.iv ≡ o'.iv)

-- the bytes of keystream applied or skipped since the last opening; none where it has ended
abbrev pub gone_on : List Event → ℕ
gone_on [] = 0
gone_on (opened o ∷ h) = 0
gone_on (piece start count ∷ h) = gone_on h + count
gone_on (stray start count ∷ h) = gone_on h + count
gone_on (onward n ∷ h) = gone_on h + n
gone_on (back n ∷ h) = gone_on h
gone_on (ended ∷ h) = 0
gone_on (unchanged ∷ h) = gone_on h

-- the bytes of keystream stepped back since the last opening; none where it has ended
abbrev pub gone_back : List Event → ℕ
gone_back [] = 0
gone_back (opened o ∷ h) = 0
gone_back (piece start count ∷ h) = gone_back h
gone_back (stray start count ∷ h) = gone_back h
gone_back (onward n ∷ h) = gone_back h
gone_back (back n ∷ h) = gone_back h + n
gone_back (ended ∷ h) = 0
gone_back (unchanged ∷ h) = gone_back h

-- 1 where byte i is one of the count bytes from start on, and 0 elsewhere
abbrev pub holds : ℕ → ℕ → ℕ → ℕ
holds start count i = cond (nat_le start i) (cond (nat_lt i (start + count)) 1 0) 0

-- how many pieces since the last opening cover byte i
abbrev pub covers : ℕ → List Event → ℕ
covers i [] = 0
covers i (opened o ∷ h) = 0
covers i (piece start count ∷ h) = holds start count i + covers i h
covers i (stray start count ∷ h) = covers i h
covers i (onward n ∷ h) = covers i h
covers i (back n ∷ h) = covers i h
covers i (ended ∷ h) = covers i h
covers i (unchanged ∷ h) = covers i h

-- how many strays since the last opening cover byte i
abbrev pub strays : ℕ → List Event → ℕ
strays i [] = 0
strays i (opened o ∷ h) = 0
strays i (piece start count ∷ h) = strays i h
strays i (stray start count ∷ h) = holds start count i + strays i h
strays i (onward n ∷ h) = strays i h
strays i (back n ∷ h) = strays i h
strays i (ended ∷ h) = strays i h
strays i (unchanged ∷ h) = strays i h

-- b is keystream byte i under a key and an IV: byte i mod 4, the first the most significant, of the word of the state that they reach in
-- i / 4 words
pub record Keystream (m : Meaning) (key iv : List ℕ) (i b : ℕ) : Type 0 where
  pub state : List ℕ
  pub reached : Reaches m key iv (i / 4) state
  pub is : b ≡ byte_of (m.word state) (i % 4)

pub record SessionLaws (m : Meaning) : Type 0 where
  -- the position is the bytes applied and skipped since the opening, less those stepped back
  pub position_is : {h : List Event} {v : View} {msg : List ℕ} → After m h v msg → v.position + gone_back h ≡ gone_on h
  -- it never passes the limit
  pub within_limit : {h : List Event} {v : View} {msg : List ℕ} → After m h v msg → v.position ≤ v.limit
  -- the limit is the opening's, and not 0, so that no call is refused as not open
  pub limit_is : {o : Opening} {h : List Event} {v : View} {msg : List ℕ} → Under m o h v msg → (v.limit ≡ 4 * o.limit) × (0 < o.limit)
  -- the generator's state is the load of the opening's key and IV after position / 4 nexts
  pub state_at : {o : Opening} {h : List Event} {v : View} {msg : List ℕ} → Under m o h v msg → Reaches m o.key o.iv (v.position / 4) v.state
  -- where no opening lasts, nothing of one is left
  pub closed_is_shut : {h : List Event} {v : View} {msg : List ℕ} → After m h v msg → lasting h ≡ None → v ≡ shut m
  -- two sessions at one position are in the same state exactly where their openings have the same key and IV
  pub same_state :
      {o o' : Opening} {h h' : List Event} {v v' : View} {msg msg' : List ℕ} → Under m o h v msg → Under m o' h' v' msg' → v.position ≡ v'.position
      → (v.state ≡ v'.state → SameKeyIv o o') × (SameKeyIv o o' → v.state ≡ v'.state)
  -- the message keeps its length
  pub same_length : {o : Opening} {h : List Event} {v : View} {msg : List ℕ} → Under m o h v msg → length msg ≡ length o.message
  -- a byte that an odd number of pieces and no stray cover is its byte at the opening joined with its keystream byte
  pub odd_cover :
      {o : Opening} {h : List Event} {v : View} {msg : List ℕ} (i : ℕ) → Under m o h v msg → strays i h ≡ 0 → covers i h % 2 ≡ 1
      → (b : ℕ) × Keystream m o.key o.iv i b × (slice_index msg i ≡ bit_xor (slice_index o.message i) b)
  -- one that an even number of pieces and no stray cover is its byte at the opening
  pub even_cover : {o : Opening} {h : List Event} {v : View} {msg : List ℕ} (i : ℕ) → Under m o h v msg → strays i h ≡ 0 → covers i h % 2 ≡ 0 → slice_index msg i ≡ slice_index o.message i
  -- origin names the opening's key and IV, and refuses only a short buffer
  pub origin_named :
      {o : Opening} {h : List Event} {v : View} {msg : List ℕ} (key iv key_after iv_after : List ℕ) (r : Result (ℕ × ℕ) Refusal) → Under m o h v msg → OriginOf m v key iv r key_after iv_after
      → ((r ≡ Err (Origin ShortBuffer)) × Cramped key iv)
      ⊎ ((r ≡ Ok (length o.key, length o.iv)) × AtFront o.key key key_after × AtFront o.iv iv iv_after)
  -- what one session made of a buffer, another under the same key and IV and at the same position makes the buffer again
  pub deciphers :
      {o o' : Opening} {h h' : List Event} {v v' : View} {msg msg' : List ℕ} (w w' : View) (start count : ℕ) (a b c : List ℕ) → Under m o h v msg → Under m o' h' v' msg' → SameKeyIv o o' → v.position ≡ v'.position
      → Applied m v start count a (Ok tt) w b → Applied m v' start count b (Ok tt) w' c → c ≡ a
  -- one key and one IV at most reach a state in a number of words
  pub trace_one : {s key iv key' iv' : List ℕ} (n : ℕ) → Reaches m key iv n s → Reaches m key' iv' n s → (key ≡ key') × (iv ≡ iv')
  -- with room in both buffers, a trace of at most 2 ^ 20 words names the key and the IV that reach the state where there are any, and says
  -- that there are none exactly where there are none
  pub trace_names :
      (n : ℕ) (s key iv key_after iv_after : List ℕ) (r : Result (ℕ × ℕ) TraceFault) → n ≤ 2 ^ 20 → Roomy key iv → Traced m n s key iv r key_after iv_after
      → ((k i : List ℕ) → Reaches m k i n s → (r ≡ Ok (length k, length i)) × AtFront k key key_after × AtFront i iv iv_after)
      × (((k i : List ℕ) → Reaches m k i n s → ⊥) → (r ≡ Err NoOrigin) × (key_after ≡ key) × (iv_after ≡ iv))
      × (r ≡ Err NoOrigin → (k i : List ℕ) → Reaches m k i n s → ⊥)
