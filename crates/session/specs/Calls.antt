-- What each call of a session answers and leaves, and what a trace does. The tests of a call stand in its order of checking; v is the
-- session before the call, w the one after it and r the answer. Assumes nothing.
use Rattle.std.specs.Prelude.{◌≡◌, ℕ, ◌+◌, ◌-◌, ◌*◌, ◌/◌, ◌^◌, ◌<◌, ◌≤◌, Bool, cond, ◌||◌, List, length, Some, None, Ok, Err, Option, Result, ◌==◌, bit_xor, nat_lt, slice_index}
use Rattle.generator.specs.Meaning.{Meaning}
use Rattle.generator.specs.Calls.{Named}
use Rattle.generator.specs.declared.OriginFault.{OriginFault}
use Rattle.generator.specs.declared.OriginFault.TheVariants.{ShortBuffer, NoOrigin}
use Rattle.session.specs.declared.refusals.Refusal.{Refusal}
use Rattle.session.specs.declared.refusals.Refusal.TheVariants.{AlreadyOpen, BadLimit, Load, NotOpen, PastBuffer, PastLimit, BeforeStart, Origin}
use Rattle.session.specs.declared.refusals.TraceFault.{TraceFault}
use Rattle.session.specs.declared.refusals.TraceFault.TheVariants.{ShortBuffer as Short, TooFar, NoOrigin as Unnamed}
use Rattle.session.specs.View.{View, shut, moved, ahead, behind, stream_byte}

abbrev pub closed : View → Bool
closed v = v.limit == 0

-- A session opened with a key, an IV and a limit in words. Where the key and the IV have no load the session stays closed.
abbrev pub Opened : Meaning → View → List ℕ → List ℕ → ℕ → Result Unit Refusal → View → Type 0
Opened m v key iv limit r w =
    cond (nat_lt 0 v.limit) ((r ≡ Err AlreadyOpen) × (w ≡ v))
    (cond (limit == 0 || nat_lt (2 ^ 50) limit) ((r ≡ Err BadLimit) × (w ≡ v))
    (elim (m.load key iv) [ Ok s ↦ (r ≡ Ok tt) × (w ≡ record { state = s; position = 0; limit = 4 * limit }) | Err f ↦ (r ≡ Err (Load f)) × (w ≡ shut m) ]))

-- each byte of the window of count bytes from start on is joined with its keystream byte, and the others are as they were
pub record Joined (m : Meaning) (v : View) (start count : ℕ) (before after : List ℕ) : Type 0 where
  pub same_length : length after ≡ length before
  pub window : (i : ℕ) → i < count → slice_index after (start + i) ≡ bit_xor (slice_index before (start + i)) (stream_byte m v i)
  pub front : (i : ℕ) → i < start → slice_index after i ≡ slice_index before i
  pub rest : (i : ℕ) → start + count ≤ i → slice_index after i ≡ slice_index before i

-- every byte of a list is joined with its keystream byte, and t is the state behind the last
pub record JoinedAll (m : Meaning) (v : View) (before after t : List ℕ) : Type 0 where
  pub ends : t ≡ ahead m v (length before)
  pub joined : Joined m v 0 (length before) before after

-- why keystream is not applied to a window of a buffer of len bytes
abbrev pub apply_refusal : View → ℕ → ℕ → ℕ → Option Refusal
apply_refusal v len start count =
    cond (closed v) (Some NotOpen) (cond (nat_lt len (start + count)) (Some PastBuffer) (cond (nat_lt v.limit (v.position + count)) (Some PastLimit) None))

-- keystream applied to a window of a buffer
abbrev pub Applied : Meaning → View → ℕ → ℕ → List ℕ → Result Unit Refusal → View → List ℕ → Type 0
Applied m v start count before r w after =
    elim (apply_refusal v (length before) start count) [
      | Some e ↦ (r ≡ Err e) × (w ≡ v) × (after ≡ before)
      | None ↦ (r ≡ Ok tt) × (w ≡ moved v (ahead m v count) (v.position + count)) × Joined m v start count before after
    ]

-- n bytes of keystream passed over
abbrev pub Skipped : Meaning → View → ℕ → Result Unit Refusal → View → Type 0
Skipped m v n r w =
    cond (closed v) ((r ≡ Err NotOpen) × (w ≡ v))
    (cond (nat_lt v.limit (v.position + n)) ((r ≡ Err PastLimit) × (w ≡ v)) ((r ≡ Ok tt) × (w ≡ moved v (ahead m v n) (v.position + n))))

-- n bytes of keystream taken back
abbrev pub SteppedBack : Meaning → View → ℕ → Result Unit Refusal → View → Type 0
SteppedBack m v n r w =
    cond (closed v) ((r ≡ Err NotOpen) × (w ≡ v))
    (cond (nat_lt v.position n) ((r ≡ Err BeforeStart) × (w ≡ v)) ((r ≡ Ok tt) × (w ≡ moved v (behind m v n) (v.position - n))))

abbrev pub PositionOf : View → Result ℕ Refusal → Type 0
PositionOf v r = r ≡ cond (closed v) (Err NotOpen) (Ok v.position)

-- a generator's answer on an origin, as a session hands it up
abbrev pub from_origin : Result (ℕ × ℕ) OriginFault → Result (ℕ × ℕ) Refusal
from_origin (Ok lengths) = Ok lengths
from_origin (Err e) = Err (Origin e)

-- The key and the IV of the opening, which reach the state in position / 4 words, written to the front of two buffers.
abbrev pub OriginOf : Meaning → View → List ℕ → List ℕ → Result (ℕ × ℕ) Refusal → List ℕ → List ℕ → Type 0
OriginOf m v key iv r key_after iv_after =
    cond (closed v) ((r ≡ Err NotOpen) × (key_after ≡ key) × (iv_after ≡ iv))
    ((a : Result (ℕ × ℕ) OriginFault) × (r ≡ from_origin a) × Named m (v.position / 4) v.state key iv a key_after iv_after)

abbrev pub Closed : Meaning → View → Result Unit Refusal → View → Type 0
Closed m v r w = cond (closed v) ((r ≡ Err NotOpen) × (w ≡ v)) ((r ≡ Ok tt) × (w ≡ shut m))

abbrev pub as_trace : OriginFault → TraceFault
as_trace ShortBuffer = Short
as_trace NoOrigin = Unnamed

-- a generator's answer on an origin, as a trace hands it up
abbrev pub from_trace : Result (ℕ × ℕ) OriginFault → Result (ℕ × ℕ) TraceFault
from_trace (Ok lengths) = Ok lengths
from_trace (Err e) = Err (as_trace e)

-- what the search for the key and the IV that reach s in n words answers, and what it leaves in two buffers
abbrev pub Traced : Meaning → ℕ → List ℕ → List ℕ → List ℕ → Result (ℕ × ℕ) TraceFault → List ℕ → List ℕ → Type 0
Traced m n s key iv r key_after iv_after =
    cond (nat_lt (length key) 255 || nat_lt (length iv) 255) ((r ≡ Err Short) × (key_after ≡ key) × (iv_after ≡ iv))
    (cond (nat_lt (2 ^ 20) n) ((r ≡ Err TooFar) × (key_after ≡ key) × (iv_after ≡ iv))
    ((a : Result (ℕ × ℕ) OriginFault) × (r ≡ from_trace a) × Named m n s key iv a key_after iv_after))
