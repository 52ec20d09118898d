-- What the code of a run holds from turn to turn. Assumes nothing.
use Rattle.std.specs.Prelude.{◌≡◌, ℕ, ◌+◌, ◌*◌, ◌<◌, ◌≤◌, Bool, List, ◌++◌, length, drop, Ok, Err, Option, Result}
use Rattle.generator.specs.Meaning.{Meaning}
use Rattle.session.specs.declared.refusals.Refusal.{Refusal}
use Rattle.session.specs.View.{View, shut}
use Rattle.strips.specs.declared.cursor.Cursor.{Cursor}
use Rattle.strips.specs.declared.orders.Order.{Order}
use Rattle.strips.specs.declared.replies.Replies.{Replies}
use Rattle.strips.specs.declared.stops.Stop.{Stop}
use Rattle.strips.specs.Orders.{asked}
use Rattle.strips.specs.Reading.{words_for}
use Rattle.strips.specs.Replies.{put_at}
use Rattle.strips.specs.Runs.{Progress, is_end, Turn, Turns, outcome}

-- the same buffer, as long as it was
abbrev pub SameBuffer : Replies → Replies → Type 0
SameBuffer r s = (s.buffer.ghost_name ≡ r.buffer.ghost_name) × (length s.buffer.now ≡ length r.buffer.now)

-- some bytes more are written, into the same buffer
pub record Wrote (r : Replies) (bytes : List ℕ) (s : Replies) : Type 0 where
  pub same_buffer : SameBuffer r s
  pub buffer : s.buffer.now ≡ put_at r.written bytes r.buffer.now
  pub written : s.written ≡ r.written + length bytes

-- the reply to an order has room
abbrev pub HasRoom : ℕ → ℕ → Result ℕ Refusal → ℕ → Type 0
HasRoom room at (Ok n) scratch = (n ≤ 64000) × (n ≤ scratch) × (at + 4 + 4 * words_for n ≤ room)
HasRoom room at (Err e) scratch = at + 4 ≤ room

-- a cursor and the replies of a run that has come so far; behind what is written the buffer is as it was before
pub record Holds (p : Progress) (before : List ℕ) (c : Cursor) (r : Replies) : Type 0 where
  pub words : c.place ≡ p.words
  pub refused : c.refused ≡ p.refused
  pub written : r.written ≡ length p.out
  pub buffer : r.buffer.now ≡ p.out ++ drop (length p.out) before

-- whether the order that a turn answers is the end
abbrev pub last_of : Result Order Stop → Result Bool Stop
last_of (Ok o) = Ok (is_end (asked o))
last_of (Err s) = Err s

-- a turn from p on, and what the cursor and the replies then hold
pub record Turned (m : Meaning) (p : Progress) (before : List ℕ) (c : Cursor) (v : View) (room : ℕ) (answer : Result Order Stop) (d : Cursor) (r : Replies) (w : View) : Type 0 where
  pub next : Progress
  pub turn : Turn m c.strip.bytes.now room p v (last_of answer) next w
  pub holds : Holds next before d r

-- where an order was finished, the cursor is behind it
abbrev pub Onward : Cursor → Result Order Stop → Cursor → Type 0
Onward c (Ok o) d = (d.strip ≡ c.strip) × (c.place < d.place)
Onward c (Err s) d = d ≡ c

-- a run before its first turn
pub record Begins (m : Meaning) (c : Cursor) (r : Replies) (v : View) : Type 0 where
  pub place : c.place ≡ 0
  pub refused : c.refused ≡ 0
  pub written : r.written ≡ 0
  pub closed : v ≡ shut m

-- the turns up to the end or to a stop, and what the cursor and the replies then hold
pub record Went (m : Meaning) (c : Cursor) (before : List ℕ) (stopped : Option Stop) (d : Cursor) (r : Replies) : Type 0 where
  pub progress : Progress
  pub view : View
  pub turns : Turns m c.strip.bytes.now (length before) progress view
  pub end : Progress
  pub end_view : View
  pub last : Turn m c.strip.bytes.now (length before) progress view (outcome stopped) end end_view
  pub holds : Holds end before d r
