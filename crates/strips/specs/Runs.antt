-- A run of a strip: its orders one after the other, put to one session that is made for the run. Assumes nothing.
use Rattle.std.specs.Prelude.{◌≡◌, ℕ, ◌+◌, ◌%◌, ◌<◌, ◌≤◌, Bool, true, false, cond, ◌||◌, List, [], ◌∷◌, ◌++◌, length, drop, Some, None, Ok, Err, Option, Result, nat_lt}
use Rattle.generator.specs.Meaning.{Meaning}
use Rattle.session.specs.declared.refusals.Refusal.{Refusal}
use Rattle.session.specs.Refusals.{number, member_of}
use Rattle.session.specs.View.{View, shut}
use Rattle.strips.specs.declared.stops.Stop.{Stop}
use Rattle.strips.specs.declared.stops.Stop.TheVariants.{BadLength, NoRoom}
use Rattle.strips.specs.declared.stops.Report.{Report}
use Rattle.strips.specs.Stops.{stop_number}
use Rattle.strips.specs.Orders.{Asked, ending, opening, applying, skipping, going_back, placing, naming, closing, kind}
use Rattle.strips.specs.Reading.{order, stop, reads}
use Rattle.strips.specs.Replies.{accepted_reply, refusal_reply, reply_room}
use Rattle.strips.specs.Answered.{Answered}

abbrev pub is_end : Asked → Bool
is_end ending = true
is_end (opening key iv limit) = false
is_end (applying bytes) = false
is_end (skipping n) = false
is_end (going_back n) = false
is_end placing = false
is_end naming = false
is_end closing = false

-- a finished order: the number of its first word, what it asked, and the session's answer, which is the bytes of the reply or a refusal
pub record Finished : Type 0 where
  pub place : ℕ
  pub asked : Asked
  pub answer : Result (List ℕ) Refusal

-- what is replied to an order at word `place`
abbrev pub reply_to : ℕ → Asked → Result (List ℕ) Refusal → List ℕ
reply_to place q (Ok bytes) = accepted_reply (kind q) bytes
reply_to place q (Err e) = refusal_reply (number e) (member_of e) place

abbrev pub refusals : {X : Type 0} → Result X Refusal → ℕ
refusals (Ok x) = 0
refusals (Err e) = 1

-- how far a run has come: the words of finished orders, the reply bytes written, the orders refused, and the finished orders
pub record Progress : Type 0 where
  pub words : ℕ
  pub out : List ℕ
  pub refused : ℕ
  pub finished : List Finished

abbrev pub start : Progress
start = record { words = 0; out = []; refused = 0; finished = [] }

-- one order more is finished
abbrev pub with_order : Progress → Asked → ℕ → Result (List ℕ) Refusal → Progress
with_order p q size a =
    record {
      words = p.words + size;
      out = p.out ++ reply_to p.words q a;
      refused = p.refused + refusals a;
      finished = p.finished ++ record { place = p.words; asked = q; answer = a } ∷ [];
    }

-- a refusal is written, and no order is finished
abbrev pub with_stop : Progress → Stop → Progress
with_stop p s =
    record { words = p.words; out = p.out ++ refusal_reply (stop_number s) 0 p.words; refused = p.refused; finished = p.finished }

-- One turn of a run, where the replies have so much room: why the run stops there, or whether the order that is finished was the end. The
-- cases stand in the order of checking.
pub data Turn (m : Meaning) (strip : List ℕ) (room : ℕ) (p : Progress) (v : View) : Result Bool Stop → Progress → View → Type 0 where
  full : room < length p.out + 4 → Turn m strip room p v (Err NoRoom) p v
  unread : (s : Stop) → length p.out + 4 ≤ room → reads strip p.words ≡ stop s → Turn m strip room p v (Err s) (with_stop p s) v
  too_long : (q : Asked) (size : ℕ) → length p.out + 4 ≤ room → reads strip p.words ≡ order q size → room < length p.out + reply_room q → Turn m strip room p v (Err NoRoom) p v
  does : {w : View} (q : Asked) (size : ℕ) (a : Result (List ℕ) Refusal) → length p.out + 4 ≤ room → reads strip p.words ≡ order q size → length p.out + reply_room q ≤ room → Answered m v q a w
      → Turn m strip room p v (Ok (is_end q)) (with_order p q size a) w

-- turns one after the other, from the session's making on
pub data Turns (m : Meaning) (strip : List ℕ) (room : ℕ) : Progress → View → Type 0 where
  begun : Turns m strip room start (shut m)
  more : {p q : Progress} {v w : View} → Turns m strip room p v → Turn m strip room p v (Ok false) q w → Turns m strip room q w

-- what the last turn of a run answers
abbrev pub outcome : Option Stop → Result Bool Stop
outcome (Some s) = Err s
outcome None = Ok true

-- the report of a run that came so far
abbrev pub report_of : Option Stop → Progress → Report
report_of stopped p = record { stopped = stopped; words = p.words; bytes = length p.out; refused = p.refused }

-- The orders of a strip up to its end or to a stop: the report, and the buffer after it, which behind the replies holds what it held before.
pub record Ran (m : Meaning) (strip before : List ℕ) (r : Report) (after : List ℕ) : Type 0 where
  pub progress : Progress
  pub view : View
  pub turns : Turns m strip (length before) progress view
  pub end : Progress
  pub end_view : View
  pub last : Turn m strip (length before) progress view (outcome r.stopped) end end_view
  pub reports : r ≡ report_of r.stopped end
  pub replies : after ≡ end.out ++ drop (length end.out) before

-- a strip of bytes that are not whole words, or of more than 64,000
abbrev pub bad_length : List ℕ → Bool
bad_length strip = nat_lt 0 (length strip % 4) || nat_lt 64000 (length strip)

-- a stop before the first order: one refusal with place 0 is written
abbrev pub StopsAt : Stop → List ℕ → Report → List ℕ → Type 0
StopsAt s before r after = (r ≡ report_of (Some s) (with_stop start s)) × (after ≡ (with_stop start s).out ++ drop 4 before)

-- a run of a strip with a buffer for its replies: the report, and the buffer after it
abbrev pub RunOf : Meaning → List ℕ → List ℕ → Report → List ℕ → Type 0
RunOf m strip before r after =
    cond (nat_lt (length before) 4) ((r ≡ report_of (Some NoRoom) start) × (after ≡ before))
    (cond (bad_length strip) (StopsAt BadLength before r after)
    (Ran m strip before r after))
