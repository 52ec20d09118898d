-- What holds of every run, over every generator: a run is a record of one session's calls. Assumes nothing.
use Rattle.std.specs.Prelude.{◌≡◌, ℕ, ◌+◌, List, [], ◌∷◌, ◌++◌, map, length, drop, Some, None, Ok, Err, Option, Result}
use Rattle.generator.specs.Meaning.{Meaning}
use Rattle.session.specs.declared.refusals.Refusal.{Refusal}
use Rattle.session.specs.View.{View}
use Rattle.history.specs.Laws.{Event, opened, onward, back, ended, unchanged, After}
use Rattle.strips.specs.declared.stops.Stop.{Stop}
use Rattle.strips.specs.declared.stops.Stop.TheVariants.{BadLength, CutShort, BadWord, NoRoom, UnknownGenerator}
use Rattle.strips.specs.declared.stops.Report.{Report}
use Rattle.strips.specs.Orders.{Asked, ending, opening, applying, skipping, going_back, placing, naming, closing}
use Rattle.strips.specs.Reading.{order, reads}
use Rattle.strips.specs.Replies.{refusal_reply}
use Rattle.strips.specs.Runs.{Finished, reply_to, refusals}
use Rattle.strips.specs.ReadBack.{ReadBack, heading_of}

-- what a call came to: e where the session accepted it
abbrev pub if_accepted : Event → Result (List ℕ) Refusal → List Event
if_accepted e (Ok bytes) = e ∷ []
if_accepted e (Err r) = unchanged ∷ []

-- What an order came to as a call of its session. No message is lent to a session of a run. The end of a strip is no call.
abbrev pub came_to : Asked → Result (List ℕ) Refusal → List Event
came_to ending a = []
came_to (opening key iv limit) a = if_accepted (opened (record { key = key; iv = iv; limit = limit; message = [] })) a
came_to (applying bytes) a = if_accepted (onward (length bytes)) a
came_to (skipping n) a = if_accepted (onward n) a
came_to (going_back n) a = if_accepted (back n) a
came_to placing a = if_accepted unchanged a
came_to naming a = if_accepted unchanged a
came_to closing a = if_accepted ended a

-- Orders finished one after the other, from the strip's first word on: where the next begins, how many the session refused, what they came
-- to as calls of the session, the newest first, and their replies.
pub data Orders (strip : List ℕ) : List Finished → ℕ → ℕ → List Event → List ℕ → Type 0 where
  none : Orders strip [] 0 0 [] []
  next : {fs : List Finished} {place k : ℕ} {h : List Event} {out : List ℕ} (q : Asked) (size : ℕ) (a : Result (List ℕ) Refusal) → Orders strip fs place k h out → reads strip place ≡ order q size
      → Orders strip (fs ++ record { place = place; asked = q; answer = a } ∷ []) (place + size) (k + refusals a) (came_to q a ++ h) (out ++ reply_to place q a)

-- the reply of a stop at word `place`; a stop for want of room has none
abbrev pub stop_reply : Option Stop → ℕ → List ℕ
stop_reply None place = []
stop_reply (Some BadLength) place = refusal_reply 14 0 place
stop_reply (Some CutShort) place = refusal_reply 15 0 place
stop_reply (Some BadWord) place = refusal_reply 16 0 place
stop_reply (Some NoRoom) place = []
stop_reply (Some UnknownGenerator) place = refusal_reply 18 0 place

-- A run is a record of the calls of one session from its making on. Its replies are one for each finished order, in order, and then that of
-- the stop. Read back, each reply is of its order's kind, or a refusal with the number of its order's first word.
pub record Recorded (m : Meaning) (strip before : List ℕ) (r : Report) (after : List ℕ) : Type 0 where
  pub finished : List Finished
  pub events : List Event
  pub view : View
  pub out : List ℕ
  pub orders : Orders strip finished r.words r.refused events out
  pub calls : After m events view []
  pub read_back : ReadBack out (map heading_of finished)
  pub replies : after ≡ (out ++ stop_reply r.stopped r.words) ++ drop r.bytes before
