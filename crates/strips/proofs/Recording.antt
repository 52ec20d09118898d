-- Runs are records of one session's calls. Assumes nothing.
use Rattle.std.proofs.Common.{◌≡◌, ℕ, ◌^◌, ◌<◌, ◌≤◌, Bool, true, false, cond, ltb, List, [], ◌++◌, map, length, drop, Some, None, Ok, Err, Option, Result, sym, refl, ap, ◌∙◌, subst, arith}
use Rattle.std.proofs.lemmas.List.{append-nil, map_push}
use Rattle.std.proofs.lemmas.Bool.Decides.{nat_tests}
use Rattle.generator.specs.Meaning.{Meaning, Lawful}
use Rattle.session.specs.declared.refusals.Refusal.{Refusal}
use Rattle.session.specs.Refusals.{number, member_of}
use Rattle.session.specs.View.{View, shut}
use Rattle.history.specs.Laws.{Event, After, made, then, open_accepted, open_refused, elsewhere_accepted, elsewhere_refused, skip_accepted, skip_refused, back_accepted, back_refused, ask, close_accepted, close_refused}
use Rattle.strips.specs.declared.stops.Stop.{Stop}
use Rattle.strips.specs.declared.stops.Stop.TheVariants.{BadLength, CutShort, BadWord, NoRoom, UnknownGenerator}
use Rattle.strips.specs.declared.stops.Report.{Report}
use Rattle.strips.specs.Stops.{stop_number}
use Rattle.strips.specs.Orders.{Asked, ending, opening, applying, skipping, going_back, placing, naming, closing, kind}
use Rattle.words.specs.Words.{word_at}
use Rattle.strips.specs.Reading.{order, stop, reads, reads_opening, reads_payload}
use Rattle.strips.specs.Replies.{refusal_reply}
use Rattle.strips.specs.Answered.{Answered, ends, opens, applies, skips, steps_back, asks_place, asks_origin, closes}
use Rattle.strips.specs.Runs.{Finished, reply_to, Progress, start, with_stop, Turn, full, unread, too_long, does, Turns, begun, more, outcome, report_of, Ran, bad_length, StopsAt, RunOf}
use Rattle.strips.specs.ReadBack.{heading, reply_size, ReadBack, nothing, heading_of}
use Rattle.strips.specs.Records.{came_to, Orders, none, next, stop_reply, Recorded}
use Rattle.strips.proofs.Headings.{read_more, accepted_heading, accepted_size, refusal_heading, refusal_size, reads_place, reads_short}
use Rattle.strips.proofs.Shorts.{number_small, Short, answer_fits}

-- an answered order is a call, or the end of the strip
after_order : {m : Meaning} {v w : View} {q : Asked} {a : Result (List ℕ) Refusal} {h : List Event} → After m h v [] → Answered m v q a w → After m (came_to q a ++ h) w []
after_order h ends = h
after_order h (opens key iv limit (Ok tt) kb ib p) = then h (open_accepted key iv limit kb ib p)
after_order h (opens key iv limit (Err e) kb ib p) = then h (open_refused key iv limit e p)
after_order h (applies bytes after (Ok tt) p) = then h (elsewhere_accepted 0 (length bytes) bytes after p)
after_order h (applies bytes after (Err e) p) = then h (elsewhere_refused 0 (length bytes) bytes after e p)
after_order h (skips n (Ok tt) p) = then h (skip_accepted n p)
after_order h (skips n (Err e) p) = then h (skip_refused n e p)
after_order h (steps_back n (Ok tt) p) = then h (back_accepted n p)
after_order h (steps_back n (Err e) p) = then h (back_refused n e p)
after_order h (asks_place (Ok n) p) = then h ask
after_order h (asks_place (Err e) p) = then h ask
after_order h (asks_origin (Ok n) key iv p) = then h ask
after_order h (asks_origin (Err e) key iv p) = then h ask
after_order h (closes (Ok tt) p) = then h (close_accepted p)
after_order h (closes (Err e) p) = then h (close_refused e p)

-- the orders that are finished at some progress, with the session after them
record Far (m : Meaning) (strip : List ℕ) (p : Progress) (v : View) : Type 0 where
  events : List Event
  orders : Orders strip p.finished p.words p.refused events p.out
  calls : After m events v []
  back : ReadBack p.out (map heading_of p.finished)

kind_small : (q : Asked) → kind q < 8
kind_small ending = omega arith
kind_small (opening key iv limit) = omega arith
kind_small (applying bytes) = omega arith
kind_small (skipping n) = omega arith
kind_small (going_back n) = omega arith
kind_small placing = omega arith
kind_small naming = omega arith
kind_small closing = omega arith

-- a reply says what it replies to, and how long it is
reply_reads : (place : ℕ) (q : Asked) (a : Result (List ℕ) Refusal) → place < 2 ^ 16 → Short a
    → (length (reply_to place q a) ≡ reply_size (word_at (reply_to place q a) 0)) × (heading (word_at (reply_to place q a) 0) ≡ heading_of (record { place = place; asked = q; answer = a }))
reply_reads place q (Ok bytes) near short = (accepted_size (kind q) bytes (kind_small q) short, accepted_heading (kind q) bytes (kind_small q) short)
reply_reads place q (Err e) near short = (refusal_size (number e) (member_of e) place (number_small e) short near, refusal_heading (number e) (member_of e) place (number_small e) short near)

far_more : {m : Meaning} {strip : List ℕ} {room : ℕ} {p q : Progress} {v w : View} {b : Bool} → Lawful m → length strip ≤ 64000 → Far m strip p v → Turn m strip room p v (Ok b) q w → Far m strip q w
far_more {strip = strip} {p = p} lawful short f (does q size a roomy is fits answered) =
    let done : Finished = record { place = p.words; asked = q; answer = a } in
    let near : p.words < 2 ^ 16 = omega (arith, reads_place strip p.words q size is) in
    let few = answer_fits lawful (λ bytes e. let long = reads_short strip p.words bytes size (is ∙ ap (λ x. order x size) e) in omega arith) answered in
    let says = reply_reads p.words q a near few in
    record {
      events = came_to q a ++ f.events;
      orders = next q size a f.orders is;
      calls = after_order f.calls answered;
      back = subst (ReadBack (p.out ++ reply_to p.words q a)) (sym (map_push heading_of p.finished done)) (read_more (reply_to p.words q a) (heading_of done) says.0 says.1 f.back);
    }

far : {m : Meaning} {strip : List ℕ} {room : ℕ} {p : Progress} {v : View} → Lawful m → length strip ≤ 64000 → Turns m strip room p v → Far m strip p v
far lawful short begun = record { events = []; orders = none; calls = made; back = nothing }
far lawful short (more turns turn) = far_more lawful short (far lawful short turns) turn

-- reading an order never stops for want of room
read_any : (strip : List ℕ) (place : ℕ) → reads strip place ≡ stop NoRoom → ⊥
unfolding reads_opening reads_payload
read_any strip place e = grind (arith, nat_tests)

stop_reply_is : (strip : List ℕ) (place : ℕ) (s : Stop) → reads strip place ≡ stop s → refusal_reply (stop_number s) 0 place ≡ stop_reply (Some s) place
stop_reply_is strip place BadLength e = refl
stop_reply_is strip place CutShort e = refl
stop_reply_is strip place BadWord e = refl
stop_reply_is strip place UnknownGenerator e = refl
stop_reply_is strip place NoRoom e = absurd (read_any strip place e)

-- the record of a run that stops, and of one that comes to the end
module _ (m : Meaning) (strip before : List ℕ) (room : ℕ) where
  here : (s : Option Stop) (p : Progress) (v : View) → stop_reply s p.words ≡ [] → Far m strip p v → Recorded m strip before (report_of s p) (p.out ++ drop (length p.out) before)
  here s p v e f =
      record {
        finished = p.finished;
        events = f.events;
        view = v;
        out = p.out;
        orders = f.orders;
        calls = f.calls;
        read_back = f.back;
        replies = ap (λ o. o ++ drop (length p.out) before) (sym (append-nil p.out) ∙ ap (λ t. p.out ++ t) (sym e));
      }

  at_stop : {s : Stop} {p q : Progress} {v w : View} → Far m strip p v → Turn m strip room p v (Err s) q w → Recorded m strip before (report_of (Some s) q) (q.out ++ drop (length q.out) before)
  at_stop {p = p} {v = v} f (full lt) = here (Some NoRoom) p v refl f
  at_stop {p = p} {v = v} f (too_long q size roomy is lt) = here (Some NoRoom) p v refl f
  at_stop {p = p} {v = v} f (unread s roomy is) =
      record {
        finished = p.finished;
        events = f.events;
        view = v;
        out = p.out;
        orders = f.orders;
        calls = f.calls;
        read_back = f.back;
        replies = ap (λ t. (p.out ++ t) ++ drop (length (with_stop p s).out) before) (stop_reply_is strip p.words s is);
      }

  at_outcome : (s : Option Stop) {p q : Progress} {v w : View} → Lawful m → length strip ≤ 64000 → Far m strip p v → Turn m strip room p v (outcome s) q w → Recorded m strip before (report_of s q) (q.out ++ drop (length q.out) before)
  at_outcome None {q = q} {w = w} lawful short f t = here None q w refl (far_more lawful short f t)
  at_outcome (Some s) lawful short f t = at_stop f t

bad_start : (m : Meaning) (strip before : List ℕ) → Recorded m strip before (report_of (Some BadLength) (with_stop start BadLength)) ((with_stop start BadLength).out ++ drop 4 before)
unfolding refusal_reply
bad_start m strip before = record { finished = []; events = []; view = shut m; out = []; orders = none; calls = made; read_back = nothing; replies = refl }

recorded_at : {m : Meaning} {strip before : List ℕ} {r r' : Report} {after after' : List ℕ} → r ≡ r' → after ≡ after' → Recorded m strip before r' after' → Recorded m strip before r after
recorded_at {m} {strip} {before} {r} {r'} {after} {after'} e f x = subst (λ y. Recorded m strip before y after) (sym e) (subst (Recorded m strip before r') (sym f) x)

recorded_ran : {m : Meaning} {strip before : List ℕ} {r : Report} {after : List ℕ} → Lawful m → length strip ≤ 64000 → Ran m strip before r after → Recorded m strip before r after
recorded_ran {m} {strip} {before} {r} lawful short ran = recorded_at ran.reports ran.replies (at_outcome m strip before (length before) r.stopped lawful short (far lawful short ran.turns) ran.last)

pub recorded : (m : Meaning) (strip before : List ℕ) (r : Report) (after : List ℕ) → Lawful m → RunOf m strip before r after → Recorded m strip before r after
recorded m strip before r after lawful run = by_room (ltb (length before) 4) run
  where
    unread_start : Recorded m strip before (report_of (Some NoRoom) start) before
    unread_start = record { finished = []; events = []; view = shut m; out = []; orders = none; calls = made; read_back = nothing; replies = refl }

    by_length : (b : Bool) → bad_length strip ≡ b → cond b (StopsAt BadLength before r after) (Ran m strip before r after) → Recorded m strip before r after
    by_length true h (e, f) = recorded_at e f (bad_start m strip before)
    by_length false h ran = let short : length strip ≤ 64000 = grind (arith, nat_tests) in recorded_ran lawful short ran

    by_room : (b : Bool) → cond b ((r ≡ report_of (Some NoRoom) start) × (after ≡ before)) (cond (bad_length strip) (StopsAt BadLength before r after) (Ran m strip before r after)) → Recorded m strip before r after
    by_room true (e, f) = recorded_at e f unread_start
    by_room false rest = by_length (bad_length strip) refl rest
