-- The turns of a run, from what the code of a turn does. Assumes nothing.
use Rattle.std.proofs.Common.{◌≡◌, ℕ, ◌+◌, ◌-◌, ◌<◌, ◌≤◌, Bool, false, List, ◌++◌, length, drop, Ok, Err, is_err, cond, ltb, Option, Result, sym, refl, ap, ◌∙◌, subst, ap₂, arith}
use Rattle.std.proofs.lemmas.List.{length-append}
use Rattle.std.proofs.lemmas.Bool.Decides.{nat_tests}
use Rattle.generator.specs.Meaning.{Meaning}
use Rattle.session.specs.declared.refusals.Refusal.{Refusal}
use Rattle.session.specs.View.{View}
use Rattle.strips.specs.declared.cursor.Cursor.{Cursor}
use Rattle.strips.specs.declared.orders.Order.{Order}
use Rattle.strips.specs.declared.replies.Replies.{Replies}
use Rattle.strips.specs.declared.stops.Stop.{Stop}
use Rattle.strips.specs.declared.stops.Stop.TheVariants.{NoRoom}
use Rattle.strips.specs.declared.stops.Report.{Report}
use Rattle.strips.specs.Stops.{stop_number}
use Rattle.strips.specs.Orders.{asked}
use Rattle.strips.specs.Reading.{order, stop, reads}
use Rattle.strips.specs.Replies.{put_at, refusal_reply, reply_room}
use Rattle.strips.specs.Answered.{Answered, in_buffer}
use Rattle.strips.specs.Runs.{Progress, start, with_stop, with_order, reply_to, refusals, is_end, Turn, full, unread, too_long, does, Turns, begun, more, outcome, Ran, bad_length, RunOf}
use Rattle.strips.specs.Turns.{Wrote, Holds, Turned, last_of, Begins, Went}
use Rattle.strips.proofs.Puts.{put_behind}

-- one order refused, or none
pub refusals_is : (r : Result ℕ Refusal) (buffer : List ℕ) → cond (is_err r) 1 0 ≡ refusals (in_buffer r buffer)
refusals_is (Ok n) buffer = refl
refusals_is (Err e) buffer = refl

-- some bytes more are written
holds_more : {p : Progress} (q : Progress) {bytes : List ℕ} {before : List ℕ} {c d : Cursor} {r s : Replies} → Holds p before c r → Wrote r bytes s → q.out ≡ p.out ++ bytes → d.place ≡ q.words → d.refused ≡ q.refused → Holds q before d s
holds_more {p} q {bytes} {before} h wrote grows words refused =
    record {
      words = words;
      refused = refused;
      written = wrote.written ∙ ap (λ n. n + length bytes) h.written ∙ sym (length-append p.out bytes) ∙ ap length (sym grows);
      buffer = wrote.buffer ∙ ap₂ (λ n b. put_at n bytes b) h.written h.buffer ∙ put_behind p.out bytes before ∙ ap (λ o. o ++ drop (length o) before) (sym grows);
    }

module _ {m : Meaning} {p : Progress} {before : List ℕ} {c : Cursor} {r : Replies} (h : Holds p before c r) (v : View) (room : ℕ) where
  pub turned_full : room - r.written < 4 → Turned m p before c v room (Err NoRoom) c r v
  turned_full lt = record { next = p; turn = full (omega (arith, h.written)); holds = h }

  pub turned_too_long : (o : Order) (size : ℕ) → 4 ≤ room - r.written → reads c.strip.bytes.now c.place ≡ order (asked o) size → room - r.written < reply_room (asked o) → Turned m p before c v room (Err NoRoom) c r v
  turned_too_long o size roomy is lt =
      record { next = p; turn = too_long (asked o) size (omega (arith, h.written)) (subst (λ k. reads c.strip.bytes.now k ≡ order (asked o) size) h.words is) (omega (arith, h.written)); holds = h }

  pub turned_unread : (s : Stop) (after : Replies) → 4 ≤ room - r.written → reads c.strip.bytes.now c.place ≡ stop s → Wrote r (refusal_reply (stop_number s) 0 c.place) after → Turned m p before c v room (Err s) c after v
  turned_unread s after roomy is wrote =
      record {
        next = with_stop p s;
        turn = unread s (omega (arith, h.written)) (subst (λ k. reads c.strip.bytes.now k ≡ stop s) h.words is);
        holds = holds_more (with_stop p s) h wrote (ap (λ w. p.out ++ refusal_reply (stop_number s) 0 w) (sym h.words)) h.words h.refused;
      }

  pub turned_done : (w : View) (o : Order) (size : ℕ) (a : Result (List ℕ) Refusal) (d : Cursor) (after : Replies) → 4 ≤ room - r.written → reads c.strip.bytes.now c.place ≡ order (asked o) size → reply_room (asked o) ≤ room - r.written → Answered m v (asked o) a w
      → Wrote r (reply_to c.place (asked o) a) after → d.place ≡ c.place + size → d.refused ≡ c.refused + refusals a → Turned m p before c v room (Ok o) d after w
  turned_done w o size a d after roomy is fits answered wrote moved count =
      let next = with_order p (asked o) size a in
      record {
        next = next;
        turn = does (asked o) size a (omega (arith, h.written)) (subst (λ n. reads c.strip.bytes.now n ≡ order (asked o) size) h.words is) (omega (arith, h.written)) answered;
        holds = holds_more next h wrote (ap (λ n. p.out ++ reply_to n (asked o) a) (sym h.words)) (moved ∙ ap (λ n. n + size) h.words) (count ∙ ap (λ n. n + refusals a) h.refused);
      }

-- a turn, over other names for the strip and the room
over : {m : Meaning} (b c : Cursor) {room n : ℕ} {p q : Progress} {v w : View} {a : Result Bool Stop} → c.strip ≡ b.strip → room ≡ n → Turn m c.strip.bytes.now room p v a q w → Turn m b.strip.bytes.now n p v a q w
over {m} b c {room} {n} {p} {q} {v} {w} {a} e f t = subst (λ s. Turn m s.bytes.now n p v a q w) e (subst (λ k. Turn m c.strip.bytes.now k p v a q w) f t)

-- a turn from c on of a run that began at b
module _ {m : Meaning} (b c d : Cursor) (before : List ℕ) {p : Progress} {v w : View} {room : ℕ} {r : Replies} (same : c.strip ≡ b.strip) (long : room ≡ length before) where
  -- the turns of a run, and one more
  pub goes_on : (o : Order) → is_end (asked o) ≡ false → Turns m b.strip.bytes.now (length before) p v → Turned m p before c v room (Ok o) d r w → (q : Progress) × Turns m b.strip.bytes.now (length before) q w × Holds q before d r
  goes_on o goes turns t = (t.next, more turns (over b c same long (subst (λ x. Turn m c.strip.bytes.now room p v (Ok x) t.next w) goes t.turn)), t.holds)

  -- the last turn of a run
  pub went : (a : Result Order Stop) (stopped : Option Stop) → last_of a ≡ outcome stopped → Turns m b.strip.bytes.now (length before) p v → Turned m p before c v room a d r w → Went m b before stopped d r
  went a stopped is turns t =
      record {
        progress = p;
        view = v;
        turns = turns;
        end = t.next;
        end_view = w;
        last = over b c same long (subst (λ x. Turn m c.strip.bytes.now room p v x t.next w) is t.turn);
        holds = t.holds;
      }

-- a run before its first turn
pub begins : {m : Meaning} {c : Cursor} {r : Replies} {v : View} → Begins m c r v → (p : Progress) × Turns m c.strip.bytes.now (length r.buffer.now) p v × Holds p r.buffer.now c r
begins {m} {c} {r} {v} b = (start, subst (Turns m c.strip.bytes.now (length r.buffer.now) start) (sym b.closed) begun, record { words = b.place; refused = b.refused; written = b.written; buffer = refl })

-- a run that has gone to its end or to a stop, as it is reported
pub run_of : {m : Meaning} {strip before after : List ℕ} {stopped : Option Stop} {c d : Cursor} {r : Replies} {words bytes refused : ℕ} → 4 ≤ length before → bad_length strip ≡ false → c.strip.bytes.now ≡ strip → Went m c before stopped d r
    → words ≡ d.place → bytes ≡ r.written → refused ≡ d.refused → after ≡ r.buffer.now → RunOf m strip before (record { stopped = stopped; words = words; bytes = bytes; refused = refused }) after
run_of {m} {strip} {before} {after} {stopped} {words = words} {bytes} {refused} room good same w e f g left =
    let roomy : ltb (length before) 4 ≡ false = grind (arith, nat_tests) in
    let h = w.holds in
    let end = w.end in
    let report : ℕ → ℕ → ℕ → Report = λ n k i. record { stopped = stopped; words = n; bytes = k; refused = i } in
    rw (roomy, good) (subst (λ s. Ran m s before (report words bytes refused) after) same (record {
      progress = w.progress;
      view = w.view;
      turns = w.turns;
      end = end;
      end_view = w.end_view;
      last = w.last;
      reports = ap (λ n. report n bytes refused) (e ∙ h.words) ∙ ap (λ k. report end.words k refused) (f ∙ h.written) ∙ ap (report end.words (length end.out)) (g ∙ h.refused);
      replies = left ∙ h.buffer;
    }))
