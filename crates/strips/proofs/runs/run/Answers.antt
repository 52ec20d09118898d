use Rattle.std.proofs.Common.{◌≡◌, ◌++◌, drop, Some, true, false, ltb, length, sym, refl, ap, ◌∙◌, subst, arith, rules}
use Rattle.std.specs.Result.{result_err}
use Rattle.std.proofs.lemmas.Bool.Decides.{nat_tests}
use Rattle.history.proofs.Stands.{session_laws}
use Rattle.strips.specs.Runs.{bad_length, report_of, with_stop, start, RunOf}
use Rattle.strips.specs.declared.stops.Stop.TheVariants.{BadLength}
use Rattle.strips.specs.Turns.{Went}
use Rattle.strips.proofs.Turning.{run_of}
use Rattle.strips.proofs.Recording.{recorded}
use Rattle.strips.proofs.runs.run.Goals as goal

pub returns-then-replies-lt4 : goal.returns-then-replies-lt4
returns-then-replies-lt4 g c =
    let m = g.G.Generator.meaning in
    let strip = c.args.strip.now in
    let before = c.args.replies.now in
    let short : ltb (length before) 4 ≡ true = grind (arith, nat_tests) in
    let ran : RunOf m strip before c.without_room.result before = rw short (c.without_room.ensures, refl) in
    record { ran = ran; recorded = recorded m strip before c.without_room.result before g.met.G.Generator.lawful ran; laws = session_laws g.met.G.Generator.lawful }

pub returns-in-Err : goal.returns-in-Err
returns-in-Err g c =
    let m = g.G.Generator.meaning in
    let strip = c.args.strip.now in
    let before = c.args.replies.now in
    let roomy : ltb (length before) 4 ≡ false = grind (arith, nat_tests) in
    let bad : bad_length strip ≡ true = c.in-Err.ensures.0 in
    let is : c.in-Err.stop ≡ BadLength = c.in-Err.ensures.1 in
    let ran : RunOf m strip before c.refuse.result c.refuse.new.replies = rw (roomy, bad) (c.refuse.ensures.report ∙ ap (λ s. report_of (Some s) (with_stop start s)) is, c.refuse.ensures.replies ∙ ap (λ s. (with_stop start s).out ++ drop 4 before) is) in
    record { ran = ran; recorded = recorded m strip before c.refuse.result c.refuse.new.replies g.met.G.Generator.lawful ran; laws = session_laws g.met.G.Generator.lawful }

pub returns : goal.returns
returns g c =
    let m = g.G.Generator.meaning in
    let strip = c.args.strip.now in
    let before = c.args.replies.now in
    let begun = c.new-replies.ensures.none in
    let went : Went m c.new-3.result before c.err-stopped.result c.go.new.self.cursor c.go.new.replies =
    subst (λ s. Went m c.new-3.result before s c.go.new.self.cursor c.go.new.replies) (sym c.err-stopped.ensures.value) (subst (λ x. Went m c.new-3.result x (result_err c.go.result) c.go.new.self.cursor c.go.new.replies) begun.0 c.go.ensures.went) in
    let same = ap (λ s. s.bytes.now) c.new-3.ensures.0 ∙ c.in-Ok.ensures.1 in
    record {
      ran = run_of (omega arith) c.in-Ok.ensures.0 same went c.place.ensures.place c.written.ensures c.refused.ensures (search rules);
      recorded = recorded m strip before _ _ g.met.G.Generator.lawful (run_of (omega arith) c.in-Ok.ensures.0 same went c.place.ensures.place c.written.ensures c.refused.ensures (search rules));
      laws = session_laws g.met.G.Generator.lawful;
    }
