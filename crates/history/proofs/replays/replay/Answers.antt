use Rattle.std.proofs.Common.{◌+◌, [], ◌∷◌, ◌++◌, vec_items, sym, refl, subst, arith}
use Rattle.std.proofs.lemmas.List.{take_all}
use Rattle.std.proofs.lemmas.Result.{MatchResult-from_err}
use Rattle.history.specs.Replays.{Ran, none}
use Rattle.history.proofs.Stands.{session_laws}
use Rattle.history.proofs.Runs.{after_run, ran_more, stopped}
use Rattle.history.proofs.replays.replay.Goals as goal

pub loop-request-init : goal.loop-request-init
loop-request-init g c =
    let m = g.G.Generator.meaning in
    let given = c.args.message.now in
    ([], subst (λ rs. Ran m given [] rs [] c.new-session.result given) (sym c.new-answers.ensures.items) (subst (λ v. Ran m given [] [] [] v given) (sym c.new-session.ensures) none))

pub loop-request-preserved : goal.loop-request-preserved
loop-request-preserved g c =
    ran_more c.args.requests.now c.loop-request.request-index _ (vec_items c.loop-request.answers) (vec_items c.push.new.self) c.in_ok-perform.field-0 c.loop-request-test.true c.in_ok-push.ensures.items c.loop-request.invariant.1 c.in_ok-perform.ensures

pub returns : goal.returns
returns g c =
    let m = g.G.Generator.meaning in
    let ran = subst (λ qs. Ran m c.args.message.now qs (vec_items c.loop-request.answers) c.loop-request.invariant.0 c.loop-request.session c.loop-request.message) (take_all c.loop-request.request-index c.args.requests.now c.loop-request-test.false) c.loop-request.invariant.1 in
    record { replayed = record { events = c.loop-request.invariant.0; ran = ran; after = after_run ran }; laws = session_laws g.met.G.Generator.lawful }

pub returns-in_err-perform : goal.returns-in_err-perform
returns-in_err-perform g c =
    let i = c.loop-request.request-index in
    let answers = vec_items c.loop-request.answers in
    let v = c.loop-request.session in
    record {
      replayed = MatchResult-from_err c.from_residual.result _ _ c.from_residual.ensures.0 (λ _. stopped c.args.requests.now i answers c.loop-request.invariant.0 v c.loop-request.message c.perform.new.message c.in_err-perform.ensures.1 (omega arith) c.loop-request.invariant.1);
      laws = session_laws g.met.G.Generator.lawful;
    }

pub returns-in_err-push : goal.returns-in_err-push
returns-in_err-push g c =
    let i = c.loop-request.request-index in
    let answers = vec_items c.loop-request.answers in
    let a = c.in_ok-perform.field-0 in
    let v = c.perform.new.session in
    let next = ran_more c.args.requests.now i _ answers (answers ++ a ∷ []) a c.loop-request-test.true refl c.loop-request.invariant.1 c.in_ok-perform.ensures in
    record {
      replayed = MatchResult-from_err c.from_residual-in_err-push.result _ _ c.from_residual-in_err-push.ensures.0 (λ _. stopped c.args.requests.now (i + 1) (answers ++ a ∷ []) next.0 v c.perform.new.message c.perform.new.message refl (omega arith) next.1);
      laws = session_laws g.met.G.Generator.lawful;
    }
