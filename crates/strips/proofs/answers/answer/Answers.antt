use Rattle.std.proofs.Common.{Ok, Err}
use Rattle.strips.specs.Answered.{ends, skips, steps_back, closes}
use Rattle.strips.proofs.Answering.{refused, as_asked}
use Rattle.strips.proofs.answers.answer.Goals as goal

pub returns-in-End-clause-answered : goal.returns-in-End-clause-answered
returns-in-End-clause-answered g c = as_asked c.in-End.is ends

pub returns-in_err-skip-in-Skip-clause-answered : goal.returns-in_err-skip-in-Skip-clause-answered
returns-in_err-skip-in-Skip-clause-answered g c =
    let e = c.in_err-skip-in-Skip.field-0.0 in
    refused c.from_residual.result _ e c.from_residual.ensures.1 (as_asked c.in-Skip.is (skips c.in-Skip.n (Err e) c.in_err-skip-in-Skip.ensures.skipped))

pub returns-in_err-step_back-in-StepBack-clause-answered : goal.returns-in_err-step_back-in-StepBack-clause-answered
returns-in_err-step_back-in-StepBack-clause-answered g c =
    let e = c.in_err-step_back-in-StepBack.field-0.0 in
    refused c.from_residual-in_err-step_back-in-StepBack.result _ e c.from_residual-in_err-step_back-in-StepBack.ensures.1 (as_asked c.in-StepBack.is (steps_back c.in-StepBack.n (Err e) c.in_err-step_back-in-StepBack.ensures.stepped))

pub returns-in_err-close-in-Close-clause-answered : goal.returns-in_err-close-in-Close-clause-answered
returns-in_err-close-in-Close-clause-answered g c =
    let e = c.in_err-close-in-Close.field-0.0 in
    refused c.from_residual-in_err-close-in-Close.result _ e c.from_residual-in_err-close-in-Close.ensures.1 (as_asked c.in-Close.is (closes (Err e) c.in_err-close-in-Close.ensures.closed))

pub returns-in_ok-skip-in-Skip-clause-answered : goal.returns-in_ok-skip-in-Skip-clause-answered
returns-in_ok-skip-in-Skip-clause-answered g c = as_asked c.in-Skip.is (skips c.in-Skip.n (Ok tt) c.in_ok-skip-in-Skip.ensures.skipped)

pub returns-in_ok-step_back-in-StepBack-clause-answered : goal.returns-in_ok-step_back-in-StepBack-clause-answered
returns-in_ok-step_back-in-StepBack-clause-answered g c = as_asked c.in-StepBack.is (steps_back c.in-StepBack.n (Ok tt) c.in_ok-step_back-in-StepBack.ensures.stepped)

pub returns-in_ok-close-in-Close-clause-answered : goal.returns-in_ok-close-in-Close-clause-answered
returns-in_ok-close-in-Close-clause-answered g c = as_asked c.in-Close.is (closes (Ok tt) c.in_ok-close-in-Close.ensures.closed)
