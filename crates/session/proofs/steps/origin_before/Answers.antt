use Rattle.std.proofs.Common.{ap, ◌∙◌, subst}
use Rattle.generator.specs.Meaning.{times}
use Rattle.generator.specs.Calls.{Named}
use Rattle.generator.proofs.Repeats.{named_from, next_again}
use Rattle.session.proofs.steps.origin_before.Goals as goal

pub returns : goal.returns
returns g c =
    let m = g.G.Generator.meaning in
    let lawful = g.met.G.Generator.lawful in
    let s = g.G.Generator.state c.args.generator.now in
    let valid = g.met.G.Generator.valid c.args.generator.now in
    let words = c.args.words in
    record {
      named =
          named_from lawful words s c.args.key.now c.args.iv.now c.origin-answer.result c.origin-answer.new.key c.origin-answer.new.iv valid
          (subst (λ t. Named m 0 t c.args.key.now c.args.iv.now c.origin-answer.result c.origin-answer.new.key c.origin-answer.new.iv) c.backward_by.ensures c.origin-answer.ensures.named);
      same = c.forward_by.ensures ∙ ap (times words m.next) (c.origin-answer.ensures.same ∙ c.backward_by.ensures) ∙ next_again lawful words valid;
    }
