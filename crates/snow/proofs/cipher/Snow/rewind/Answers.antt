use Rattle.std.proofs.Common.{◌≡◌, ap, ◌∙◌, arith}
use Rattle.generator.specs.Meaning.{times}
use Rattle.snow.specs.Cipher.{unfeed}
use Rattle.snow.specs.States.{state_of}
use Rattle.snow.proofs.CipherParts.{unclocked_unstep}
use Rattle.snow.proofs.cipher.Snow.rewind.Goals as goal

pub returns : goal.returns
returns g c =
    let machine = g.M.Machine.machine in
    let words = g.M.Machine.words in
    let end : c.loop.counter ≡ 32 = omega arith in
    c.loop.invariant ∙ ap (λ n. times n (unfeed machine) (state_of words c.unclock.new.self)) end
    ∙ ap (times 32 (unfeed machine)) (c.unclock.ensures ∙ unclocked_unstep machine (state_of words c.args.self.now))
