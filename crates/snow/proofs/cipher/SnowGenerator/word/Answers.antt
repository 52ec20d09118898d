use Rattle.std.proofs.Common.{sym, ap, ◌∙◌}
use Rattle.words.specs.Words.{◌⊕◌}
use Rattle.snow.specs.Register.{at}
use Rattle.snow.proofs.CipherParts.{keystream_parts}
use Rattle.snow.proofs.cipher.SnowGenerator.word.Goals as goal

pub returns-clause-value : goal.returns-clause-value
returns-clause-value g c =
    let x = c.args.self.now.register in
    ap (λ f. f ⊕ at x.words 0) c.output.ensures ∙ sym (keystream_parts x.words x.count (g.M.Machine.words c.args.self.now.machine))
