use Rattle.std.proofs.Common.{◌++◌, sym, ◌∙◌, ap₂}
use Rattle.snow.proofs.CipherParts.{unclocked_parts}
use Rattle.snow.proofs.cipher.Snow.unclock.Goals as goal

pub returns : goal.returns
returns g c =
    let x = c.args.self.now.register in
    ap₂ ◌++◌ c.shift_out.ensures c.unclock.ensures ∙ sym (unclocked_parts x.words x.count _ g.M.Machine.machine c.args.fed)
