use Rattle.std.proofs.Common.{◌++◌, sym, ◌∙◌, ap₂}
use Rattle.snow.proofs.CipherParts.{clocked_parts}
use Rattle.snow.proofs.cipher.Snow.clock.Goals as goal

pub returns : goal.returns
returns g c =
    let x = c.args.self.now.register in
    ap₂ ◌++◌ c.shift_in.ensures c.clock.ensures ∙ sym (clocked_parts x.words x.count _ g.M.Machine.machine c.args.new)
