use Rattle.std.proofs.Common.{◌++◌, sym, ap, ◌∙◌, ap₂}
use Rattle.snow.specs.Register.{at, unshifted}
use Rattle.snow.specs.Cipher.{output, unfeed}
use Rattle.snow.proofs.CipherParts.{unclocked_parts, fed_parts}
use Rattle.snow.proofs.cipher.Snow.unfeed.Goals as goal

pub returns : goal.returns
unfolding unfeed
returns g c =
    let s = c.args.self.now in
    let x = s.register in
    let m = g.M.Machine.words s.machine in
    let machine = g.M.Machine.machine in
    let fed = c.output-fed.ensures ∙ ap (λ m. output m (at x.words 14)) c.unclock.ensures ∙ sym (fed_parts x.words x.count m machine) in
    ap₂ ◌++◌ (c.shift_out.ensures ∙ ap (unshifted x.words) fed) c.unclock.ensures ∙ sym (unclocked_parts x.words x.count m machine _)
