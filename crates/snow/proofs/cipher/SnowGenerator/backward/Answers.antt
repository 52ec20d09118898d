use Rattle.std.proofs.Common.{◌∙◌}
use Rattle.snow.specs.States.{state_of}
use Rattle.snow.proofs.CipherParts.{unclocked_unstep}
use Rattle.snow.proofs.cipher.SnowGenerator.backward.Goals as goal

pub returns : goal.returns
returns g c = c.unclock.ensures ∙ unclocked_unstep g.M.Machine.machine (state_of g.M.Machine.words c.args.self.now)
