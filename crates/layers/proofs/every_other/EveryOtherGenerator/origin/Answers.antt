use Rattle.layers.specs.EveryOtherLaws.{every_other_named}
use Rattle.layers.proofs.every_other.EveryOtherGenerator.origin.Goals as goal

pub returns : goal.returns
returns g c =
    record {
      named =
          every_other_named g.G.Generator.meaning (g.G.Generator.state c.args.self.now.generator) c.args.key.now c.args.iv.now c.origin.result c.origin.new.key c.origin.new.iv
          c.origin.ensures.named;
      same = c.origin.ensures.same;
    }
