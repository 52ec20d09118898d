use Rattle.std.proofs.Common.{◌∙◌, arith}
use Rattle.words.proofs.FromFn.{from_fn_same}
use Rattle.snow.specs.Loading.{expanded_word}
use Rattle.snow.specs.LoadLaws.{expanded_by_words}
use Rattle.snow.proofs.loading.expand.Goals as goal

pub returns : goal.returns
returns g c =
    from_fn_same _ (expanded_word g.row.N c.args.key.now) _ (λ i y q called. grind (arith, called.met)) 0 c.from_fn.result 16 c.from_fn.ensures.items
    ∙ expanded_by_words g.row.N c.args.key.now c.requires c.told-key
