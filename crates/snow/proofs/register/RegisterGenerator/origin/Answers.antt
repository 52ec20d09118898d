use Rattle.std.proofs.Common.{◌*◌, ◌^◌, ◌++◌, length, drop, refl, ap, ◌∙◌, arith}
use Rattle.words.specs.Words.{words_bytes}
use Rattle.words.proofs.Words.{below_everywhere, all_from_each}
use Rattle.snow.specs.RegisterLaws.{register_named}
use Rattle.snow.proofs.register.RegisterGenerator.origin.Goals as goal

pub returns : goal.returns
returns c =
    let x = c.args.self.now in
    let key = c.args.key.now in
    record {
      named = register_named x.words key c.args.iv.now c.put_words.new.buffer
          (record { count = x.count; fits = all_from_each (2 ^ 32) x.words (below_everywhere (2 ^ 32) 16 x.words (omega arith) x.count x.fits) })
          (omega arith) (omega arith)
          (c.put_words.ensures ∙ ap (λ ws. words_bytes ws ++ drop (4 * length ws) key) c.reverse.ensures.after);
      same = refl;
    }
