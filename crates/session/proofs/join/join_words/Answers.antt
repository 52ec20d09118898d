use Rattle.std.proofs.Common.{◌+◌, ◌*◌, refl, ap, ◌∙◌, arith}
use Rattle.session.proofs.Joins.{words_more}
use Rattle.session.proofs.join.join_words.Goals as goal

pub loop-i-preserved : goal.loop-i-preserved
loop-i-preserved g c =
    let m = g.G.Generator.meaning in
    let s = g.G.Generator.state c.args.generator.now in
    let t = g.G.Generator.state c.loop-i.generator in
    let i = c.loop-i.i in
    let inv = c.loop-i.invariant in
    let more = words_more m s 0 refl i c.args.bytes.now c.loop-i.bytes c.join_word.new.bytes t (g.G.Generator.state c.forward.new.self) inv.1 inv.2 (c.join_word.ensures.joined m t (0 + 4 * i) (omega arith) c.word.ensures.value) (c.forward.ensures ∙ ap m.next c.word.ensures.same) in
    (c.join_word.ensures.bytes, more.0, more.1)
