use Rattle.std.proofs.Common.{◌≡◌, ◌+◌, ◌++◌, length, arith, sym, ap, ◌∙◌, subst}
use Rattle.std.proofs.lemmas.List.{length-append}
use Rattle.session.specs.View.{placed}
use Rattle.session.specs.Calls.{JoinedAll}
use Rattle.session.proofs.Joins.{at_place, joined_behind}
use Rattle.session.proofs.join.join_all.Goals as goal

pub returns : goal.returns
returns g c =
    let m = g.G.Generator.meaning in
    let s = g.G.Generator.state c.args.generator.now in
    let t = g.G.Generator.state c.join_bytes.new.generator in
    let u = g.G.Generator.state c.join_words.new.generator in
    let from = c.args.from in
    let halves = c.split_at_mut-head.ensures in
    let parts = c.split_at_mut-words.ensures in
    let head = c.split_at_mut-head.result.0.now in
    let words = c.split_at_mut-words.result.0.now in
    let tail = c.split_at_mut-words.result.1.now in
    let begun = c.min-begun.ensures in
    let size = length-append words tail in
    let split : head ++ (words ++ tail) ≡ c.args.bytes.now = ap (λ rest. head ++ rest) (sym parts.value) ∙ sym halves.value in
    let behind = joined_behind m t 0 c.join_words.ensures (at_place m u (0 + length words) 0 (λ _. omega arith) c.join_bytes-2.ensures) in
    subst (λ x. JoinedAll m (placed s from) x (c.join_bytes.new.bytes ++ (c.join_words.new.bytes ++ c.join_bytes-2.new.bytes)) (g.G.Generator.state c.join_bytes-2.new.generator)) split (joined_behind m s from c.join_bytes.ensures (at_place m t (from + length head) 0 (λ some. omega arith) behind))
