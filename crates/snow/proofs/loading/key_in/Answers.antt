use Rattle.std.proofs.Common.{◌≡◌, ℕ, length, take, map, slice_index, sym, ap, ◌∙◌, arith}
use Rattle.std.proofs.lemmas.List.{length-map, length-take-le, get_or-take, get_or-map}
use Rattle.std.proofs.lemmas.List.FromFn.{fill_by_all}
use Rattle.words.proofs.FromFn.{from_fn_same}
use Rattle.snow.specs.Loading.{inverted}
use Rattle.snow.proofs.loading.key_in.Goals as goal

pub returns : goal.returns
returns g c =
    let n = g.row.N in
    let words = c.args.words.now in
    let f = λ (k : ℕ). inverted (slice_index words k) in
    let front : length (take n words) ≡ n = length-take-le n words (omega (arith, c.requires, c.told-words)) in
    let long = length-map (take n words) inverted ∙ front in
    from_fn_same _ f _ (λ i y q called. grind (arith, called.met)) 0 c.from_fn.result n c.from_fn.ensures.items
    ∙ sym (fill_by_all f (map inverted (take n words)) n 0 long (λ k h. get_or-map inverted (take n words) k 0 0 (omega arith) ∙ ap inverted (get_or-take n words k 0 h)))
