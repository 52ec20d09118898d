use Rattle.std.proofs.Common.{rules}
use Rattle.fields.specs.Boxes.{undone}
use Rattle.fields.specs.Mixing.{boxed, unmixed, word_box_undone}
use Rattle.fields.proofs.Mapped.{mapped_bytes}
use Rattle.fields.proofs.word_box.WordBox.undo.Goals as goal

pub returns : goal.returns
unfolding boxed unmixed word_box_undone
returns g c =
    let (b0, b1, b2, b3) =
    mapped_bytes _ (undone g.Self.WordBox.byte_box) _ _ _ (λ x y q called. (search rules, search rules)) c.mix-boxed.result c.to_be_bytes.ensures c.map.ensures.items in
    cc
