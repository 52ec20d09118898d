use Rattle.std.proofs.Common.{refl}
use Rattle.fields.specs.Doubling.{doubled, partial_product, product}
use Rattle.fields.specs.Boxes.{sq, undone}
use Rattle.fields.proofs.Quick.{sq_quick, sq_is}
use Rattle.fields.proofs.Undone.{sq_permutes, by_undoing}
use Rattle.fields.proofs.WordBoxes.{s2_inverse}
use Rattle.fields.proofs.boxes.S2WordBox.unbox_byte.Goals as goal

pub returns : goal.returns
unfolding doubled partial_product product sq_quick
returns c = record {
  value = c.entry.ensures (undone sq) (by_undoing sq sq_quick sq_is sq_permutes _ refl refl refl);
  undone = s2_inverse;
}
