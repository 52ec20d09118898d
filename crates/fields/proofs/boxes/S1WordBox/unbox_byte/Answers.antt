use Rattle.std.proofs.Common.{refl}
use Rattle.fields.specs.Doubling.{doubled, partial_product, product}
use Rattle.fields.specs.Boxes.{rotated, affine, sr, undone}
use Rattle.fields.proofs.Quick.{sr_quick, sr_is}
use Rattle.fields.proofs.Undone.{sr_permutes, by_undoing}
use Rattle.fields.proofs.WordBoxes.{s1_inverse}
use Rattle.fields.proofs.boxes.S1WordBox.unbox_byte.Goals as goal

pub returns : goal.returns
unfolding doubled partial_product product rotated affine sr_quick
returns c = record {
  value = c.entry.ensures (undone sr) (by_undoing sr sr_quick sr_is sr_permutes _ refl refl refl);
  undone = s1_inverse;
}
