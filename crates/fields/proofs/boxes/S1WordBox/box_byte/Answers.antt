use Rattle.std.proofs.Common.{refl}
use Rattle.fields.specs.Doubling.{doubled, partial_product, product}
use Rattle.fields.specs.Boxes.{rotated, affine, sr}
use Rattle.fields.proofs.Entries.{by_test}
use Rattle.fields.proofs.Quick.{sr_quick, sr_is}
use Rattle.fields.proofs.boxes.S1WordBox.box_byte.Goals as goal

pub returns : goal.returns
unfolding doubled partial_product product rotated affine sr_quick
returns c = c.entry.ensures sr (by_test sr sr_quick sr_is _ refl refl)
