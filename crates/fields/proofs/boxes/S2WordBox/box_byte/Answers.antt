use Rattle.std.proofs.Common.{refl}
use Rattle.fields.specs.Doubling.{doubled, partial_product, product}
use Rattle.fields.specs.Boxes.{sq}
use Rattle.fields.proofs.Entries.{by_test}
use Rattle.fields.proofs.Quick.{sq_quick, sq_is}
use Rattle.fields.proofs.boxes.S2WordBox.box_byte.Goals as goal

pub returns : goal.returns
unfolding doubled partial_product product sq_quick
returns c = c.entry.ensures sq (by_test sq sq_quick sq_is _ refl refl)
