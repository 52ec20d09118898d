use Rattle.std.proofs.Common.{ℕ, refl, ap}
use Rattle.fields.specs.Doubling.{doubled, partial_product, product}
use Rattle.fields.specs.Boxes.{rotated, affine, sr}
use Rattle.fields.specs.Mixing.{mixed_bytes, share}
use Rattle.fields.proofs.Entries.{by_test}
use Rattle.fields.proofs.Quick.{sr_quick, sr_is}
use Rattle.fields.proofs.Undone.{sr_permutes}
use Rattle.fields.proofs.boxes.S1WordBox.share.Goals as goal

pub returns : goal.returns
unfolding doubled partial_product product rotated affine sr_quick mixed_bytes share
returns c =
    let d = doubled 0x1B in
    record {
      value = c.entry.ensures (λ (v : ℕ). share d (sr v)) (by_test (λ (v : ℕ). share d (sr v)) (λ (v : ℕ). share d (sr_quick v)) (λ k h. ap (share d) (sr_is k h)) _ refl refl);
      permutes = sr_permutes;
    }
