use Rattle.std.proofs.Common.{ℕ, refl, ap}
use Rattle.fields.specs.Doubling.{doubled, partial_product, product}
use Rattle.fields.specs.Boxes.{sq}
use Rattle.fields.specs.Mixing.{mixed_bytes, share}
use Rattle.fields.proofs.Entries.{by_test}
use Rattle.fields.proofs.Quick.{sq_quick, sq_is}
use Rattle.fields.proofs.Undone.{sq_permutes}
use Rattle.fields.proofs.boxes.S2WordBox.share.Goals as goal

pub returns : goal.returns
unfolding doubled partial_product product sq_quick mixed_bytes share
returns c =
    let d = doubled 0x69 in
    record {
      value = c.entry.ensures (λ (v : ℕ). share d (sq v)) (by_test (λ (v : ℕ). share d (sq v)) (λ (v : ℕ). share d (sq_quick v)) (λ k h. ap (share d) (sq_is k h)) _ refl refl);
      permutes = sq_permutes;
    }
