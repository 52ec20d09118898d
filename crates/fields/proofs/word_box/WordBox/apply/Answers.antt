use Rattle.std.proofs.Common.{ℕ, get_or, sym, ap, ◌∙◌}
use Rattle.words.specs.Words.{byte_of}
use Rattle.words.proofs.Words.{byte_below, byte_low}
use Rattle.fields.specs.Doubling.{doubled}
use Rattle.fields.specs.Mixing.{share, word_box}
use Rattle.fields.proofs.Fields.{doubled_linear}
use Rattle.fields.proofs.WordBoxes.{mixed_boxed, word_box_inverse}
use Rattle.fields.proofs.word_box.WordBox.apply.Goals as goal

pub returns : goal.returns
unfolding word_box
returns g c =
    let w = c.args.word in
    let box = g.Self.WordBox.byte_box in
    let d = doubled g.Self.WordBox.TAP in
    let tap = g.met.Self.WordBox.tap_is_byte in
    let bytes = c.to_be_bytes.ensures in
    let permutes = c.share.ensures.permutes in
    let stays = λ (i : ℕ). permutes.stays (byte_of w i) (byte_below w i) in
    record {
      value = c.join_shares.ensures d (box (byte_of w 0)) (box (byte_of w 1)) (box (byte_of w 2)) (box (byte_of w 3)) (doubled_linear g.Self.WordBox.TAP tap) (stays 0) (stays 1) (stays 2) (stays 3)
          (c.share.ensures.value ∙ ap (λ bs. share d (box (get_or bs 0 0))) bytes)
          (c.share-2.ensures.value ∙ ap (λ bs. share d (box (get_or bs 1 0))) bytes)
          (c.share-3.ensures.value ∙ ap (λ bs. share d (box (get_or bs 2 0))) bytes)
          (c.share-4.ensures.value ∙ ap (λ bs. share d (box (get_or bs 3 0))) bytes ∙ ap (λ b. share d (box b)) (byte_low w))
          ∙ sym (mixed_boxed box d permutes.stays w);
      undone = word_box_inverse g.Self.WordBox.TAP box tap permutes;
    }
