-- The worked examples, computed. Assumes nothing.
use Rattle.std.proofs.Common.{◌≡◌, [], ◌∷◌, ◌++◌, replicate, refl, ap, arith}
use Rattle.words.specs.Words.{word}
use Rattle.fields.specs.Doubling.{doubled, doublings, partial_product, product, power}
use Rattle.fields.specs.Boxes.{rotated, affine, sr, sq, undone}
use Rattle.fields.specs.Mixing.{mixed_bytes, mixed, boxed, unmixed, word_box, word_box_undone, s1_undone}
use Rattle.fields.specs.Alpha.{times_beta, mul_alpha, div_alpha, times_alpha, over_alpha}
use Rattle.fields.proofs.Undone.{sr_permutes, undone_is}
use Rattle.snow.specs.Cipher.{step, unstep}
use Rattle.snow.specs.Specimens.{Specimens}

undone_0 : undone sr 0 ≡ 0x52
unfolding doubled partial_product product power rotated affine sr
undone_0 = undone_is sr sr_permutes 0 0x52 (omega arith) refl

back_0 : s1_undone 0 ≡ 0x52525252
unfolding doubled mixed_bytes mixed boxed unmixed word_box_undone
back_0 = ap (λ b. word b b b b) undone_0

pub specimens : Specimens
unfolding doubled doublings partial_product product power rotated affine sr sq mixed_bytes mixed boxed word_box times_beta mul_alpha div_alpha times_alpha over_alpha step unstep
specimens = record {
  doubled_69 = refl;
  doubled_96 = refl;
  sr_00 = refl;
  sr_52 = refl;
  sq_00 = refl;
  sq_01 = refl;
  sq_02 = refl;
  s1_0 = refl;
  s2_0 = refl;
  mul_alpha_01 = refl;
  div_alpha_01 = refl;
  alpha_01000000 = refl;
  snow2_next = refl;
  snow2_back = ap (λ b. replicate 16 0 ++ b ∷ 0 ∷ []) back_0;
  snow3g_next = refl;
  register_load = refl;
  register_words = refl;
}
