-- α and its inverse undo each other, since β to the power 255 is 1. Assumes nothing.
use Rattle.std.proofs.Common.{◌≡◌, ℕ, zero, suc, ◌+◌, ◌*◌, ◌/◌, ◌%◌, ◌^◌, ◌<◌, sym, refl, ap, ◌∙◌, subst, suc-add, zero-add, arith}
use lib.Bits.{xor_lt}
use Rattle.words.specs.Words.{◌⊕◌, word, byte_of}
use Rattle.words.proofs.Xors.{joined_off}
use Rattle.words.proofs.Words.{byte_0, byte_3, byte_below, word_bytes, word_below, words_same, xor_words}
use Rattle.fields.specs.Doubling.{doubled, doublings}
use Rattle.fields.specs.Alpha.{times_beta, mul_alpha, div_alpha, times_alpha, over_alpha}
use Rattle.fields.specs.Theorems.{Linear, Inverse}
use Rattle.fields.proofs.Entries.{agree_at}
use Rattle.fields.proofs.Fields.{doubled_linear, composed, same_by_bits}

beta_linear : (n : ℕ) → Linear (times_beta n)
unfolding times_beta doublings
beta_linear zero = record { stays = λ a h. h; joins = λ a b h h'. refl }
beta_linear (suc n) = composed (doubled 0xA9) (times_beta n) (doubled_linear 0xA9 (omega arith)) (beta_linear n)

beta_below : (n c : ℕ) → c < 256 → times_beta n c < 256
beta_below n c h = (beta_linear n).stays c h

beta_add : (m n c : ℕ) → times_beta m (times_beta n c) ≡ times_beta (m + n) c
unfolding times_beta doublings
beta_add zero n c = ap (λ k. doublings 0xA9 k c) (sym (zero-add n))
beta_add (suc m) n c = ap (doubled 0xA9) (beta_add m n c) ∙ ap (λ k. doublings 0xA9 k c) (sym (suc-add m n))

-- β to the power 255 is 1: the test over the bytes of one bit
beta_255 : (c : ℕ) → c < 256 → times_beta 255 c ≡ c
unfolding times_beta doublings doubled
beta_255 c h =
    same_by_bits (times_beta 255) (λ a. a) (beta_linear 255) (beta_linear 0)
    (agree_at 8 (λ k. times_beta 255 (2 ^ k)) (λ k. 2 ^ k) refl) c h

-- m powers of β after n are r of them, where m + n is r + 255
beta_turn : (m n r c : ℕ) → c < 256 → m + n ≡ r + 255 → times_beta m (times_beta n c) ≡ times_beta r c
beta_turn m n r c h e = beta_add m n c ∙ ap (λ k. times_beta k c) e ∙ sym (beta_add r 255 c) ∙ ap (times_beta r) (beta_255 c h)

times_word : (a b c e : ℕ) → a < 256 → b < 256 → c < 256 → e < 256
    → times_alpha (word a b c e) ≡ word (b ⊕ times_beta 23 a) (c ⊕ times_beta 245 a) (e ⊕ times_beta 48 a) (times_beta 239 a)
unfolding times_alpha mul_alpha
times_word a b c e ha hb hc he =
    let shifted : word a b c e * 256 % 4294967296 ≡ word b c e 0 = omega arith in
    let none : 0 < 256 = omega arith in
    simp (shifted, byte_0, xor_words, beta_below)

over_word : (a b c e : ℕ) → a < 256 → b < 256 → c < 256 → e < 256
    → over_alpha (word a b c e) ≡ word (times_beta 16 e) (a ⊕ times_beta 39 e) (b ⊕ times_beta 6 e) (c ⊕ times_beta 64 e)
unfolding over_alpha div_alpha
over_word a b c e ha hb hc he =
    let shifted : word a b c e / 256 ≡ word 0 a b c = omega arith in
    simp (shifted, byte_3, xor_words, beta_below)

-- joined twice with one byte
again : (x m n : ℕ) → n ≡ m → (x ⊕ m) ⊕ n ≡ x
again x m n e = ap (λ y. (x ⊕ m) ⊕ y) e ∙ joined_off x m

join_beta : (n x a : ℕ) → x < 256 → a < 256 → x ⊕ times_beta n a < 256
join_beta n x a hx ha = xor_lt 8 x (times_beta n a) hx (beta_below n a ha)

over_times : (a b c e : ℕ) → a < 256 → b < 256 → c < 256 → e < 256 → over_alpha (times_alpha (word a b c e)) ≡ word a b c e
over_times a b c e ha hb hc he =
    simp (times_word, over_word, join_beta, beta_below)
    (words_same (beta_turn 16 239 0 a ha refl ∙ none a) (again b (times_beta 23 a) (times_beta 39 (times_beta 239 a)) (beta_turn 39 239 23 a ha refl))
    (again c (times_beta 245 a) (times_beta 6 (times_beta 239 a)) (beta_add 6 239 a)) (again e (times_beta 48 a) (times_beta 64 (times_beta 239 a)) (beta_turn 64 239 48 a ha refl)))
  where
    none : (a : ℕ) → times_beta 0 a ≡ a
    none a = unfold times_beta doublings in refl

times_over : (a b c e : ℕ) → a < 256 → b < 256 → c < 256 → e < 256 → times_alpha (over_alpha (word a b c e)) ≡ word a b c e
times_over a b c e ha hb hc he =
    simp (over_word, times_word, join_beta, beta_below)
    (words_same (again a (times_beta 39 e) (times_beta 23 (times_beta 16 e)) (beta_add 23 16 e)) (again b (times_beta 6 e) (times_beta 245 (times_beta 16 e)) (beta_turn 245 16 6 e he refl))
    (again c (times_beta 64 e) (times_beta 48 (times_beta 16 e)) (beta_add 48 16 e)) (beta_add 239 16 e ∙ beta_255 e he))

-- what holds of every word of four bytes holds of every word
by_bytes : (P : ℕ → Type 0) → ((a b c e : ℕ) → a < 256 → b < 256 → c < 256 → e < 256 → P (word a b c e)) → (w : ℕ) → w < 2 ^ 32 → P w
by_bytes P all w below =
    subst P (word_bytes w below) (all (byte_of w 0) (byte_of w 1) (byte_of w 2) (byte_of w 3) (byte_below w 0) (byte_below w 1) (byte_below w 2) (byte_below w 3))

pub alpha_inverse : Inverse times_alpha over_alpha
alpha_inverse = record {
  f_word = by_bytes (λ w. times_alpha w < 2 ^ 32) (λ a b c e ha hb hc he. simp times_word (search (word_below, join_beta, beta_below)));
  g_word = by_bytes (λ w. over_alpha w < 2 ^ 32) (λ a b c e ha hb hc he. simp over_word (search (word_below, join_beta, beta_below)));
  g_f = by_bytes (λ w. over_alpha (times_alpha w) ≡ w) over_times;
  f_g = by_bytes (λ w. times_alpha (over_alpha w) ≡ w) times_over;
}
