-- Doubling is linear, and products in a byte field are linear on both sides. Assumes nothing.
use Rattle.std.proofs.Common.{◌≡◌, ℕ, zero, suc, ◌+◌, ◌-◌, ◌*◌, ◌/◌, ◌%◌, ◌^◌, ◌<◌, ◌≤◌, Bool, true, false, cond, eqb, ltb, ◌⊎◌, sym, refl, ap, ◌∙◌, ap₂, inl, inr, ⊎_elim, add-zero, add-suc, one-mul, pow-suc, arith, le-ltb, lt-ltb}
use lib.Bits.{bit_xor, xor_block, xor_mod, xor_shr, xor_lt, xor_zero_r, xor_self, xor_shifted}
use Rattle.std.proofs.lemmas.Nat.{pow_below}
use Rattle.std.proofs.lemmas.Bool.{cases_lt}
use Rattle.words.specs.Words.{◌⊕◌}
use Rattle.words.proofs.Xors.{xor_medial}
use Rattle.fields.specs.Doubling.{doubled, doublings, partial_product, product, power}
use Rattle.fields.specs.Theorems.{Linear}
use Rattle.fields.proofs.Entries.{all_below, all_at, agree, agree_at}

-- a bit is 0 or 1
bit : (n : ℕ) → n < 2 → (n ≡ 0) ⊎ (n ≡ 1)
bit zero h = inl refl
bit (suc zero) h = inr refl
bit (suc (suc n)) h = absurd (omega arith)

-- the tap byte, where the bit that is shifted out is 1
tapped : ℕ → ℕ → ℕ
tapped c v = cond (ltb v 128) 0 c

tapped_low : (c v : ℕ) → v / 128 ≡ 0 → tapped c v ≡ 0
unfolding tapped
tapped_low c v h = rw (lt-ltb v 128 (omega arith))

tapped_high : (c v : ℕ) → v / 128 ≡ 1 → tapped c v ≡ c
unfolding tapped
tapped_high c v h = rw (le-ltb v 128 (omega arith))

tapped_joins : (c a b : ℕ) → a < 256 → b < 256 → tapped c (a ⊕ b) ≡ tapped c a ⊕ tapped c b
tapped_joins c a b ha hb = go (bit (a / 128) (omega arith)) (bit (b / 128) (omega arith))
  where
    top : (x y : ℕ) → a / 128 ≡ x → b / 128 ≡ y → (a ⊕ b) / 128 ≡ x ⊕ y
    top x y p q = xor_shr a b 7 ∙ ap₂ bit_xor p q

    go : (a / 128 ≡ 0) ⊎ (a / 128 ≡ 1) → (b / 128 ≡ 0) ⊎ (b / 128 ≡ 1) → tapped c (a ⊕ b) ≡ tapped c a ⊕ tapped c b
    go (inl p) (inl q) = rw (tapped_low c (a ⊕ b) (top 0 0 p q), tapped_low c a p, tapped_low c b q)
    go (inl p) (inr q) = rw (tapped_high c (a ⊕ b) (top 0 1 p q), tapped_low c a p, tapped_high c b q)
    go (inr p) (inl q) = rw (tapped_high c (a ⊕ b) (top 1 0 p q), tapped_high c a p, tapped_low c b q, xor_zero_r c)
    go (inr p) (inr q) = rw (tapped_low c (a ⊕ b) (top 1 1 p q), tapped_high c a p, tapped_high c b q, xor_self c)

shift_joins : (a b : ℕ) → (a ⊕ b) * 2 % 256 ≡ (a * 2 % 256) ⊕ (b * 2 % 256)
shift_joins a b =
    let e : a * 2 ≡ a * 2 + 0 = omega arith in
    let f : b * 2 ≡ b * 2 + 0 = omega arith in
    let g : (a ⊕ b) * 2 + 0 ≡ (a ⊕ b) * 2 = omega arith in
    let both : (a * 2) ⊕ (b * 2) ≡ (a ⊕ b) * 2 = ap₂ bit_xor e f ∙ xor_block 1 a b 0 0 (omega arith) (omega arith) ∙ g in
    ap (λ x. x % 256) (sym both) ∙ xor_mod (a * 2) (b * 2) 8

pub doubled_linear : (c : ℕ) → c < 256 → Linear (doubled c)
unfolding doubled tapped
doubled_linear c hc = record {
  stays = λ a ha. xor_lt 8 (a * 2 % 256) (tapped c a) (omega arith) (below a);
  joins = λ a b ha hb. ap₂ bit_xor (shift_joins a b) (tapped_joins c a b ha hb) ∙ xor_medial (a * 2 % 256) (b * 2 % 256) (tapped c a) (tapped c b);
}
  where
    below : (a : ℕ) → tapped c a < 256
    below a = elim (ltb a 128) as (λ t. cond t 0 c < 256) [ true ↦ omega arith | false ↦ hc ]

-- what holds of the products in a field with a tap byte c
module _ (c : ℕ) (hc : c < 256) where
  part_below : (n a b : ℕ) → a < 256 → partial_product c n a b < 256
  unfolding partial_product
  part_below zero a b ha = omega arith
  part_below (suc n) a b ha = xor_lt 8 (cond (eqb (b % 2) 1) a 0) (partial_product c n (doubled c a) (b / 2)) (one (eqb (b % 2) 1)) (part_below n (doubled c a) (b / 2) ((doubled_linear c hc).stays a ha))
    where
      one : (t : Bool) → cond t a 0 < 256
      one true = ha
      one false = omega arith

  part_left : (n a a' b : ℕ) → a < 256 → a' < 256 → partial_product c n (a ⊕ a') b ≡ partial_product c n a b ⊕ partial_product c n a' b
  unfolding partial_product
  part_left zero a a' b ha ha' = refl
  part_left (suc n) a a' b ha ha' =
      ap₂ bit_xor (one (eqb (b % 2) 1))
      (ap (λ x. partial_product c n x (b / 2)) ((doubled_linear c hc).joins a a' ha ha') ∙ part_left n (doubled c a) (doubled c a') (b / 2) ((doubled_linear c hc).stays a ha) ((doubled_linear c hc).stays a' ha'))
      ∙ xor_medial (cond (eqb (b % 2) 1) a 0) (cond (eqb (b % 2) 1) a' 0) (partial_product c n (doubled c a) (b / 2)) (partial_product c n (doubled c a') (b / 2))
    where
      one : (t : Bool) → cond t (a ⊕ a') 0 ≡ cond t a 0 ⊕ cond t a' 0
      one true = refl
      one false = refl

  part_right : (n a b b' : ℕ) → partial_product c n a (b ⊕ b') ≡ partial_product c n a b ⊕ partial_product c n a b'
  unfolding partial_product
  part_right zero a b b' = refl
  part_right (suc n) a b b' =
      ap₂ bit_xor (one (bit (b % 2) (omega arith)) (bit (b' % 2) (omega arith)))
      (ap (partial_product c n (doubled c a)) (xor_shr b b' 1) ∙ part_right n (doubled c a) (b / 2) (b' / 2))
      ∙ xor_medial (cond (eqb (b % 2) 1) a 0) (cond (eqb (b' % 2) 1) a 0) (partial_product c n (doubled c a) (b / 2)) (partial_product c n (doubled c a) (b' / 2))
    where
      low : (x y : ℕ) → b % 2 ≡ x → b' % 2 ≡ y → (b ⊕ b') % 2 ≡ x ⊕ y
      low x y p q = xor_mod b b' 1 ∙ ap₂ bit_xor p q

      one : (b % 2 ≡ 0) ⊎ (b % 2 ≡ 1) → (b' % 2 ≡ 0) ⊎ (b' % 2 ≡ 1) → cond (eqb ((b ⊕ b') % 2) 1) a 0 ≡ cond (eqb (b % 2) 1) a 0 ⊕ cond (eqb (b' % 2) 1) a 0
      one (inl p) (inl q) = rw (low 0 0 p q, p, q)
      one (inl p) (inr q) = rw (low 0 1 p q, p, q)
      one (inr p) (inl q) = rw (low 1 0 p q, p, q, xor_zero_r a)
      one (inr p) (inr q) = rw (low 1 1 p q, p, q, xor_self a)

-- two linear functions that agree on the eight bytes of one bit agree on every byte
pub same_by_bits : (f g : ℕ → ℕ) → Linear f → Linear g → ((k : ℕ) → k < 8 → f (2 ^ k) ≡ g (2 ^ k)) → (a : ℕ) → a < 256 → f a ≡ g a
same_by_bits f g lf lg agree a ha = below 8 (omega arith) a ha
  where
    none : (f : ℕ → ℕ) → Linear f → f 0 ≡ 0
    none f l = l.joins 0 0 (omega arith) (omega arith) ∙ xor_self (f 0)

    step : (k : ℕ) → suc k ≤ 8 → ((a : ℕ) → a < 2 ^ k → f a ≡ g a) → (a : ℕ) → a < 2 ^ suc k → f a ≡ g a
    step k h low a ha = ⊎_elim (low a) high (cases_lt a (2 ^ k))
      where
        high : 2 ^ k ≤ a → f a ≡ g a
        high h' =
            let rest = a - 2 ^ k in
            let fits : rest < 2 ^ k = omega (arith, pow-suc 2 k) in
            let small : 2 ^ k < 256 = pow_below k 8 (omega arith) in
            let joined : (2 ^ k) ⊕ rest ≡ a = ap (λ x. x ⊕ rest) (sym (one-mul (2 ^ k))) ∙ xor_shifted 1 k rest fits ∙ omega arith in
            ap f (sym joined) ∙ lf.joins (2 ^ k) rest small (omega arith) ∙ ap₂ bit_xor (agree k (omega arith)) (low rest fits)
            ∙ sym (lg.joins (2 ^ k) rest small (omega arith)) ∙ ap g joined

    below : (k : ℕ) → k ≤ 8 → (a : ℕ) → a < 2 ^ k → f a ≡ g a
    below zero h a ha = let zero_is : a ≡ 0 = omega arith in ap f zero_is ∙ none f lf ∙ sym (none g lg) ∙ ap g (sym zero_is)
    below (suc k) h a ha = step k h (below k (omega arith)) a ha

module _ (c : ℕ) (hc : c < 256) where
  pub product_below : (a b : ℕ) → a < 256 → product c a b < 256
  unfolding product
  product_below a b ha = part_below c hc 8 a b ha

  -- as a function of its left factor, and of its right one, a product is linear
  pub product_left : (b : ℕ) → Linear (λ a. product c a b)
  unfolding product
  product_left b = record { stays = λ a ha. part_below c hc 8 a b ha; joins = λ a a' ha ha'. part_left c hc 8 a a' b ha ha' }

  pub product_right : (a : ℕ) → a < 256 → Linear (product c a)
  unfolding product
  product_right a ha = record { stays = λ b hb. part_below c hc 8 a b ha; joins = λ b b' hb hb'. part_right c hc 8 a b b' }

pub composed : (f g : ℕ → ℕ) → Linear f → Linear g → Linear (λ a. f (g a))
composed f g lf lg = record {
  stays = λ a ha. lf.stays (g a) (lg.stays a ha);
  joins = λ a b ha hb. ap f (lg.joins a b ha hb) ∙ lf.joins (g a) (g b) (lg.stays a ha) (lg.stays b hb);
}

-- the test that doubling the right factor doubles the product, over the bytes of one bit
abbrev pub bits_double : ℕ → Bool
bits_double c = all_below 8 (λ i. agree 8 (λ j. product c (2 ^ j) (doubled c (2 ^ i))) (λ j. doubled c (product c (2 ^ j) (2 ^ i))))

module _ (c : ℕ) (hc : c < 256) (test : bits_double c ≡ true) where
  product_doubled : (a b : ℕ) → a < 256 → b < 256 → product c a (doubled c b) ≡ doubled c (product c a b)
  product_doubled a b ha hb =
      same_by_bits (λ b. product c a (doubled c b)) (λ b. doubled c (product c a b))
      (composed (product c a) (doubled c) (product_right c hc a ha) (doubled_linear c hc))
      (composed (doubled c) (product c a) (doubled_linear c hc) (product_right c hc a ha)) at_bit b hb
    where
      at_bits : (i : ℕ) → i < 8 → agree 8 (λ j. product c (2 ^ j) (doubled c (2 ^ i))) (λ j. doubled c (product c (2 ^ j) (2 ^ i))) ≡ true
      at_bits = all_at 8 (λ i. agree 8 (λ j. product c (2 ^ j) (doubled c (2 ^ i))) (λ j. doubled c (product c (2 ^ j) (2 ^ i)))) test

      at_bit : (i : ℕ) → i < 8 → product c a (doubled c (2 ^ i)) ≡ doubled c (product c a (2 ^ i))
      at_bit i hi =
          same_by_bits (λ a. product c a (doubled c (2 ^ i))) (λ a. doubled c (product c a (2 ^ i)))
          (product_left c hc (doubled c (2 ^ i))) (composed (doubled c) (λ a. product c a (2 ^ i)) (doubled_linear c hc) (product_left c hc (2 ^ i)))
          (agree_at 8 (λ j. product c (2 ^ j) (doubled c (2 ^ i))) (λ j. doubled c (product c (2 ^ j) (2 ^ i))) (at_bits i hi)) a ha

  doublings_below : (n a : ℕ) → a < 256 → doublings c n a < 256
  unfolding doublings
  doublings_below zero a ha = ha
  doublings_below (suc n) a ha = (doubled_linear c hc).stays (doublings c n a) (doublings_below n a ha)

  product_doublings : (n a b : ℕ) → a < 256 → b < 256 → product c a (doublings c n b) ≡ doublings c n (product c a b)
  unfolding doublings
  product_doublings zero a b ha hb = refl
  product_doublings (suc n) a b ha hb = product_doubled a (doublings c n b) ha (doublings_below n b hb) ∙ ap (doubled c) (product_doublings n a b ha hb)

  -- a product with a byte of one bit
  product_bit : (k : ℕ) → k < 8 → (a : ℕ) → product c a (2 ^ k) ≡ doublings c k a
  unfolding product partial_product doublings
  product_bit zero h a = xor_zero_r _
  product_bit (suc zero) h a = xor_zero_r _
  product_bit (suc (suc zero)) h a = xor_zero_r _
  product_bit (suc (suc (suc zero))) h a = xor_zero_r _
  product_bit (suc (suc (suc (suc zero)))) h a = xor_zero_r _
  product_bit (suc (suc (suc (suc (suc zero))))) h a = xor_zero_r _
  product_bit (suc (suc (suc (suc (suc (suc zero)))))) h a = xor_zero_r _
  product_bit (suc (suc (suc (suc (suc (suc (suc zero))))))) h a = xor_zero_r _
  product_bit (suc (suc (suc (suc (suc (suc (suc (suc k)))))))) h a = absurd (omega arith)

  pub product_assoc : (a b d : ℕ) → a < 256 → b < 256 → d < 256 → product c a (product c b d) ≡ product c (product c a b) d
  product_assoc a b d ha hb hd =
      same_by_bits (λ d. product c a (product c b d)) (product c (product c a b))
      (composed (product c a) (product c b) (product_right c hc a ha) (product_right c hc b hb)) (product_right c hc (product c a b) (product_below c hc a b ha))
      (λ k hk. ap (product c a) (product_bit k hk b) ∙ product_doublings k a b ha hb ∙ sym (product_bit k hk (product c a b))) d hd

  one_product : (a : ℕ) → a < 256 → product c 1 a ≡ a
  unfolding doublings doubled
  one_product a ha = same_by_bits (product c 1) (λ a. a) (product_right c hc 1 (omega arith)) (record { stays = λ a h. h; joins = λ a b h h'. refl }) at_bit a ha
    where
      at_bit : (k : ℕ) → k < 8 → product c 1 (2 ^ k) ≡ 2 ^ k
      at_bit k hk = product_bit k hk 1 ∙ agree_at 8 (λ k. doublings c k 1) (λ k. 2 ^ k) refl k hk

  pub power_below : (v n : ℕ) → power c v n < 256
  unfolding power
  power_below v zero = omega arith
  power_below v (suc n) = product_below c hc (power c v n) v (power_below v n)

  pub power_one : (v : ℕ) → v < 256 → power c v 1 ≡ v
  unfolding power
  power_one v hv = one_product v hv

  -- a power of a sum is the product of both powers
  pub power_add : (v : ℕ) → v < 256 → (m n : ℕ) {x y : ℕ} → power c v m ≡ x → power c v n ≡ y → power c v (m + n) ≡ product c x y
  unfolding power doublings
  power_add v hv m n p q = sums n ∙ ap₂ (product c) p q
    where
      sums : (n : ℕ) → power c v (m + n) ≡ product c (power c v m) (power c v n)
      sums zero = ap (power c v) (add-zero m) ∙ sym (product_bit 0 (omega arith) (power c v m))
      sums (suc n) =
          ap (power c v) (add-suc m n) ∙ ap (λ x. product c x v) (sums n) ∙ sym (product_assoc (power c v m) (power c v n) v (power_below v m) (power_below v n) hv)
