-- Keys and IVs in the register, and how they are read off again. Assumes nothing.
use Rattle.std.specs.Prelude.{◌≡◌, ℕ, zero, suc, ◌^◌, ◌<◌, ◌≤◌, ◌⊎◌, List, [], ◌∷◌, map, length, take, ◌≢◌, slice_set, refl}
use Rattle.std.proofs.Common.{sym, ap, ap₂, subst, ◌∙◌, ⊎_elim, eq-eqb, ne_eqb, arith}
use Rattle.std.specs.Int.Bits.{xor_self}
use Rattle.std.specs.List.{range_with_len}
use Rattle.std.proofs.lemmas.Nat.{xor_lt}
use Rattle.std.proofs.lemmas.List.{length-map, length-take-le}
use Rattle.words.specs.Words.{◌⊕◌, AllBelow, Words}
use Rattle.words.proofs.Xors.{xors, xor_twice, joined_off}
use Rattle.words.proofs.Words.{fits_append, fits_take, at_below}
use Rattle.words.proofs.Spelled.{spell, by_words}
use Rattle.generator.specs.Meaning.{State}
use Rattle.snow.specs.Register.{at}
use Rattle.snow.specs.Loading.{inverted, expanded_128, expanded_256, expanded, expanded_word, with_iv}
use Rattle.snow.specs.Origins.{key_in, iv_in, iv_beside, Holds}

inverted_twice : (w : ℕ) → inverted (inverted w) ≡ w
inverted_twice w = joined_off w 0xFFFFFFFF

-- a word is never its inverse
inverted_other : (w : ℕ) → w ≢ inverted w
inverted_other w e = let z : ◌≡◌ {A = ℕ} 0 0xFFFFFFFF = sym (xor_self w) ∙ ap (λ x. w ⊕ x) e ∙ xor_twice w 0xFFFFFFFF in omega arith

joined_back : (k v : ℕ) → (k ⊕ v) ⊕ k ≡ v
joined_back k v = simp xors

inverted_below : (w : ℕ) → w < 2 ^ 32 → inverted w < 2 ^ 32
inverted_below w h = xor_lt 32 w 0xFFFFFFFF h (omega arith)

pub inverted_fit : (ws : List ℕ) → Words ws → Words (map inverted ws)
inverted_fit [] fits = tt
inverted_fit (w ∷ ws) fits = (inverted_below w fits.0, inverted_fit ws fits.1)

pub expanded_short : (k : List ℕ) → length k ≡ 4 → expanded k ≡ expanded_128 k
unfolding expanded
expanded_short k len = rw (eq-eqb (length k) 4 len) refl

pub expanded_long : (k : List ℕ) → length k ≡ 8 → expanded k ≡ expanded_256 k
unfolding expanded
expanded_long k len = rw (ne_eqb (length k) 4 (λ e. omega arith)) refl

-- a property of a key of four words and of one of eight
by_length : (n : ℕ) (P : ℕ → List ℕ → List ℕ → Type 0) (k : List ℕ) → (n ≡ 4) ⊎ (n ≡ 8) → length k ≡ n
    → (length k ≡ 4 → P 4 k (expanded_128 k)) → (length k ≡ 8 → P 8 k (expanded_256 k)) → P n k (expanded k)
by_length n P k sizes len short long =
    ⊎_elim (λ e. subst (λ n. P n k (expanded k)) (sym e) (subst (P 4 k) (sym (expanded_short k (len ∙ e))) (short (len ∙ e))))
    (λ e. subst (λ n. P n k (expanded k)) (sym e) (subst (P 8 k) (sym (expanded_long k (len ∙ e))) (long (len ∙ e)))) sizes

pub length_expanded : (n : ℕ) (k : List ℕ) → (n ≡ 4) ⊎ (n ≡ 8) → length k ≡ n → length (expanded k) ≡ 16
length_expanded n k sizes len =
    by_length n (λ n k e. length e ≡ 16) k sizes len
    (λ len. by_words 4 (λ k. length (expanded_128 k) ≡ 16) k len refl)
    (λ len. by_words 8 (λ k. length (expanded_256 k) ≡ 16) k len refl)

pub expanded_state : (n : ℕ) (k : List ℕ) → (n ≡ 4) ⊎ (n ≡ 8) → State n k → State 16 (expanded k)
expanded_state n k sizes st =
    let inv = inverted_fit k st.fits in
    record {
      count = length_expanded n k sizes st.count;
      fits = by_length n (λ n k e. Words e) k sizes st.count
          (λ len. fits_append (2 ^ 32) (map inverted k) _ inv (fits_append (2 ^ 32) k _ st.fits (fits_append (2 ^ 32) (map inverted k) k inv st.fits)))
          (λ len. fits_append (2 ^ 32) (map inverted k) k inv st.fits);
    }

-- the key and the IV that are read off are those that were put in
pub key_back : (n : ℕ) (k v : List ℕ) → (n ≡ 4) ⊎ (n ≡ 8) → length k ≡ n → key_in n (with_iv (expanded k) v) ≡ k
key_back n k v sizes len =
    by_length n (λ n k e. key_in n (with_iv e v) ≡ k) k sizes len
    (λ len. by_words 4 (λ k. key_in 4 (with_iv (expanded_128 k) v) ≡ k) k len
    (let e0 = inverted_twice (at k 0) in
    let e1 = inverted_twice (at k 1) in
    let e2 = inverted_twice (at k 2) in
    let e3 = inverted_twice (at k 3) in
    cc))
    (λ len. by_words 8 (λ k. key_in 8 (with_iv (expanded_256 k) v) ≡ k) k len
    (let e0 = inverted_twice (at k 0) in
    let e1 = inverted_twice (at k 1) in
    let e2 = inverted_twice (at k 2) in
    let e3 = inverted_twice (at k 3) in
    let e4 = inverted_twice (at k 4) in
    let e5 = inverted_twice (at k 5) in
    let e6 = inverted_twice (at k 6) in
    let e7 = inverted_twice (at k 7) in
    cc))

-- the IV that is joined to an expanded key is read off beside it
iv_joined : (e v : List ℕ) → length e ≡ 16 → length v ≡ 4 → iv_in e (with_iv e v) ≡ v
iv_joined e v len len' =
    by_words 16 (λ e. iv_in e (with_iv e v) ≡ v) e len
    (by_words 4 (λ v. iv_in (spell 16 0 e) (with_iv (spell 16 0 e) v) ≡ v) v len'
    (let e0 = joined_back (at e 15) (at v 0) in
    let e1 = joined_back (at e 12) (at v 1) in
    let e2 = joined_back (at e 10) (at v 2) in
    let e3 = joined_back (at e 9) (at v 3) in
    cc))

pub iv_back : (n : ℕ) (k v : List ℕ) → (n ≡ 4) ⊎ (n ≡ 8) → length k ≡ n → length v ≡ 4 → iv_beside n (with_iv (expanded k) v) ≡ v
iv_back n k v sizes len len' = ap (λ k'. iv_in (expanded k') (with_iv (expanded k) v)) (key_back n k v sizes len) ∙ iv_joined (expanded k) v (length_expanded n k sizes len) len'

-- equal registers come from equal keys, of one length, and from equal IVs
pub read_one : (n : ℕ) (k v k' v' : List ℕ) → (n ≡ 4) ⊎ (n ≡ 8) → length k ≡ n → length k' ≡ n → length v ≡ 4 → length v' ≡ 4 → with_iv (expanded k) v ≡ with_iv (expanded k') v' → (k ≡ k') × (v ≡ v')
read_one n k v k' v' sizes lk lk' lv lv' e =
    (sym (key_back n k v sizes lk) ∙ ap (key_in n) e ∙ key_back n k' v' sizes lk', sym (iv_back n k v sizes lk lv) ∙ ap (iv_beside n) e ∙ iv_back n k' v' sizes lk' lv')

-- word 14 equals word 6 under a key of 128 bits, and is its inverse under one of 256
pub lengths_apart : (k v k' v' : List ℕ) → length k ≡ 4 → length k' ≡ 8 → with_iv (expanded k) v ≢ with_iv (expanded k') v'
lengths_apart k v k' v' len len' same = inverted_other (at k' 6) (sym top' ∙ sym (ap (λ s. at s 14) e) ∙ top ∙ sym low ∙ ap (λ s. at s 6) e ∙ low')
  where
    e : with_iv (expanded_128 k) v ≡ with_iv (expanded_256 k') v'
    e = ap (λ a. with_iv a v) (sym (expanded_short k len)) ∙ same ∙ ap (λ a. with_iv a v') (expanded_long k' len')

    top : at (with_iv (expanded_128 k) v) 14 ≡ at k 2
    top = by_words 4 (λ k. at (with_iv (expanded_128 k) v) 14 ≡ at k 2) k len refl

    low : at (with_iv (expanded_128 k) v) 6 ≡ at k 2
    low = by_words 4 (λ k. at (with_iv (expanded_128 k) v) 6 ≡ at k 2) k len refl

    top' : at (with_iv (expanded_256 k') v') 14 ≡ at k' 6
    top' = by_words 8 (λ k. at (with_iv (expanded_256 k) v') 14 ≡ at k 6) k' len' refl

    low' : at (with_iv (expanded_256 k') v') 6 ≡ inverted (at k' 6)
    low' = by_words 8 (λ k. at (with_iv (expanded_256 k) v') 6 ≡ inverted (at k 6)) k' len' refl

fits_set : (b : ℕ) (xs : List ℕ) (i x : ℕ) → AllBelow b xs → x < b → AllBelow b (slice_set xs i x)
fits_set b [] i x all h = tt
fits_set b (y ∷ ys) zero x all h = (h, all.1)
fits_set b (y ∷ ys) (suc i) x all h = (all.0, fits_set b ys i x all.1 h)

with_iv_fit : (a v : List ℕ) → Words a → Words v → Words (with_iv a v)
with_iv_fit a v fa fv =
    let wa = at_below (2 ^ 32) a (omega arith) fa in
    let wv = at_below (2 ^ 32) v (omega arith) fv in
    fits_set (2 ^ 32) (slice_set (slice_set (slice_set a 15 (at a 15 ⊕ at v 0)) 12 (at a 12 ⊕ at v 1)) 10 (at a 10 ⊕ at v 2)) 9 (at a 9 ⊕ at v 3)
    (fits_set (2 ^ 32) (slice_set (slice_set a 15 (at a 15 ⊕ at v 0)) 12 (at a 12 ⊕ at v 1)) 10 (at a 10 ⊕ at v 2)
    (fits_set (2 ^ 32) (slice_set a 15 (at a 15 ⊕ at v 0)) 12 (at a 12 ⊕ at v 1) (fits_set (2 ^ 32) a 15 (at a 15 ⊕ at v 0) fa (xor_lt 32 (at a 15) (at v 0) (wa 15) (wv 0))) (xor_lt 32 (at a 12) (at v 1) (wa 12) (wv 1)))
    (xor_lt 32 (at a 10) (at v 2) (wa 10) (wv 2)))
    (xor_lt 32 (at a 9) (at v 3) (wa 9) (wv 3))

pub with_iv_state : (a v : List ℕ) → State 16 a → State 4 v → State 16 (with_iv a v)
with_iv_state a v sa sv = record { count = by_words 16 (λ a. length (with_iv a v) ≡ 16) a sa.count refl; fits = with_iv_fit a v sa.fits sv.fits }

-- a register with a key of four words or of eight, and an IV
pub filled_state : (n : ℕ) (k v : List ℕ) → (n ≡ 4) ⊎ (n ≡ 8) → State n k → State 4 v → State 16 (with_iv (expanded k) v)
filled_state n k v sizes sk sv = with_iv_state (expanded k) v (expanded_state n k sizes sk) sv

-- a register that holds a key and an IV is made of what is read off it
pub held : (n : ℕ) (a k v : List ℕ) → (n ≡ 4) ⊎ (n ≡ 8) → length k ≡ n → length v ≡ 4 → a ≡ with_iv (expanded k) v → Holds n a
held n a k v sizes lk lv e =
    ap₂ (λ k v. with_iv (expanded k) v) (ap (key_in n) e ∙ key_back n k v sizes lk) (ap (iv_beside n) e ∙ iv_back n k v sizes lk lv) ∙ sym e

-- what is read off sixteen words is words
pub key_state : (n : ℕ) (a : List ℕ) → n ≤ 16 → State 16 a → State n (key_in n a)
key_state n a low st = record {
  count = length-map (take n a) inverted ∙ length-take-le n a (omega (arith, st.count));
  fits = inverted_fit (take n a) (fits_take (2 ^ 32) n a st.fits);
}

pub iv_state : (n : ℕ) (a : List ℕ) → (n ≡ 4) ⊎ (n ≡ 8) → State 16 a → State 4 (iv_beside n a)
iv_state n a sizes st =
    let key = key_state n a (⊎_elim (λ e. omega arith) (λ e. omega arith) sizes) st in
    let e = expanded (key_in n a) in
    let w = at_below (2 ^ 32) a (omega arith) st.fits in
    let x = at_below (2 ^ 32) e (omega arith) (expanded_state n (key_in n a) sizes key).fits in
    record {
      count = refl;
      fits = (xor_lt 32 (at a 15) (at e 15) (w 15) (x 15), (xor_lt 32 (at a 12) (at e 12) (w 12) (x 12), (xor_lt 32 (at a 10) (at e 10) (w 10) (x 10), (xor_lt 32 (at a 9) (at e 9) (w 9) (x 9), tt))));
    }

-- an expanded key, word by word
pub expanded_by_words : (n : ℕ) (k : List ℕ) → (n ≡ 4) ⊎ (n ≡ 8) → length k ≡ n → map (expanded_word n k) (range_with_len 0 16) ≡ expanded k
expanded_by_words n k sizes len =
    by_length n (λ n k e. map (expanded_word n k) (range_with_len 0 16) ≡ e) k sizes len
    (λ len. by_words 4 (λ k. map (expanded_word 4 k) (range_with_len 0 16) ≡ expanded_128 k) k len refl)
    (λ len. by_words 8 (λ k. map (expanded_word 8 k) (range_with_len 0 16) ≡ expanded_256 k) k len refl)
