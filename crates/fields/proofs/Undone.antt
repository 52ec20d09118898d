-- SR and SQ permute the bytes, and tables of the byte that a box takes to another. Assumes nothing.
use Rattle.std.proofs.Common.{◌≡◌, ℕ, zero, suc, ◌<◌, ◌≤◌, ◌==◌, ◌&&◌, Bool, true, false, eqb, List, length, get_or, map, sym, refl, ap, ◌∙◌, subst, ⊎_elim, not-suc-le-zero, zero-add, arith, eq-eqb, ne_eqb}
use Rattle.std.specs.List.{position_or_len, range_with_len}
use Rattle.std.proofs.lemmas.List.{get_or_default}
use Rattle.std.proofs.lemmas.List.FromFn.{get_or-map-range_with_len}
use Rattle.std.proofs.lemmas.Bool.{cases_lt, cases_eq, and_parts}
use Rattle.fields.specs.Doubling.{doubled, partial_product, product}
use Rattle.fields.specs.Boxes.{rotated, affine, sr, sq, search_below, undone}
use Rattle.fields.specs.Tables.{Follows}
use Rattle.fields.specs.Theorems.{Permutes}
use Rattle.fields.proofs.Entries.{agree, agree_at, to_bytes, byte_at}
use Rattle.fields.proofs.Quick.{sr_quick, sr_is, sq_quick, sq_is}

-- a search finds the one number below n that f takes to v
search_finds : (n : ℕ) (f : ℕ → ℕ) (v u : ℕ) → u < n → f u ≡ v → ((w : ℕ) → w < n → f w ≡ v → w ≡ u) → search_below n f v ≡ u
unfolding search_below
search_finds zero f v u h e only = absurd (not-suc-le-zero h)
search_finds (suc n) f v u h e only =
    ⊎_elim
    (λ hit. rw (eq-eqb (f n) v hit, search_below) (only n (omega arith) hit))
    (λ miss.
    let below : u < n = ⊎_elim (λ less. less) (λ more. absurd (miss (ap f (last u n h more) ∙ e))) (cases_lt u n) in
    let others : (w : ℕ) → w < n → f w ≡ v → w ≡ u = λ w hw. only w (wider w n hw) in
    rw (ne_eqb (f n) v miss, search_below) (search_finds n f v u below e others))
    (cases_eq (f n) v)
  where
    last : (u n : ℕ) → u < suc n → n ≤ u → n ≡ u
    last u n h more = omega arith

    wider : (w n : ℕ) → w < n → w < suc n
    wider w n h = omega arith

search_low : (n : ℕ) (f : ℕ → ℕ) (v b : ℕ) → 0 < b → n ≤ b → search_below n f v < b
unfolding search_below
search_low zero f v b some h = some
search_low (suc n) f v b some h = elim (f n == v) as (λ t. elim t [ true ↦ n | false ↦ search_below n f v ] < b) [ true ↦ omega arith | false ↦ search_low n f v b some (omega arith) ]

pub undone_below : (f : ℕ → ℕ) (v : ℕ) → undone f v < 256
unfolding undone
undone_below f v = search_low 256 f v 256 (omega arith) (omega arith)

-- the place of v in a list
abbrev place : List ℕ → ℕ → ℕ
place l v = position_or_len (λ x. eqb x v) l

-- the test of a list of 256: its entries and the places of the bytes in it are bytes, and undo each other
abbrev permuted : List ℕ → Bool
permuted l = to_bytes (λ k. get_or l k 0) && (to_bytes (place l) && (agree 256 (λ k. place l (get_or l k 0)) (λ k. k) && agree 256 (λ v. get_or l (place l v) 0) (λ v. v)))

-- a box permutes the bytes, by the test of the list of what it takes them to
permutes : (f quick : ℕ → ℕ) → ((k : ℕ) → k < 256 → f k ≡ quick k) → (l : List ℕ) → l ≡ map quick (range_with_len 0 256) → permuted l ≡ true → Permutes f
unfolding undone
permutes f quick same l is test = record {
  stays = stays;
  back = λ a ha. undone_is (f a) (stays a ha) ∙ placed a ha;
  forth = λ v hv. ap f (undone_is v hv) ∙ found v hv;
}
  where
    parts : (to_bytes (λ k. get_or l k 0) ≡ true) × (to_bytes (place l) ≡ true) × (agree 256 (λ k. place l (get_or l k 0)) (λ k. k) ≡ true) × (agree 256 (λ v. get_or l (place l v) 0) (λ v. v) ≡ true)
    parts =
        let (entries, rest) = and_parts (to_bytes (λ k. get_or l k 0)) _ test in
        let (places, both) = and_parts (to_bytes (place l)) _ rest in
        let (back, forth) = and_parts (agree 256 (λ k. place l (get_or l k 0)) (λ k. k)) _ both in
        (entries, places, back, forth)

    reads : (k : ℕ) → k < 256 → f k ≡ get_or l k 0
    reads k h = same k h ∙ sym (ap (λ xs. get_or xs k 0) is ∙ get_or-map-range_with_len quick 0 256 k k 0 h (zero-add k))

    stays : (a : ℕ) → a < 256 → f a < 256
    stays a ha = subst (λ x. x < 256) (sym (reads a ha)) (byte_at (λ k. get_or l k 0) parts.0 a ha)

    placed : (a : ℕ) → a < 256 → place l (f a) ≡ a
    placed a ha = ap (place l) (reads a ha) ∙ agree_at 256 (λ k. place l (get_or l k 0)) (λ k. k) parts.2 a ha

    found : (v : ℕ) → v < 256 → f (place l v) ≡ v
    found v hv = reads (place l v) (byte_at (place l) parts.1 v hv) ∙ agree_at 256 (λ v. get_or l (place l v) 0) (λ v. v) parts.3 v hv

    undone_is : (v : ℕ) → v < 256 → undone f v ≡ place l v
    undone_is v hv = search_finds 256 f v (place l v) (byte_at (place l) parts.1 v hv) (found v hv) (λ w hw e. sym (placed w hw) ∙ ap (place l) e)

pub sr_permutes : Permutes sr
unfolding doubled partial_product product rotated affine sr_quick
sr_permutes = permutes sr sr_quick sr_is _ refl refl

pub sq_permutes : Permutes sq
unfolding doubled partial_product product sq_quick
sq_permutes = permutes sq sq_quick sq_is _ refl refl

-- the byte that a box takes to another
pub undone_is : (f : ℕ → ℕ) → Permutes f → (v u : ℕ) → u < 256 → f u ≡ v → undone f v ≡ u
undone_is f p v u h e = ap (undone f) (sym e) ∙ p.back u h

-- a table of 256 bytes follows the byte that a box takes to another, by the test that the box takes each entry to its place
pub by_undoing : (f quick : ℕ → ℕ) → ((k : ℕ) → k < 256 → f k ≡ quick k) → Permutes f → (xs : List ℕ) → length xs ≡ 256
    → to_bytes (λ k. get_or xs k 0) ≡ true → agree 256 (λ k. quick (get_or xs k 0)) (λ k. k) ≡ true → Follows (undone f) xs
by_undoing f quick same p xs len low test = record {
  each = λ k d h.
      let h' = subst (λ n. k < n) len h in
      let byte = byte_at (λ k. get_or xs k 0) low k h' in
      get_or_default xs k d 0 h ∙ sym (undone_is f p k (get_or xs k 0) byte (same (get_or xs k 0) byte ∙ agree_at 256 (λ k. quick (get_or xs k 0)) (λ k. k) test k h'));
}
