-- Rules shown by one computed test: of every number below a bound, and of a table at all of its entries. Assumes nothing.
use Rattle.std.proofs.Common.{◌≡◌, ℕ, ◌<◌, Bool, true, eqb, ltb, List, length, get_or, sym, refl, ◌∙◌, subst, zero-add, arith, eqb-true, ltb-true}
use Rattle.std.specs.List.{list_all, range_with_len}
use Rattle.std.proofs.lemmas.List.{get_or_default}
use Rattle.std.proofs.lemmas.List.FromFn.{get_or-range_with_len, length-range_with_len}
use Rattle.std.proofs.lemmas.List.Recursion.{and_at}
use Rattle.fields.specs.Tables.{Follows}

-- the test t passes at every number below n
abbrev pub all_below : ℕ → (ℕ → Bool) → Bool
all_below n t = list_all t (range_with_len 0 n)

pub all_at : (n : ℕ) (t : ℕ → Bool) → all_below n t ≡ true → (k : ℕ) → k < n → t k ≡ true
all_at n t all k h =
    subst (λ j. t j ≡ true) (get_or-range_with_len 0 n k 0 h ∙ zero-add k) (and_at (list_all t) t refl (λ x xs. refl) (range_with_len 0 n) k 0 (omega (arith, length-range_with_len 0 n)) all)

-- f and g agree on every number below n
abbrev pub agree : ℕ → (ℕ → ℕ) → (ℕ → ℕ) → Bool
agree n f g = all_below n (λ k. eqb (f k) (g k))

pub agree_at : (n : ℕ) (f g : ℕ → ℕ) → agree n f g ≡ true → (k : ℕ) → k < n → f k ≡ g k
agree_at n f g test k h = eqb-true (f k) (g k) (all_at n (λ k. eqb (f k) (g k)) test k h)

-- f takes every byte to a byte
abbrev pub to_bytes : (ℕ → ℕ) → Bool
to_bytes f = all_below 256 (λ k. ltb (f k) 256)

pub byte_at : (f : ℕ → ℕ) → to_bytes f ≡ true → (k : ℕ) → k < 256 → f k < 256
byte_at f test k h = ltb-true (f k) 256 (all_at 256 (λ k. ltb (f k) 256) test k h)

-- a table of 256 entries follows a rule f, by the test that each entry is what a quicker rule has at its place
pub by_test : (f quick : ℕ → ℕ) → ((k : ℕ) → k < 256 → f k ≡ quick k) → (xs : List ℕ) → length xs ≡ 256 → agree 256 (λ k. get_or xs k 0) quick ≡ true → Follows f xs
by_test f quick same xs len test = record {
  each = λ k d h.
      let low = subst (λ n. k < n) len h in
      get_or_default xs k d 0 h ∙ agree_at 256 (λ k. get_or xs k 0) quick test k low ∙ sym (same k low);
}
