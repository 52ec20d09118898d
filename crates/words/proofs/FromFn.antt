-- An array that is made of a closure's answers. Assumes nothing.
use denote.Param.Members.{Mut, Called}
use Rattle.std.proofs.Common.{◌≡◌, ℕ, zero, suc, ◌+◌, ◌<◌, List, map, slice_index_or, ◌∙◌, subst, arith}
use Rattle.std.specs.List.{range_with_len}
use Rattle.std.specs.Array.{IsFromFnResult, IsFromFnResultFrom}
use Rattle.std.proofs.lemmas.List.FromFn.{fill_by_all}

-- a closure that gives each number's value and stays as it is
module _ {F B : Type 0} (g : Mut F (ℕ × Unit {0}) B) (value : ℕ → B) (f : F) (gives : (i : ℕ) (y : B) (q : F) → Called g f (i, tt) y q → (y ≡ value i) × (q ≡ f)) where
  each : (ys : List B) (d : B) (i n : ℕ) → IsFromFnResultFrom g f ys i n → (j k : ℕ) → i + j ≡ k → j < n → slice_index_or ys k d ≡ value k
  each ys d i zero all j k e lt = absurd (omega arith)
  each ys d i (suc n) (q, y, at, called, rest) zero k e lt =
      let same : i ≡ k = omega (arith, e) in
      subst (λ k. slice_index_or ys k d ≡ value k) same (at.1 d ∙ (gives i y q called).0)
  each ys d i (suc n) (q, y, at, called, rest) (suc j) k e lt = each ys d (i + 1) n (subst (λ q. IsFromFnResultFrom g q ys (i + 1) n) (gives i y q called).1 rest) j k (omega (arith, e)) (omega arith)

  pub from_fn_same : (d : B) (ys : List B) (n : ℕ) → IsFromFnResult g f ys n → ys ≡ map value (range_with_len 0 n)
  from_fn_same d ys n r = fill_by_all value ys n d r.long (λ k lt. each ys d 0 n r.each k k (omega arith) lt)
