-- The bytes of a word, mapped by a closure. Assumes nothing.
use Rattle.std.proofs.Common.{◌≡◌, ℕ, zero, suc, ◌+◌, ◌/◌, ◌%◌, ◌<◌, List, [], ◌∷◌, get_or, sym, refl, ap, ◌∙◌, subst, not-suc-le-zero, le_of_suc-le-suc, add-zero, arith}
use denote.Param.Members.{Mut, Called}
use Rattle.std.specs.Array.{IsMapOf, MapsFrom}
use Rattle.words.specs.Words.{byte_of}
use Rattle.words.proofs.Words.{byte_low}

-- each call from the captures s on gives f of the element, and leaves the captures
module _ {F : Type 0} (g : Mut F (ℕ × Unit {0}) ℕ) (f : ℕ → ℕ) (s : F) (xs ys : List ℕ) (gives : (x y : ℕ) (q : F) → Called g s (x, tt) y q → (y ≡ f x) × (q ≡ s)) where
  maps_from : (n i : ℕ) (t : F) → t ≡ s → MapsFrom g t xs ys i n → (k : ℕ) → k < n → get_or ys (i + k) 0 ≡ f (get_or xs (i + k) 0)
  maps_from zero i t e maps k h = absurd (not-suc-le-zero h)
  maps_from (suc n) i t e (q, x, y, ix, iy, call, rest) zero h =
      rw add-zero (iy.1 0 ∙ (gives x y q (subst (λ t. Called g t (x, tt) y q) e call)).0 ∙ ap f (sym (ix.1 0)))
  maps_from (suc n) i t e (q, x, y, ix, iy, call, rest) (suc k) h =
      subst (λ j. get_or ys j 0 ≡ f (get_or xs j 0)) (omega arith)
      (maps_from n (i + 1) q (gives x y q (subst (λ t. Called g t (x, tt) y q) e call)).1 rest k (le_of_suc-le-suc h))

  pub mapped_bytes : (w : ℕ) → xs ≡ w / 16777216 % 256 ∷ w / 65536 % 256 ∷ w / 256 % 256 ∷ w % 256 ∷ [] → IsMapOf g s xs ys 4
      → (get_or ys 0 0 ≡ f (byte_of w 0)) × (get_or ys 1 0 ≡ f (byte_of w 1)) × (get_or ys 2 0 ≡ f (byte_of w 2)) × (get_or ys 3 0 ≡ f (byte_of w 3))
  mapped_bytes w bytes maps =
      let at = maps_from 4 0 s refl maps.each in (
        at 0 (omega arith) ∙ ap (λ bs. f (get_or bs 0 0)) bytes,
        at 1 (omega arith) ∙ ap (λ bs. f (get_or bs 1 0)) bytes,
        at 2 (omega arith) ∙ ap (λ bs. f (get_or bs 2 0)) bytes,
        at 3 (omega arith) ∙ ap (λ bs. f (get_or bs 3 0)) bytes ∙ ap f (byte_low w),
      )
