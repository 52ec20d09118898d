-- What loading and origin of a pair answer, from what its members answer. Assumes nothing.
use Rattle.std.proofs.Common.{◌≡◌, ℕ, ◌+◌, ◌<◌, ◌≤◌, ◌⊎◌, List, ◌++◌, length, Ok, Err, Result, sym, refl, ap, ◌∙◌, subst, ⊎_elim, arith}
use Rattle.generator.specs.declared.OriginFault.{OriginFault}
use Rattle.generator.specs.declared.OriginFault.TheVariants.{NoOrigin}
use Rattle.generator.specs.Meaning.{Meaning, Lawful, Reaches, State}
use Rattle.generator.specs.Calls.{Named, AtFront, Roomy}
use Rattle.layers.specs.Origins.{Names}
use Rattle.layers.specs.Pair.{joined, pair}
use Rattle.layers.specs.PairParts.{BothReach, apart_at, together}

-- the same by equal keys and IVs
pub reaches_by : {m : Meaning} {x y x' y' s : List ℕ} → x ≡ x' → y ≡ y' → Reaches m x' y' 0 s → Reaches m x y 0 s
reaches_by {m} {x} {y} {x'} {y'} {s} e e' r = subst (λ l. Reaches m l y 0 s) (sym e) (subst (λ l. Reaches m x' l 0 s) (sym e') r)

module _ (a b : Meaning) (la : Lawful a) {s : List ℕ} (st : State a.size s) (t key iv : List ℕ) (room : Roomy key iv) where
  no_origin : (r : Result (ℕ × ℕ) OriginFault) (f : OriginFault) → r ≡ Err f → f ≡ NoOrigin → ((k i : List ℕ) → BothReach a b k i s t → ⊥) → Named (pair a b) 0 (s ++ t) key iv r key iv
  no_origin r f e e' none =
      subst (λ x. Named (pair a b) 0 (s ++ t) key iv x key iv) (sym (e ∙ ap Err e')) (room, λ k i reach. none k i (apart_at a b la st reach), refl, refl)

  pub first_none : (r : Result (ℕ × ℕ) OriginFault) (f : OriginFault) → r ≡ Err f → Names a s (Err f) → Named (pair a b) 0 (s ++ t) key iv r key iv
  first_none r f e none = no_origin r f e none.0 (λ k i both. none.1 _ _ both.first)

  pub second_none : (r : Result (ℕ × ℕ) OriginFault) (f : OriginFault) → r ≡ Err f → Names b t (Err f) → Named (pair a b) 0 (s ++ t) key iv r key iv
  second_none r f e none = no_origin r f e none.0 (λ k i both. none.1 _ _ both.second)

  module _ (lb : Lawful b) {x y u v : List ℕ} (one : Reaches a x u 0 s) (two : Reaches b y v 0 t) where
    pub too_long : (254 < length x + length y) ⊎ (254 < length u + length v) → Named (pair a b) 0 (s ++ t) key iv (Err NoOrigin) key iv
    too_long long = no_origin (Err NoOrigin) NoOrigin refl refl (λ k i both.
        let same = la.load_one both.first one in
        let same' = lb.load_one both.second two in
        ⊎_elim
        (λ lt. omega (arith, both.key_parts.short, ap length same.0, ap length same'.0))
        (λ lt. omega (arith, both.iv_parts.short, ap length same.1, ap length same'.1))
        long)

    -- the keys and the IVs are joined
    pub both_named : length x + length y ≤ 254 → length u + length v ≤ 254
        → (n n' : ℕ) (key' iv' : List ℕ) → n ≡ length (joined x y) → n' ≡ length (joined u v) → AtFront (joined x y) key key' → AtFront (joined u v) iv iv'
        → Named (pair a b) 0 (s ++ t) key iv (Ok (n, n')) key' iv'
    both_named short short' n n' key' iv' e e' at at' = (
      room,
      (joined x y, joined u v, together a b short short' one two, ap (λ l. (l, n')) e ∙ ap (λ l. (length (joined x y), l)) e', at, at'),
    )
