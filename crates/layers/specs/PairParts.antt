-- Keys, IVs and states of a pair, apart and joined. Assumes nothing.
use Rattle.std.specs.Prelude.{◌≡◌, ℕ, ◌+◌, ◌≤◌, List, [], ◌∷◌, ◌++◌, length, take, drop, Some, None, Ok, Err, Option, Result, refl}
use Rattle.std.proofs.Common.{sym, ap, subst, ◌∙◌, arith, length-append, length-drop}
use Rattle.std.proofs.lemmas.List.{take-append-drop, take_at, drop_at, length-take-le}
use Rattle.std.proofs.lemmas.Bool.Decides.{nat_tests}
use Rattle.words.specs.Words.{AllBelow, Bytes}
use Rattle.words.proofs.Words.{fits_append}
use Rattle.generator.specs.declared.Fault.{Fault}
use Rattle.generator.specs.Meaning.{Meaning, Lawful, Reaches, State}
use Rattle.layers.specs.Pair.{joined, parts, both_loads, parts_load, pair}

below_parts : (b : ℕ) (xs ys : List ℕ) → AllBelow b (xs ++ ys) → AllBelow b xs × AllBelow b ys
below_parts b [] ys all = (tt, all)
below_parts b (x ∷ xs) ys all = let rest = below_parts b xs ys all.1 in ((all.0, rest.0), rest.1)

-- what is said of the two parts of a state that was joined is said of the parts that it was joined of
pub at_parts : {X : Type 0} (h : List ℕ → List ℕ → X) (n : ℕ) (s t : List ℕ) → length s ≡ n → h (take n (s ++ t)) (drop n (s ++ t)) ≡ h s t
at_parts h n s t count = ap (λ x. h x (drop n (s ++ t))) (take_at s t n count) ∙ ap (h s) (drop_at s t n count)

-- a key or an IV that has parts is those two joined
pub record Parted (whole first second : List ℕ) : Type 0 where
  pub is : whole ≡ joined first second
  pub short : length first + length second ≤ 254

parts_told : (m : ℕ) (rest : List ℕ) (p : List ℕ × List ℕ) → parts (m ∷ rest) ≡ Some p → (m ≤ length rest) × (length rest ≤ 254) × (p ≡ (take m rest, drop m rest))
parts_told m rest p e = grind (arith, nat_tests)

pub parted : (whole : List ℕ) (p : List ℕ × List ℕ) → parts whole ≡ Some p → Parted whole p.0 p.1
parted [] p e = let z : ◌≡◌ {A = ℕ} 0 1 = cc in absurd (omega arith)
parted (m ∷ rest) p e =
    let told = parts_told m rest p e in
    let count = length-take-le m rest told.0 in
    subst (λ q. Parted (m ∷ rest) q.0 q.1) (sym told.2)
    (record {
      is = ap (λ n. n ∷ rest) (sym count) ∙ ap (λ l. length (take m rest) ∷ l) (sym (take-append-drop m rest));
      short = simp length-drop (omega (arith, count, told.0, told.1));
    })

pub parts_are : (m : ℕ) (rest first second : List ℕ) → m ≤ length rest → length rest ≤ 254 → take m rest ≡ first → drop m rest ≡ second → parts (m ∷ rest) ≡ Some (first, second)
parts_are m rest first second fits short one two = grind (arith, nat_tests)

parts_joined : (first second : List ℕ) → length first + length second ≤ 254 → parts (joined first second) ≡ Some (first, second)
parts_joined first second short =
    let long = length-append first second in
    parts_are (length first) (first ++ second) first second (omega arith) (omega arith) (take_at first second (length first) refl) (drop_at first second (length first) refl)

same_parts : (s t s' t' : List ℕ) (n : ℕ) → length s ≡ n → length s' ≡ n → s ++ t ≡ s' ++ t' → (s ≡ s') × (t ≡ t')
same_parts s t s' t' n l l' e =
    (sym (take_at s t n l) ∙ ap (take n) e ∙ take_at s' t' n l', sym (drop_at s t n l) ∙ ap (drop n) e ∙ drop_at s' t' n l')

-- the parts of a key and an IV reach the parts of a state
pub record BothReach (a b : Meaning) (key iv s t : List ℕ) : Type 0 where
  pub first_key : List ℕ
  pub second_key : List ℕ
  pub first_iv : List ℕ
  pub second_iv : List ℕ
  pub key_parts : Parted key first_key second_key
  pub iv_parts : Parted iv first_iv second_iv
  pub first : Reaches a first_key first_iv 0 s
  pub second : Reaches b second_key second_iv 0 t

part_bytes : (whole first second : List ℕ) → Parted whole first second → Bytes whole → Bytes first × Bytes second
part_bytes whole first second p all = below_parts 256 first second (subst Bytes p.is all).1

module _ (a b : Meaning) where
  pub apart : {key iv u : List ℕ} → Reaches (pair a b) key iv 0 u → (s : List ℕ) × (t : List ℕ) × (u ≡ s ++ t) × BothReach a b key iv s t
  apart {key} {iv} {u} r = by_parts (parts key) (parts iv) refl refl (r.loads ∙ ap Ok r.arrives)
    where
      by_loads : (k i : List ℕ × List ℕ) → parts key ≡ Some k → parts iv ≡ Some i → (x y : Result (List ℕ) Fault) → a.load k.0 i.0 ≡ x → b.load k.1 i.1 ≡ y → both_loads x y ≡ Ok u
          → (s : List ℕ) × (t : List ℕ) × (u ≡ s ++ t) × BothReach a b key iv s t
      by_loads k i ek ei (Err f) y ex ey e = let z : ◌≡◌ {A = ℕ} 0 1 = cc in absurd (omega arith)
      by_loads k i ek ei (Ok s) (Err f) ex ey e = let z : ◌≡◌ {A = ℕ} 0 1 = cc in absurd (omega arith)
      by_loads k i ek ei (Ok s) (Ok t) ex ey e =
          let of_key = parted key k ek in
          let of_iv = parted iv i ei in
          let keys = part_bytes key k.0 k.1 of_key r.key_bytes in
          let ivs = part_bytes iv i.0 i.1 of_iv r.iv_bytes in
          let same : u ≡ s ++ t = cc in (
            s,
            t,
            same,
            record {
              first_key = k.0;
              second_key = k.1;
              first_iv = i.0;
              second_iv = i.1;
              key_parts = of_key;
              iv_parts = of_iv;
              first = record { key_bytes = keys.0; iv_bytes = ivs.0; start = s; loads = ex; arrives = refl };
              second = record { key_bytes = keys.1; iv_bytes = ivs.1; start = t; loads = ey; arrives = refl };
            },
          )

      by_parts : (k i : Option (List ℕ × List ℕ)) → parts key ≡ k → parts iv ≡ i → parts_load a b k i ≡ Ok u → (s : List ℕ) × (t : List ℕ) × (u ≡ s ++ t) × BothReach a b key iv s t
      by_parts None i ek ei e = let z : ◌≡◌ {A = ℕ} 0 1 = cc in absurd (omega arith)
      by_parts (Some k) None ek ei e = let z : ◌≡◌ {A = ℕ} 0 1 = cc in absurd (omega arith)
      by_parts (Some k) (Some i) ek ei e = by_loads k i ek ei (a.load k.0 i.0) (b.load k.1 i.1) refl refl e

  pub apart_at : {key iv s t : List ℕ} → Lawful a → State a.size s → Reaches (pair a b) key iv 0 (s ++ t) → BothReach a b key iv s t
  apart_at {key} {iv} {s} {t} lawful st r =
      let p = apart r in
      let same = same_parts s t p.0 p.1 a.size st.count (lawful.load_state p.3.first).count p.2 in
      subst (λ u. BothReach a b key iv u t) (sym same.0) (subst (λ u. BothReach a b key iv p.0 u) (sym same.1) p.3)

  pub together : {k k' i i' s t : List ℕ} → length k + length k' ≤ 254 → length i + length i' ≤ 254 → Reaches a k i 0 s → Reaches b k' i' 0 t → Reaches (pair a b) (joined k k') (joined i i') 0 (s ++ t)
  together {k} {k'} {i} {i'} {s} {t} short short' r r' = record {
    key_bytes = (omega arith, fits_append 256 k k' r.key_bytes r'.key_bytes);
    iv_bytes = (omega arith, fits_append 256 i i' r.iv_bytes r'.iv_bytes);
    start = s ++ t;
    loads =
        ap (λ p. parts_load a b p (parts (joined i i'))) (parts_joined k k' short) ∙ ap (parts_load a b (Some (k, k'))) (parts_joined i i' short')
        ∙ ap (λ x. both_loads x (b.load k' i')) (r.loads ∙ ap Ok r.arrives) ∙ ap (both_loads (Ok s)) (r'.loads ∙ ap Ok r'.arrives);
    arrives = refl;
  }
