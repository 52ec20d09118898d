-- A pair of lawful generators is a lawful generator. Assumes nothing.
use Rattle.std.specs.Prelude.{◌≡◌, ℕ, zero, suc, ◌+◌, ◌<◌, ◌≤◌, List, ◌++◌, length, take, drop, Some, None, Ok, Err, Option, Result, bit_xor, refl}
use Rattle.std.proofs.Common.{sym, ap, subst, ◌∙◌, arith, length-append}
use Rattle.std.proofs.lemmas.Nat.{xor_lt}
use Rattle.std.proofs.lemmas.List.{take-append-drop}
use Rattle.generator.specs.declared.Fault.{Fault}
use Rattle.generator.specs.declared.Fault.TheVariants.{Key, Iv}
use Rattle.generator.specs.Refusals.{member}
use Rattle.generator.specs.Meaning.{Meaning, Lawful, Reaches, State, times}
use Rattle.layers.specs.Pair.{joined, parts, at_place, both_loads, parts_load, pair}
use Rattle.layers.specs.Piles.{stream}
use Rattle.generator.proofs.States.{first_state, second_state, joined_state}
use Rattle.layers.specs.PairParts.{at_parts, Parted, apart, apart_at}

-- steps of both parts are undone by steps of both parts
undone : (n : ℕ) (f g f' g' : List ℕ → List ℕ) (s : List ℕ) → length (f (take n s)) ≡ n → g (f (take n s)) ≡ take n s → g' (f' (drop n s)) ≡ drop n s
    → g (take n (f (take n s) ++ f' (drop n s))) ++ g' (drop n (f (take n s) ++ f' (drop n s))) ≡ s
undone n f g f' g' s count one two =
    at_parts (λ x y. g x ++ g' y) n (f (take n s)) (f' (drop n s)) count ∙ ap (λ x. x ++ g' (f' (drop n s))) one
    ∙ ap (λ x. take n s ++ x) two
    ∙ take-append-drop n s

place_member : (n : ℕ) (f : Fault) → member (at_place n f) ≡ n
place_member n (Key m) = refl
place_member n (Iv m) = refl

small : (f : Fault) (n : ℕ) → n < 16 → (g : Fault) → ◌≡◌ {A = Result (List ℕ) Fault} (Err (at_place n g)) (Err f) → member f < 16
small f n lt g e = let same : f ≡ at_place n g = cc in subst (λ h. member h < 16) (sym same) (rw (place_member n g) lt)

module _ (a b : Meaning) where
  faults : (k i : Option (List ℕ × List ℕ)) (f : Fault) → parts_load a b k i ≡ Err f → member f < 16
  faults None i f e = small f 0 (omega arith) (Key 0) e
  faults (Some k) None f e = small f 0 (omega arith) (Iv 0) e
  faults (Some k) (Some i) f e = by (a.load k.0 i.0) (b.load k.1 i.1) e
    where
      by : (x y : Result (List ℕ) Fault) → both_loads x y ≡ Err f → member f < 16
      by (Err g) y e = small f 1 (omega arith) g e
      by (Ok s) (Err g) e = small f 2 (omega arith) g e
      by (Ok s) (Ok t) e = let z : ◌≡◌ {A = ℕ} 0 1 = cc in absurd (omega arith)

short_whole : (whole first second : List ℕ) → Parted whole first second → length whole ≤ 255
short_whole whole first second p =
    subst (λ w. length w ≤ 255) (sym p.is) (let all = length-append first second in omega (arith, p.short))

module _ (a b : Meaning) (la : Lawful a) (lb : Lawful b) where
  one_origin : {key iv key' iv' u : List ℕ} → Reaches (pair a b) key iv 0 u → Reaches (pair a b) key' iv' 0 u → (key ≡ key') × (iv ≡ iv')
  one_origin {key} {iv} {key'} {iv'} {u} r r' =
      let p = apart a b r in
      let o = p.3 in
      let o' = apart_at a b la (la.load_state o.first) (subst (Reaches (pair a b) key' iv' 0) p.2 r') in
      let first = la.load_one o.first o'.first in
      let second = lb.load_one o.second o'.second in (
        o.key_parts.is ∙ ap (λ x. joined x o.second_key) first.0 ∙ ap (joined o'.first_key) second.0 ∙ sym o'.key_parts.is,
        o.iv_parts.is ∙ ap (λ x. joined x o.second_iv) first.1 ∙ ap (joined o'.first_iv) second.1 ∙ sym o'.iv_parts.is,
      )

  pub pair_lawful : Lawful (pair a b)
  pair_lawful =
      let n = a.size in
      let k = b.size in
      record {
        next_state = λ st. joined_state n k (la.next_state (first_state n k st)) (lb.next_state (second_state n k st));
        back_state = λ st. joined_state n k (la.back_state (first_state n k st)) (lb.back_state (second_state n k st));
        back_next = λ {s} st.
            undone n a.next a.back b.next b.back s (la.next_state (first_state n k st)).count (la.back_next (first_state n k st)) (lb.back_next (second_state n k st));
        next_back = λ {s} st.
            undone n a.back a.next b.back b.next s (la.back_state (first_state n k st)).count (la.next_back (first_state n k st)) (lb.next_back (second_state n k st));
        word_fits = λ st. xor_lt 32 _ _ (la.word_fits (first_state n k st)) (lb.word_fits (second_state n k st));
        load_state = λ r.
            let p = apart a b r in
            subst (State (n + k)) (sym p.2) (joined_state n k (la.load_state p.3.first) (lb.load_state p.3.second));
        load_one = one_origin;
        load_short = λ r.
            let o = (apart a b r).3 in
            (short_whole _ _ _ o.key_parts, short_whole _ _ _ o.iv_parts);
        fault_member = λ {key} {iv} {f} e. faults a b (parts key) (parts iv) f e;
      }

many_state : {s : List ℕ} (m : Meaning) → Lawful m → State m.size s → (n : ℕ) → State m.size (times n m.next s)
many_state m l st zero = st
many_state m l st (suc n) = l.next_state (many_state m l st n)

module _ (a b : Meaning) (la : Lawful a) where
  both_times : {s : List ℕ} → State a.size s → (t : List ℕ) (n : ℕ) → times n (pair a b).next (s ++ t) ≡ times n a.next s ++ times n b.next t
  both_times st t zero = refl
  both_times {s} st t (suc n) =
      ap (pair a b).next (both_times st t n)
      ∙ at_parts (λ x y. a.next x ++ b.next y) a.size (times n a.next s) (times n b.next t) (many_state a la st n).count

  pub pair_words : {s : List ℕ} → State a.size s → (t : List ℕ) (n : ℕ) → stream (pair a b) (s ++ t) n ≡ bit_xor (stream a s n) (stream b t n)
  pair_words {s} st t n =
      ap (pair a b).word (both_times st t n)
      ∙ at_parts (λ x y. bit_xor (a.word x) (b.word y)) a.size (times n a.next s) (times n b.next t) (many_state a la st n).count
