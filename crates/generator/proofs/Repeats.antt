-- Steps of a lawful generator, forward and back. Assumes nothing.
use Rattle.std.proofs.Common.{◌≡◌, ℕ, zero, suc, ◌+◌, ◌%◌, List, Ok, Err, Result, sym, refl, ap, ◌∙◌, subst, add-zero, suc-add, zero-add, arith}
use Rattle.generator.specs.Meaning.{Meaning, Lawful, State, Reaches, times}
use Rattle.generator.specs.Calls.{Named}
use Rattle.generator.specs.declared.OriginFault.{OriginFault}
use Rattle.generator.specs.declared.OriginFault.TheVariants.{ShortBuffer, NoOrigin}

pub times_add : {X : Type 0} (a b : ℕ) (f : X → X) (x : X) → times (a + b) f x ≡ times a f (times b f x)
times_add zero b f x = ap (λ n. times n f x) (zero-add b)
times_add (suc a) b f x = ap (λ n. times n f x) (suc-add a b) ∙ ap f (times_add a b f x)

-- what undoes itself comes to nothing, or to one
pub times_even : {X : Type 0} (f : X → X) → ((x : X) → f (f x) ≡ x) → (n : ℕ) (x : X) → (n % 2 ≡ 0 → times n f x ≡ x) × (n % 2 ≡ 1 → times n f x ≡ f x)
times_even f undo zero x = (λ _. refl, λ e. absurd (omega arith))
times_even f undo (suc n) x =
    let less = times_even f undo n x in
    (λ e. ap f (less.1 (omega arith)) ∙ undo x, λ e. ap f (less.0 (omega arith)))

-- the load that a reach begins with
pub root : {m : Meaning} {key iv : List ℕ} {n : ℕ} {s : List ℕ} (r : Reaches m key iv n s) → Reaches m key iv 0 r.start
root r = record { key_bytes = r.key_bytes; iv_bytes = r.iv_bytes; start = r.start; loads = r.loads; arrives = refl }

-- g keeps the states of a size, and f takes g back
module _ (size : ℕ) (f g : List ℕ → List ℕ) (keeps : (s : List ℕ) → State size s → State size (g s)) (undoes : (s : List ℕ) → State size s → f (g s) ≡ s) where
  pub kept_state : (n : ℕ) (s : List ℕ) → State size s → State size (times n g s)
  kept_state zero s st = st
  kept_state (suc n) s st = keeps (times n g s) (kept_state n s st)

  -- k of n + k steps taken back
  pub undone : (k n : ℕ) (s : List ℕ) → State size s → times k f (times (n + k) g s) ≡ times n g s
  undone zero n s st = ap (λ a. times a g s) (add-zero n)
  undone (suc k) n s st =
      let moved : n + suc k ≡ suc n + k = omega arith in
      ap (λ a. f (times k f (times a g s))) moved ∙ ap f (undone k (suc n) s st) ∙ undoes (times n g s) (kept_state n s st)

module _ {m : Meaning} (lawful : Lawful m) where
  pub on_state : (n : ℕ) {s : List ℕ} → State m.size s → State m.size (times n m.next s)
  on_state n {s} st = kept_state m.size m.back m.next (λ s. lawful.next_state) (λ s. lawful.back_next) n s st

  pub back_again : (k n : ℕ) {s : List ℕ} → State m.size s → times k m.back (times (n + k) m.next s) ≡ times n m.next s
  back_again k n {s} st = undone m.size m.back m.next (λ s. lawful.next_state) (λ s. lawful.back_next) k n s st

  -- n words back and forward again
  pub next_again : (n : ℕ) {s : List ℕ} → State m.size s → times n m.next (times n m.back s) ≡ s
  next_again n {s} st =
      ap (λ a. times n m.next (times a m.back s)) (sym (zero-add n)) ∙ undone m.size m.next m.back (λ s. lawful.back_state) (λ s. lawful.next_back) n 0 s st

  pub on_one : (n : ℕ) {s t : List ℕ} → State m.size s → State m.size t → times n m.next s ≡ times n m.next t → s ≡ t
  on_one zero st st' e = e
  on_one (suc n) st st' e = on_one n st st' (sym (lawful.back_next (on_state n st)) ∙ ap m.back e ∙ lawful.back_next (on_state n st'))

  pub trace_one : {s key iv key' iv' : List ℕ} (n : ℕ) → Reaches m key iv n s → Reaches m key' iv' n s → (key ≡ key') × (iv ≡ iv')
  trace_one {key' = key'} {iv' = iv'} n r r' =
      let same = on_one n (lawful.load_state (root r)) (lawful.load_state (root r')) (r.arrives ∙ sym r'.arrives) in
      lawful.load_one (root r) (subst (Reaches m key' iv' 0) (sym same) (root r'))

  -- what is named n words back is what reaches the state in n words
  pub named_from : (n : ℕ) (s key iv : List ℕ) (r : Result (ℕ × ℕ) OriginFault) (key-after iv-after : List ℕ) → State m.size s → Named m 0 (times n m.back s) key iv r key-after iv-after → Named m n s key iv r key-after iv-after
  named_from n s key iv (Ok lengths) key-after iv-after st (roomy, (k, i, reached, p, q, q')) =
      (roomy, (k, i, record { key_bytes = reached.key_bytes; iv_bytes = reached.iv_bytes; start = reached.start; loads = reached.loads; arrives = ap (times n m.next) reached.arrives ∙ next_again n st }, p, q, q'))
  named_from n s key iv (Err NoOrigin) key-after iv-after st (roomy, none, e, e') = (
    roomy,
    λ k i reached. none k i (record {
      key_bytes = reached.key_bytes;
      iv_bytes = reached.iv_bytes;
      start = reached.start;
      loads = reached.loads;
      arrives =
          sym (back_again n 0 (lawful.load_state (root reached))) ∙ ap (λ a. times n m.back (times a m.next reached.start)) (zero-add n)
          ∙ ap (times n m.back) reached.arrives;
    }),
    e,
    e',
  )
  named_from n s key iv (Err ShortBuffer) key-after iv-after st p = p
