-- What origin answers of a cipher. Assumes nothing.
use Rattle.std.proofs.Common.{◌≡◌, ℕ, ◌+◌, ◌*◌, ◌≤◌, true, ◌⊎◌, List, ◌++◌, reverse, length, take, drop, replicate, Option, Some, None, Result, Ok, ok_or, inl, sym, refl, ap, ◌∙◌, subst, ap₂, ⊎_elim, arith, eq-eqb}
use Rattle.std.proofs.lemmas.List.{take_at, drop_at}
use Rattle.generator.specs.Meaning.{State, Reaches}
use Rattle.generator.specs.Calls.{Named}
use Rattle.generator.specs.declared.OriginFault.{OriginFault}
use Rattle.generator.specs.declared.OriginFault.TheVariants.{NoOrigin}
use Rattle.words.proofs.Bytes.{bytes_of_bytes}
use Rattle.snow.specs.Register.{numbered}
use Rattle.snow.specs.Loading.{expanded, with_iv}
use Rattle.snow.specs.Machines.{Machine, Sound}
use Rattle.snow.specs.Origins.{key_in, iv_beside, Holds, unnumbered, Read}
use Rattle.snow.specs.Cipher.{step, feed, unstep, unfeed, prepared, started, rewound, cipher_load, cipher}
use Rattle.snow.specs.Numbers.{numbered_unnumbered, length_unnumbered}
use Rattle.snow.specs.LoadLaws.{held, key_state, iv_state}
use Rattle.snow.specs.Starts.{started_rewound}
use Rattle.snow.specs.RegisterLaws.{register_fits}
use Rattle.snow.specs.States.{state_of}
use Rattle.snow.specs.declared.register.Register.{Register}
use Rattle.snow.specs.declared.cipher.Snow.{Snow}
use Rattle.snow.specs.CipherSteps.{steps}
use Rattle.generator.proofs.States.{joined_state}
use Rattle.snow.specs.CipherLaws.{says, key_words, iv_words, register_state, rewound_start}

pub register_state_of : (r : Register) → State 16 r.words
register_state_of r = register_fits r.words r.count r.fits

pub cipher_state : {M : Type 0} (n : ℕ) (words : M → List ℕ) → ((m : M) → State n (words m)) → (s : Snow M) → State (16 + n) (state_of words s)
cipher_state n words fits s = joined_state 16 n (register_state_of s.register) (fits s.machine)

load_is : (c : Machine) (key iv : List ℕ) → c.takes (length key) ≡ true → length iv ≡ 16 → cipher_load c key iv ≡ Ok (started c (prepared c key iv))
load_is c key iv taken il = rw (taken, eq-eqb (length iv) 16 il) refl

-- a state s, and the register a and the machine's words m that the steps of a load come from
module _ (c : Machine) (sound : Sound c) (s a m : List ℕ) (st : State (16 + c.size) s) (sa : State 16 a) (back : a ++ m ≡ rewound c s) where
  -- what reaches s stands in the register before the first step, beside a machine of zero words
  begins : {key iv : List ℕ} (r : Reaches (cipher c) key iv 0 s) → (a ≡ with_iv (expanded (numbered key)) (numbered iv)) × (m ≡ replicate c.size 0)
  begins {key} {iv} r =
      let l = says c sound r in
      let w = with_iv (expanded (numbered key)) (numbered iv) in
      let long = (register_state c sound r.key_bytes r.iv_bytes l).count in
      let same = back ∙ rewound_start c sound r.key_bytes r.iv_bytes l in
      (sym (take_at a m 16 sa.count) ∙ ap (take 16) same ∙ take_at w (replicate c.size 0) 16 long, sym (drop_at a m 16 sa.count) ∙ ap (drop 16) same ∙ drop_at w (replicate c.size 0) 16 long)

  pub none_by_machine : (m ≡ replicate c.size 0 → ⊥) → (key iv : List ℕ) → Reaches (cipher c) key iv 0 s → ⊥
  none_by_machine other key iv r = other (begins r).1

  pub none_by_register : (c.takes 16 ≡ true → Holds 4 a → ⊥) → (Holds 8 a → ⊥) → (key iv : List ℕ) → Reaches (cipher c) key iv 0 s → ⊥
  none_by_register short long key iv r =
      let l = says c sound r in
      let holds = held l.words a (numbered key) (numbered iv) l.sizes (key_words c sound r.key_bytes r.iv_bytes l).count (iv_words c sound r.key_bytes r.iv_bytes l).count (begins r).0 in
      ⊎_elim (λ e. short (ap c.takes (ap (λ n. 4 * n) (sym e) ∙ sym l.key_long) ∙ l.taken) (subst (λ n. Holds n a) e holds)) (λ e. long (subst (λ n. Holds n a) e holds)) l.sizes

  -- what is read off the register reaches s
  module _ (zero : m ≡ replicate c.size 0) (n : ℕ) (sizes : (n ≡ 4) ⊎ (n ≡ 8)) (taken : c.takes (4 * n) ≡ true) where
    restarted : started c (a ++ replicate c.size 0) ≡ s
    restarted = ap (started c) (ap (λ t. a ++ t) (sym zero) ∙ back) ∙ started_rewound (16 + c.size) (step c) (feed c) (unstep c) (unfeed c) (steps c sound) st

    read_key : State n (key_in n a)
    read_key = key_state n a (⊎_elim (λ e. omega arith) (λ e. omega arith) sizes) sa

    read_iv : State 4 (iv_beside n a)
    read_iv = iv_state n a sizes sa

    key_long : length (unnumbered (key_in n a)) ≡ 4 * n
    key_long = length_unnumbered (key_in n a) ∙ ap (λ n. 4 * n) read_key.count

    iv_long : length (unnumbered (iv_beside n a)) ≡ 16
    iv_long = length_unnumbered (iv_beside n a)

    reaches : Holds n a → Reaches (cipher c) (unnumbered (key_in n a)) (unnumbered (iv_beside n a)) 0 s
    reaches holds = record {
      key_bytes = bytes_of_bytes (reverse (key_in n a));
      iv_bytes = bytes_of_bytes (reverse (iv_beside n a));
      start = s;
      loads =
          load_is c (unnumbered (key_in n a)) (unnumbered (iv_beside n a)) (ap c.takes key_long ∙ taken) iv_long
          ∙ ap Ok (ap₂ (λ x y. started c (with_iv (expanded x) y ++ replicate c.size 0)) (numbered_unnumbered (key_in n a) read_key.fits) (numbered_unnumbered (iv_beside n a) read_iv.fits) ∙ ap (λ x. started c (x ++ replicate c.size 0)) holds ∙ restarted);
      arrives = refl;
    }

    -- what a register that holds a key and an IV answers
    pub named : (key iv key-after iv-after : List ℕ) (lengths : ℕ × ℕ) → 255 ≤ length key → 255 ≤ length iv → Read n a (Some lengths) key iv key-after iv-after
        → Named (cipher c) 0 s key iv (Ok lengths) key-after iv-after
    named key iv key-after iv-after lengths long long' (holds, e, ek, ev) = (
      (long, long'),
      (
        unnumbered (key_in n a),
        unnumbered (iv_beside n a),
        reaches holds,
        e ∙ ap₂ (λ x y. (x, y)) (sym key_long) (sym iv_long),
        ek ∙ ap (λ k. unnumbered (key_in n a) ++ drop k key) (sym key_long),
        ev ∙ ap (λ k. unnumbered (iv_beside n a) ++ drop k iv) (sym iv_long),
      ),
    )

  -- what is answered where the register holds no key of eight words, which leaves the buffers as they were, and is then asked for one of four
  pub named_or : m ≡ replicate c.size 0 → c.takes 16 ≡ true → (Holds 8 a → ⊥) → (key iv key₁ iv₁ key-after iv-after : List ℕ) (o : Option (ℕ × ℕ)) (r : Result (ℕ × ℕ) OriginFault) → 255 ≤ length key → 255 ≤ length iv
      → key₁ ≡ key → iv₁ ≡ iv → Read 4 a o key₁ iv₁ key-after iv-after → r ≡ ok_or o NoOrigin → Named (cipher c) 0 s key iv r key-after iv-after
  named_or zero taken none key iv key₁ iv₁ key-after iv-after o r long long' ek ev read er =
      subst (λ r. Named (cipher c) 0 s key iv r key-after iv-after) (sym er) (go o (subst (λ k. Read 4 a o k iv key-after iv-after) ek (subst (λ v. Read 4 a o key₁ v key-after iv-after) ev read)))
    where
      go : (o : Option (ℕ × ℕ)) → Read 4 a o key iv key-after iv-after → Named (cipher c) 0 s key iv (ok_or o NoOrigin) key-after iv-after
      go (Some lengths) read = named zero 4 (inl refl) taken key iv key-after iv-after lengths long long' read
      go None (none', ek, ev) = ((long, long'), none_by_register (λ _. none') none, ek, ev)
