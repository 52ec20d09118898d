-- A cipher of register and machine keeps the laws of generators. Assumes nothing.
use Rattle.std.specs.Prelude.{◌≡◌, ℕ, ◌+◌, ◌*◌, ◌^◌, ◌≤◌, Bool, true, false, cond, ◌⊎◌, List, ◌++◌, length, replicate, Ok, Err, Result, ◌==◌, refl}
use Rattle.std.proofs.Common.{sym, ap, subst, ◌∙◌, ⊎_elim, inl, inr, arith}
use Rattle.std.proofs.lemmas.Bool.Decides.{nat_tests}
use Rattle.std.proofs.lemmas.List.{length-replicate, append_cancel_right}
use Rattle.generator.specs.declared.Fault.{Fault}
use Rattle.generator.specs.declared.Fault.TheVariants.{Key, Iv}
use Rattle.generator.specs.Meaning.{State, Lawful, Reaches, times}
use Rattle.generator.proofs.States.{joined_state}
use Rattle.words.specs.Words.{Bytes}
use Rattle.words.proofs.Words.{fits_replicate}
use Rattle.snow.specs.Register.{numbered}
use Rattle.snow.specs.Loading.{expanded, with_iv}
use Rattle.snow.specs.Machines.{Machine, Sound}
use Rattle.snow.specs.Cipher.{step, feed, unstep, unfeed, prepared, started, rewound, cipher_load, cipher}
use Rattle.snow.specs.Numbers.{numbered_state, numbered_one, plain_member}
use Rattle.snow.specs.LoadLaws.{filled_state, read_one, lengths_apart}
use Rattle.snow.specs.Starts.{started_state, rewound_started}
use Rattle.snow.specs.CipherSteps.{steps, keystream_fits}

-- a register with zero words behind it
pub with_zeros : (n : ℕ) (a : List ℕ) → State 16 a → State (16 + n) (a ++ replicate n 0)
with_zeros n a st = joined_state 16 n st (record { count = length-replicate n 0; fits = fits_replicate (2 ^ 32) 0 n (omega arith) })

-- an accepted load: the words of the key, 16 bytes of IV, and the state that they start
pub record Load (c : Machine) (key iv s : List ℕ) : Type 0 where
  pub words : ℕ
  pub sizes : (words ≡ 4) ⊎ (words ≡ 8)
  pub key_long : length key ≡ 4 * words
  pub taken : c.takes (length key) ≡ true
  pub iv_long : length iv ≡ 16
  pub starts : s ≡ started c (prepared c key iv)

-- the tests of a load, where it is accepted and where it is not
tests : (b : Bool) (n : ℕ) (p s : List ℕ) → ◌≡◌ {A = Result (List ℕ) Fault} (cond b (cond (n == 16) (Ok p) (Err (Iv 0))) (Err (Key 0))) (Ok s) → (b ≡ true) × (n ≡ 16) × (s ≡ p)
tests true n p s e = grind (arith, nat_tests)
tests false n p s e = absurd (cc)

refusals : (b : Bool) (n : ℕ) (p : List ℕ) (f : Fault) → ◌≡◌ {A = Result (List ℕ) Fault} (cond b (cond (n == 16) (Ok p) (Err (Iv 0))) (Err (Key 0))) (Err f) → (f ≡ Key 0) ⊎ (f ≡ Iv 0)
refusals true n p f e = grind (arith, nat_tests)
refusals false n p f e = inl (cc)

module _ (c : Machine) (sound : Sound c) where
  load_says : (key iv s : List ℕ) → cipher_load c key iv ≡ Ok s → Load c key iv s
  load_says key iv s e =
      let (taken, long, starts) = tests (c.takes (length key)) (length iv) (started c (prepared c key iv)) s e in
      ⊎_elim (λ e. record { words = 4; sizes = inl refl; key_long = e; taken = taken; iv_long = long; starts = starts })
      (λ e. record { words = 8; sizes = inr refl; key_long = e; taken = taken; iv_long = long; starts = starts })
      (sound.takes_no_other (length key) taken)

  pub says : {key iv s : List ℕ} → Reaches (cipher c) key iv 0 s → Load c key iv s
  says {key} {iv} {s} r = load_says key iv s (r.loads ∙ ap Ok r.arrives)

  faults : (key iv : List ℕ) (f : Fault) → cipher_load c key iv ≡ Err f → (f ≡ Key 0) ⊎ (f ≡ Iv 0)
  faults key iv f e = refusals (c.takes (length key)) (length iv) (started c (prepared c key iv)) f e

  load_short : {key iv s : List ℕ} → Load c key iv s → (length key ≤ 255) × (length iv ≤ 255)
  load_short l = ⊎_elim (λ e. (omega (arith, l.key_long), omega (arith, l.iv_long))) (λ e. (omega (arith, l.key_long), omega (arith, l.iv_long))) l.sizes

  -- the state before the steps of a load
  pub prepared_of : (n : ℕ) (key iv : List ℕ) → (n ≡ 4) ⊎ (n ≡ 8) → Bytes key → Bytes iv → length key ≡ 4 * n → length iv ≡ 16 → State (16 + c.size) (prepared c key iv)
  prepared_of n key iv sizes kb ib kl il =
      with_zeros c.size (with_iv (expanded (numbered key)) (numbered iv)) (filled_state n (numbered key) (numbered iv) sizes (numbered_state n key kb kl) (numbered_state 4 iv ib il))

  -- equal starts come from equal registers
  one_register : (a b : List ℕ) → State (16 + c.size) (a ++ replicate c.size 0) → State (16 + c.size) (b ++ replicate c.size 0) → started c (a ++ replicate c.size 0) ≡ started c (b ++ replicate c.size 0) → a ≡ b
  one_register a b sa sb e =
      append_cancel_right a b (replicate c.size 0)
      (sym (rewound_started (16 + c.size) (step c) (feed c) (unstep c) (unfeed c) (steps c sound) sa) ∙ ap (rewound c) e ∙ rewound_started (16 + c.size) (step c) (feed c) (unstep c) (unfeed c) (steps c sound) sb)

  module _ {key iv s : List ℕ} (key_bytes : Bytes key) (iv_bytes : Bytes iv) (l : Load c key iv s) where
    pub key_words : State l.words (numbered key)
    key_words = numbered_state l.words key key_bytes l.key_long

    pub iv_words : State 4 (numbered iv)
    iv_words = numbered_state 4 iv iv_bytes l.iv_long

    pub register_state : State 16 (with_iv (expanded (numbered key)) (numbered iv))
    register_state = filled_state l.words (numbered key) (numbered iv) l.sizes key_words iv_words

    pub prepared_state : State (16 + c.size) (prepared c key iv)
    prepared_state = prepared_of l.words key iv l.sizes key_bytes iv_bytes l.key_long l.iv_long

    pub rewound_start : times 32 (unfeed c) (unstep c s) ≡ prepared c key iv
    rewound_start = ap (λ s. times 32 (unfeed c) (unstep c s)) l.starts ∙ rewound_started (16 + c.size) (step c) (feed c) (unstep c) (unfeed c) (steps c sound) prepared_state

    loaded_state : State (16 + c.size) s
    loaded_state = subst (State (16 + c.size)) (sym l.starts) (started_state (16 + c.size) (step c) (feed c) (unstep c) (unfeed c) (steps c sound) prepared_state)

  module _ {key iv key' iv' s : List ℕ} (kb : Bytes key) (ib : Bytes iv) (kb' : Bytes key') (ib' : Bytes iv') (l : Load c key iv s) (l' : Load c key' iv' s) where
    same : with_iv (expanded (numbered key)) (numbered iv) ≡ with_iv (expanded (numbered key')) (numbered iv')
    same = one_register (with_iv (expanded (numbered key)) (numbered iv)) (with_iv (expanded (numbered key')) (numbered iv')) (prepared_state kb ib l) (prepared_state kb' ib' l') (sym l.starts ∙ l'.starts)

    one_length : l'.words ≡ l.words → (key ≡ key') × (iv ≡ iv')
    one_length e =
        let long : length key' ≡ 4 * l.words = l'.key_long ∙ ap (λ n. 4 * n) e in
        let (k, v) = read_one l.words (numbered key) (numbered iv) (numbered key') (numbered iv') l.sizes (key_words kb ib l).count (numbered_state l.words key' kb' long).count (iv_words kb ib l).count (iv_words kb' ib' l').count same in
        (numbered_one l.words key key' kb kb' l.key_long long k, numbered_one 4 iv iv' ib ib' l.iv_long l'.iv_long v)

    load_one : (key ≡ key') × (iv ≡ iv')
    load_one =
        let k = (key_words kb ib l).count in
        let k' = (key_words kb' ib' l').count in
        ⊎_elim (λ e. ⊎_elim (λ e'. one_length (e' ∙ sym e)) (λ e'. absurd (lengths_apart (numbered key) (numbered iv) (numbered key') (numbered iv') (k ∙ e) (k' ∙ e') same)) l'.sizes)
        (λ e. ⊎_elim (λ e'. absurd (lengths_apart (numbered key') (numbered iv') (numbered key) (numbered iv) (k' ∙ e') (k ∙ e) (sym same))) (λ e'. one_length (e' ∙ sym e)) l'.sizes)
        l.sizes

  pub cipher_lawful : Lawful (cipher c)
  cipher_lawful = record {
    next_state = (steps c sound).step_state;
    back_state = (steps c sound).unstep_state;
    back_next = (steps c sound).unstep_step;
    next_back = (steps c sound).step_unstep;
    word_fits = keystream_fits c sound;
    load_state = λ r. loaded_state r.key_bytes r.iv_bytes (says r);
    load_one = λ r r'. load_one r.key_bytes r.iv_bytes r'.key_bytes r'.iv_bytes (says r) (says r');
    load_short = λ r. load_short (says r);
    fault_member = λ {key = key} {iv = iv} {f = f} e. plain_member f (faults key iv f e);
  }
