-- The bare register keeps the laws of generators. Assumes nothing.
use Rattle.std.specs.Prelude.{◌≡◌, ℕ, ◌*◌, ◌^◌, ◌<◌, ◌≤◌, ◌⊎◌, slice_index, List, [], ◌∷◌, ◌++◌, reverse, length, drop, Ok, Err, refl}
use Rattle.std.proofs.Common.{sym, ap, subst, ◌∙◌, arith, eq-eqb}
use Rattle.std.proofs.lemmas.Bool.Decides.{nat_tests}
use Rattle.std.proofs.lemmas.List.{nil_from_length}
use Rattle.generator.specs.declared.Fault.{Fault}
use Rattle.generator.specs.declared.Fault.TheVariants.{Key, Iv}
use Rattle.generator.specs.Meaning.{State, Lawful, Reaches}
use Rattle.generator.specs.Calls.{Named}
use Rattle.words.specs.Words.{words_bytes}
use Rattle.words.proofs.Bytes.{bytes_of_bytes, length_bytes}
use Rattle.words.proofs.Words.{fits_append, below_everywhere, all_from_each}
use Rattle.words.proofs.Spelled.{spell, fits_spell}
use Rattle.fields.specs.Alpha.{over_alpha}
use Rattle.snow.specs.Register.{at, feedback, shifted, unshifted, numbered, register_load, register}
use Rattle.snow.specs.Origins.{unnumbered}
use Rattle.snow.specs.Numbers.{numbered_state, numbered_one, plain_member, numbered_unnumbered, length_unnumbered}
use Rattle.snow.specs.ShiftLaws.{feedback_below, dropped_below, plain_back, plain_again, words_of_state}

-- sixteen words, from a bound on each
pub register_fits : (ws : List ℕ) → length ws ≡ 16 → ((i : ℕ) → i < 16 → slice_index ws i < 2 ^ 32) → State 16 ws
register_fits ws len each = record { count = len; fits = all_from_each (2 ^ 32) ws (below_everywhere (2 ^ 32) 16 ws (omega arith) len each) }

register_next_state : {s : List ℕ} → State 16 s → State 16 (register.next s)
register_next_state {s} st =
    let (w, known) = words_of_state 16 (λ s. State 16 (shifted s (feedback s))) s st in
    known (record { count = refl; fits = fits_append (2 ^ 32) (spell 15 1 s) (feedback s ∷ []) (fits_spell (2 ^ 32) 15 1 s w) (feedback_below (at s 0) (at s 2) (at s 11) (w 0) (w 2) (w 11), tt) })

register_back_state : {s : List ℕ} → State 16 s → State 16 (register.back s)
register_back_state {s} st =
    let (w, known) = words_of_state 16 (λ s. State 16 (unshifted s 0)) s st in
    known (record { count = refl; fits = (dropped_below (at s 15) 0 (at s 1) (at s 10) (w 15) (omega arith) (w 1) (w 10), fits_spell (2 ^ 32) 15 0 s w) })

register_back_next : {s : List ℕ} → State 16 s → register.back (register.next s) ≡ s
register_back_next {s} st =
    let (w, known) = words_of_state 16 (λ s. unshifted (shifted s (feedback s)) 0 ≡ s) s st in
    known (ap (λ x. x ∷ spell 15 1 s) (plain_back (at s 0) (at s 2) (over_alpha (at s 11)) (w 0)))

register_next_back : {s : List ℕ} → State 16 s → register.next (register.back s) ≡ s
register_next_back {s} st =
    let (w, known) = words_of_state 16 (λ s. shifted (unshifted s 0) (feedback (unshifted s 0)) ≡ s) s st in
    known (ap (λ x. spell 15 0 s ++ x ∷ []) (plain_again (at s 15) (at s 1) (at s 10) (w 15) (w 1) (w 10)))

-- what an accepted load says
says : {key iv s : List ℕ} → Reaches register key iv 0 s → (length key ≡ 64) × (length iv ≡ 0) × (s ≡ numbered key)
says {key} {iv} {s} r = go key iv s (r.loads ∙ ap Ok r.arrives)
  where
    go : (key iv s : List ℕ) → register_load key iv ≡ Ok s → (length key ≡ 64) × (length iv ≡ 0) × (s ≡ numbered key)
    go key iv s e = grind (arith, nat_tests)

faults : (key iv : List ℕ) (f : Fault) → register_load key iv ≡ Err f → (f ≡ Key 0) ⊎ (f ≡ Iv 0)
faults key iv f e = grind (arith, nat_tests)

pub register_lawful : Lawful register
register_lawful = record {
  next_state = register_next_state;
  back_state = register_back_state;
  back_next = register_back_next;
  next_back = register_next_back;
  word_fits = λ {s} st. (words_of_state 16 (λ s. Unit {0}) s st).0 0;
  load_state = λ {key = key} r. subst (State 16) (sym (says r).2) (numbered_state 16 key r.key_bytes (says r).0);
  load_one = λ {key = key} {iv = iv} {key' = key'} {iv' = iv'} r r'.
      (numbered_one 16 key key' r.key_bytes r'.key_bytes (says r).0 (says r').0 (sym (says r).2 ∙ (says r').2), nil_from_length iv (says r).1 ∙ sym (nil_from_length iv' (says r').1));
  load_short = λ r. (omega (arith, (says r).0), omega (arith, (says r).1));
  fault_member = λ {key = key} {iv = iv} {f = f} e. plain_member f (faults key iv f e);
}

-- what `origin` writes and answers
pub register_named : (ws key iv after : List ℕ) → State 16 ws → 255 ≤ length key → 255 ≤ length iv → after ≡ words_bytes (reverse ws) ++ drop (4 * length (reverse ws)) key
    → Named register 0 ws key iv (Ok (64, 0)) after iv
register_named ws key iv after st long long' e =
    let count : length (unnumbered ws) ≡ 64 = length_unnumbered ws ∙ ap (λ n. 4 * n) st.count in (
      (long, long'),
      (
        unnumbered ws,
        [],
        record {
          key_bytes = bytes_of_bytes (reverse ws);
          iv_bytes = tt;
          start = ws;
          loads = rw (eq-eqb (length (unnumbered ws)) 64 count) (ap Ok (numbered_unnumbered ws st.fits));
          arrives = refl;
        },
        ap (λ n. (n, 0)) (sym count),
        e ∙ ap (λ n. unnumbered ws ++ drop n key) (sym (length_bytes (reverse ws))),
        refl,
      ),
    )
