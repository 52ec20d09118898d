-- Every other word of a lawful generator is a lawful generator. Assumes nothing.
use Rattle.std.specs.Prelude.{◌≡◌, ℕ, zero, suc, ◌*◌, List, Ok, Err, Result, refl}
use Rattle.std.proofs.Common.{ap, ◌∙◌, arith}
use Rattle.generator.specs.declared.OriginFault.{OriginFault}
use Rattle.generator.specs.declared.OriginFault.TheVariants.{ShortBuffer, NoOrigin}
use Rattle.generator.specs.Meaning.{Meaning, Lawful, Reaches, times}
use Rattle.generator.specs.Calls.{Named}
use Rattle.layers.specs.EveryOther.{every_other}
use Rattle.layers.specs.Piles.{stream}

-- both reach the same states at once
above : (m : Meaning) {key iv s : List ℕ} → Reaches m key iv 0 s → Reaches (every_other m) key iv 0 s
above m r = record { key_bytes = r.key_bytes; iv_bytes = r.iv_bytes; start = r.start; loads = r.loads; arrives = r.arrives }

below : (m : Meaning) {key iv s : List ℕ} → Reaches (every_other m) key iv 0 s → Reaches m key iv 0 s
below m r = record { key_bytes = r.key_bytes; iv_bytes = r.iv_bytes; start = r.start; loads = r.loads; arrives = r.arrives }

pub every_other_named : (m : Meaning) (s key iv : List ℕ) (r : Result (ℕ × ℕ) OriginFault) (key' iv' : List ℕ) → Named m 0 s key iv r key' iv' → Named (every_other m) 0 s key iv r key' iv'
every_other_named m s key iv (Ok lengths) key' iv' n =
    (n.0, (n.1.0, n.1.1, above m n.1.2, n.1.3, n.1.4, n.1.5))
every_other_named m s key iv (Err NoOrigin) key' iv' n = (n.0, λ k i r. n.1 k i (below m r), n.2, n.3)
every_other_named m s key iv (Err ShortBuffer) key' iv' n = n

pub every_other_lawful : (m : Meaning) → Lawful m → Lawful (every_other m)
every_other_lawful m l = record {
  next_state = λ st. l.next_state (l.next_state st);
  back_state = λ st. l.back_state (l.back_state st);
  back_next = λ st. ap m.back (l.back_next (l.next_state st)) ∙ l.back_next st;
  next_back = λ st. ap m.next (l.next_back (l.back_state st)) ∙ l.next_back st;
  word_fits = l.word_fits;
  load_state = λ r. l.load_state (below m r);
  load_one = λ r r'. l.load_one (below m r) (below m r');
  load_short = λ r. l.load_short (below m r);
  fault_member = l.fault_member;
}

twice : (m : Meaning) (s : List ℕ) (n : ℕ) → times n (every_other m).next s ≡ times (2 * n) m.next s
twice m s zero = refl
twice m s (suc n) =
    ap (λ t. m.next (m.next t)) (twice m s n)
    ∙ ap (λ k. times k m.next s) (let more : suc (suc (2 * n)) ≡ 2 * suc n = omega arith in more)

pub every_other_words : (m : Meaning) (s : List ℕ) (n : ℕ) → stream (every_other m) s n ≡ stream m s (2 * n)
every_other_words m s n = ap m.word (twice m s n)
