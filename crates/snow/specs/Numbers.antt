-- Keys and IVs as numbered words, and back again; faults of generators that combine nothing. Assumes nothing.
use Rattle.std.specs.Prelude.{◌≡◌, ℕ, ◌*◌, ◌^◌, ◌<◌, ◌⊎◌, List, reverse, length, Err, refl}
use Rattle.std.proofs.Common.{sym, ap, subst, ◌∙◌, ⊎_elim, arith}
use Rattle.std.proofs.lemmas.List.{length-reverse, reverse-reverse}
use Rattle.generator.specs.declared.Fault.{Fault}
use Rattle.generator.specs.declared.Fault.TheVariants.{Key, Iv}
use Rattle.generator.specs.Refusals.{member}
use Rattle.generator.specs.Meaning.{Meaning, State, zeros}
use Rattle.generator.specs.Calls.{Loaded}
use Rattle.words.specs.Words.{Bytes, Words, words_bytes, words_of}
use Rattle.words.proofs.Words.{fits_reverse}
use Rattle.words.proofs.Spelled.{spell, spelled}
use Rattle.words.proofs.Bytes.{length_bytes, words_of_bytes, words_fit, length_words, bytes_of_words}
use Rattle.snow.specs.Register.{numbered}
use Rattle.snow.specs.Origins.{unnumbered}

pub numbered_state : (n : ℕ) (bs : List ℕ) → Bytes bs → length bs ≡ 4 * n → State n (numbered bs)
numbered_state n bs all len = record { count = length-reverse (words_of bs) ∙ length_words n bs len; fits = fits_reverse (2 ^ 32) (words_of bs) (words_fit bs all) }

-- numbered words, written out
pub numbered_spelled : (n : ℕ) (bs : List ℕ) → length bs ≡ 4 * n → numbered bs ≡ reverse (spell n 0 (words_of bs))
numbered_spelled n bs len = ap reverse (spelled n (words_of bs) (length_words n bs len))

pub unnumbered_numbered : (n : ℕ) (bs : List ℕ) → Bytes bs → length bs ≡ 4 * n → unnumbered (numbered bs) ≡ bs
unnumbered_numbered n bs all len = ap words_bytes (reverse-reverse (words_of bs)) ∙ bytes_of_words n bs all len

pub numbered_unnumbered : (ws : List ℕ) → Words ws → numbered (unnumbered ws) ≡ ws
numbered_unnumbered ws fits = ap reverse (words_of_bytes (reverse ws) (fits_reverse (2 ^ 32) ws fits)) ∙ reverse-reverse ws

pub length_unnumbered : (ws : List ℕ) → length (unnumbered ws) ≡ 4 * length ws
length_unnumbered ws = length_bytes (reverse ws) ∙ ap (λ n. 4 * n) (length-reverse ws)

-- equal numbered words come from equal bytes
pub numbered_one : (n : ℕ) (bs bs' : List ℕ) → Bytes bs → Bytes bs' → length bs ≡ 4 * n → length bs' ≡ 4 * n → numbered bs ≡ numbered bs' → bs ≡ bs'
numbered_one n bs bs' all all' len len' e = sym (unnumbered_numbered n bs all len) ∙ ap unnumbered e ∙ unnumbered_numbered n bs' all' len'

pub plain_member : (f : Fault) → (f ≡ Key 0) ⊎ (f ≡ Iv 0) → member f < 16
plain_member f = ⊎_elim (λ e. subst (λ x. member x < 16) (sym e) (omega arith)) (λ e. subst (λ x. member x < 16) (sym e) (omega arith))

-- a load that is refused, and leaves zero words
pub loaded_fault : (m : Meaning) (key iv after : List ℕ) (f : Fault) → m.load key iv ≡ Err f → after ≡ zeros m → Loaded m key iv (Err f) after
loaded_fault m key iv after f e z = rw (e, Loaded) (refl, z)
