-- What loading and origin answer and leave. Assumes nothing.
use Rattle.std.specs.Prelude.{◌≡◌, ℕ, ◌<◌, ◌≤◌, ◌⊎◌, List, ◌++◌, length, drop, Ok, Err, Result}
use Rattle.generator.specs.declared.Fault.{Fault}
use Rattle.generator.specs.declared.OriginFault.{OriginFault}
use Rattle.generator.specs.declared.OriginFault.TheVariants.{ShortBuffer, NoOrigin}
use Rattle.generator.specs.Meaning.{Meaning, Reaches, zeros}

-- what loading answers, and the state that it leaves
abbrev pub Loaded : Meaning → List ℕ → List ℕ → Result Unit Fault → List ℕ → Type 0
Loaded m key iv r after = elim (m.load key iv) [ Ok s ↦ (r ≡ Ok tt) × (after ≡ s) | Err f ↦ (r ≡ Err f) × (after ≡ zeros m) ]

-- `part` at the front of a buffer, with the bytes behind it as they were
abbrev pub AtFront : List ℕ → List ℕ → List ℕ → Type 0
AtFront part before after = after ≡ part ++ drop (length part) before

-- both buffers hold 255 bytes or more
abbrev pub Roomy : List ℕ → List ℕ → Type 0
Roomy key iv = (255 ≤ length key) × (255 ≤ length iv)

-- one of the two holds fewer
abbrev pub Cramped : List ℕ → List ℕ → Type 0
Cramped key iv = (length key < 255) ⊎ (length iv < 255)

-- The answer that names the key and the IV which reach s in n words, written to the front of two buffers. Where there are none, and where a
-- buffer is short, nothing is written.
abbrev pub Named : Meaning → ℕ → List ℕ → List ℕ → List ℕ → Result (ℕ × ℕ) OriginFault → List ℕ → List ℕ → Type 0
Named m n s key_before iv_before (Ok lengths) key_after iv_after =
    Roomy key_before iv_before
    × ((key : List ℕ) × (iv : List ℕ) × Reaches m key iv n s × (lengths ≡ (length key, length iv)) × AtFront key key_before key_after × AtFront iv iv_before iv_after)
Named m n s key_before iv_before (Err NoOrigin) key_after iv_after =
    Roomy key_before iv_before × ((key iv : List ℕ) → Reaches m key iv n s → ⊥) × (key_after ≡ key_before) × (iv_after ≡ iv_before)
Named m n s key_before iv_before (Err ShortBuffer) key_after iv_after =
    Cramped key_before iv_before × (key_after ≡ key_before) × (iv_after ≡ iv_before)
