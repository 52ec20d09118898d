-- What a session answers to an order, by the contracts of its calls. Assumes nothing.
use Rattle.std.specs.Prelude.{ℕ, ◌/◌, ◌%◌, ◌^◌, ◌≤◌, List, [], ◌∷◌, ◌++◌, length, take, replicate, Ok, Err, Result}
use Rattle.words.specs.Words.{Bytes}
use Rattle.generator.specs.Meaning.{Meaning}
use Rattle.session.specs.declared.refusals.Refusal.{Refusal}
use Rattle.session.specs.View.{View}
use Rattle.session.specs.Calls.{Opened, Applied, Skipped, SteppedBack, PositionOf, OriginOf, Closed}
use Rattle.strips.specs.Orders.{Asked, ending, opening, applying, skipping, going_back, placing, naming, closing}

-- the reply's bytes where the session accepted, or its refusal
abbrev pub with_bytes : Result Unit Refusal → List ℕ → Result (List ℕ) Refusal
with_bytes (Ok tt) bytes = Ok bytes
with_bytes (Err e) bytes = Err e

-- a number in eight bytes, the most significant first
abbrev pub eight_bytes : ℕ → List ℕ
eight_bytes n =
    (n / 256 ^ 7 % 256) ∷ (n / 256 ^ 6 % 256) ∷ (n / 256 ^ 5 % 256) ∷ (n / 256 ^ 4 % 256) ∷ (n / 256 ^ 3 % 256) ∷ (n / 256 ^ 2 % 256) ∷ (n / 256 % 256) ∷ (n % 256) ∷ []

abbrev pub place_bytes : Result ℕ Refusal → Result (List ℕ) Refusal
place_bytes (Ok n) = Ok (eight_bytes n)
place_bytes (Err e) = Err e

-- the lengths of a key and an IV in a byte each, and both from the front of two buffers
abbrev pub name_bytes : Result (ℕ × ℕ) Refusal → List ℕ → List ℕ → Result (List ℕ) Refusal
name_bytes (Ok n) key iv = Ok (n.0 ∷ n.1 ∷ (take n.0 key ++ take n.1 iv))
name_bytes (Err e) key iv = Err e

-- An order put to the session v: the bytes of its reply, or the refusal, and the session after it. An origin is asked for with two buffers of
-- 255 zeros. A session is not asked about the end of a strip.
pub data Answered (m : Meaning) (v : View) : Asked → Result (List ℕ) Refusal → View → Type 0 where
  ends : Answered m v ending (Ok []) v
  opens : {w : View} (key iv : List ℕ) (limit : ℕ) (r : Result Unit Refusal) → Bytes key → Bytes iv → Opened m v key iv limit r w → Answered m v (opening key iv limit) (with_bytes r []) w
  applies : {w : View} (bytes after : List ℕ) (r : Result Unit Refusal) → Applied m v 0 (length bytes) bytes r w after → Answered m v (applying bytes) (with_bytes r after) w
  skips : {w : View} (n : ℕ) (r : Result Unit Refusal) → Skipped m v n r w → Answered m v (skipping n) (with_bytes r []) w
  steps_back : {w : View} (n : ℕ) (r : Result Unit Refusal) → SteppedBack m v n r w → Answered m v (going_back n) (with_bytes r []) w
  asks_place : (r : Result ℕ Refusal) → PositionOf v r → Answered m v placing (place_bytes r) v
  asks_origin : (r : Result (ℕ × ℕ) Refusal) (key iv : List ℕ) → OriginOf m v (replicate 255 0) (replicate 255 0) r key iv → Answered m v naming (name_bytes r key iv) v
  closes : {w : View} (r : Result Unit Refusal) → Closed m v r w → Answered m v closing (with_bytes r []) w

-- the reply's bytes as the code has them, at the front of a buffer
abbrev pub in_buffer : Result ℕ Refusal → List ℕ → Result (List ℕ) Refusal
in_buffer (Ok n) buffer = Ok (take n buffer)
in_buffer (Err e) buffer = Err e

-- a reply of n bytes at most
abbrev pub Sized : ℕ → Result ℕ Refusal → Type 0
Sized n (Ok count) = count ≤ n
Sized n (Err e) = Unit {0}
