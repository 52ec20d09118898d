-- What a session holds, and the keystream from its position on. Assumes nothing.
use Rattle.std.specs.Prelude.{ℕ, ◌+◌, ◌-◌, ◌/◌, ◌%◌, ◌^◌, ◌≤◌, List, Some, None, Option}
use Rattle.words.specs.Words.{byte_of}
use Rattle.generator.specs.Meaning.{Meaning, times, zeros}
use Rattle.session.specs.declared.openings.Opening.{Opening}

-- the generator's state, and the position and the limit in bytes
pub record View : Type 0 where
  pub state : List ℕ
  pub position : ℕ
  pub limit : ℕ

-- a generator's state and what lasts of an opening, as a view; limit 0 where there is none
abbrev pub seen : List ℕ → Option Opening → View
seen state (Some o) = record { state = state; position = o.position; limit = o.limit }
seen state None = record { state = state; position = 0; limit = 0 }

-- what holds of every session: its position is within its limit, and no limit is above 2^52 bytes
abbrev pub Bounded : View → Type 0
Bounded v = (v.position ≤ v.limit) × (v.limit ≤ 2 ^ 52)

-- a closed session has zero words, position 0 and limit 0
abbrev pub shut : Meaning → View
shut m = record { state = zeros m; position = 0; limit = 0 }

-- the same limit, at another state and position
abbrev pub moved : View → List ℕ → ℕ → View
moved v s p = record { state = s; position = p; limit = v.limit }

-- a state at a position of the keystream, where no limit matters
abbrev pub placed : List ℕ → ℕ → View
placed s p = record { state = s; position = p; limit = 0 }

-- The state where the position is n bytes further on. A word has four bytes, so the generator steps once for each word boundary passed.
abbrev pub ahead : Meaning → View → ℕ → List ℕ
ahead m v n = times ((v.position + n) / 4 - v.position / 4) m.next v.state

-- the state where the position is n bytes further back
abbrev pub behind : Meaning → View → ℕ → List ℕ
behind m v n = times (v.position / 4 - (v.position - n) / 4) m.back v.state

-- the keystream byte n places on from the position
abbrev pub stream_byte : Meaning → View → ℕ → ℕ
stream_byte m v n = byte_of (m.word (ahead m v n)) ((v.position + n) % 4)
