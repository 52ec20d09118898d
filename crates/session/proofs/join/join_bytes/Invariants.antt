use Rattle.std.proofs.Common.{◌≡◌, ℕ, ◌+◌, ◌%◌, ◌<◌, ◌≤◌, get_or}
use lib.Bits.{bit_xor}
use Rattle.session.specs.View.{placed, ahead, stream_byte}
use Rattle.session.proofs.join.join_bytes.Given as goal

abbrev pub invariant-loop-byte : goal.invariant-loop-byte
invariant-loop-byte g l =
    (l.place ≡ (l.from + l.byte-index) % 4)
    × (g.G.Generator.state l.generator ≡ ahead g.G.Generator.meaning (placed (g.G.Generator.state l.initial.generator) l.from) l.byte-index)
    × (l.word ≡ g.G.Generator.meaning.word (g.G.Generator.state l.generator))
    × ((k : ℕ) → k < l.byte-index → get_or l.bytes k 0 ≡ bit_xor (get_or l.initial.bytes k 0) (stream_byte g.G.Generator.meaning (placed (g.G.Generator.state l.initial.generator) l.from) k))
    × ((k : ℕ) → l.byte-index ≤ k → get_or l.bytes k 0 ≡ get_or l.initial.bytes k 0)
