-- Replies read back from bytes, with no knowledge of the orders. Assumes nothing.
use Rattle.std.specs.Prelude.{◌≡◌, ℕ, ◌+◌, ◌*◌, ◌/◌, ◌%◌, ◌^◌, cond, List, [], ◌∷◌, ◌++◌, length, Ok, Err, ◌==◌}
use Rattle.strips.specs.Orders.{kind}
use Rattle.words.specs.Words.{word_at}
use Rattle.strips.specs.Reading.{words_for}
use Rattle.strips.specs.Runs.{Finished}

-- what the first word of a reply says: the kind of the order that was accepted, or the number of the refused order's first word
pub data Heading : Type 0 where
  accepted_kind : ℕ → Heading
  refused_at : ℕ → Heading

-- kind 15 is a refusal
abbrev pub heading : ℕ → Heading
heading w = cond (w / 2 ^ 28 == 15) (refused_at (w % 2 ^ 16)) (accepted_kind (w / 2 ^ 28))

-- the bytes of the reply that begins with the word w
abbrev pub reply_size : ℕ → ℕ
reply_size w = cond (w / 2 ^ 28 == 15) 4 (4 + 4 * words_for (w % 2 ^ 28))

-- replies one behind the other, each as long as its first word says
pub data ReadBack : List ℕ → List Heading → Type 0 where
  nothing : ReadBack [] []
  reply : {rest : List ℕ} {hs : List Heading} (bytes : List ℕ) → length bytes ≡ reply_size (word_at bytes 0) → ReadBack rest hs → ReadBack (bytes ++ rest) (heading (word_at bytes 0) ∷ hs)

-- the heading that the reply to a finished order has
abbrev pub heading_of : Finished → Heading
heading_of f = elim f.answer [ Ok bytes ↦ accepted_kind (kind f.asked) | Err e ↦ refused_at f.place ]
