-- Labels of the words of a key and an IV. Assumes nothing.
use Rattle.std.specs.Prelude.{◌≡◌, ℕ, ◌+◌, ◌-◌, ◌*◌, ◌/◌, true, cond, List, [], ◌∷◌, length, take, drop, Ok, Err, Result, ◌==◌, nat_lt}
use Rattle.std.specs.Borrow.{Bor}
use Rattle.words.specs.Words.{words_of}
use Rattle.snow.specs.Register.{at, numbered}
use Rattle.snow.specs.declared.labels.LabelFault.{LabelFault}
use Rattle.snow.specs.declared.labels.LabelFault.TheVariants.{KeyLength, IvLength, NoSuchNumber}

-- the number by which a refused label is known
abbrev pub label_number : LabelFault → ℕ
label_number KeyLength = 3
label_number IvLength = 4
label_number NoSuchNumber = 13

-- how many words a key or an IV has
abbrev pub words_in : List ℕ → ℕ
words_in bytes = length bytes / 4

-- where word i begins: the bytes have the highest word first
abbrev pub place : List ℕ → ℕ → ℕ
place bytes i = 4 * (words_in bytes - 1 - i)

-- a part is the four bytes of word i, and its word is the one that loading takes as word i
abbrev pub Part : List ℕ → ℕ → List ℕ → Type 0
Part bytes i part = (part ≡ take 4 (drop (place bytes i) bytes)) × (words_of part ≡ at (numbered bytes) i ∷ [])

-- a label is answered by word i of some bytes
abbrev pub Answered : List ℕ → ℕ → Result (Bor (List ℕ)) LabelFault → Type 0
Answered bytes i (Ok part) = Part bytes i part.now
Answered bytes i (Err fault) = ⊥

-- A label is the number under which a word of a key or an IV is asked for: first the words of a key of 16 or 32 bytes, k0 onward, then those of
-- an IV of 16 bytes, IV0 to IV3.
abbrev pub Labelled : List ℕ → List ℕ → ℕ → Result (Bor (List ℕ)) LabelFault → Type 0
Labelled key iv number r =
    cond (cond (length key == 16) true (length key == 32))
    (cond (length iv == 16)
    (cond (nat_lt number (words_in key)) (Answered key number r)
    (cond (nat_lt number (words_in key + 4)) (Answered iv (number - words_in key) r)
    (r ≡ Err NoSuchNumber)))
    (r ≡ Err IvLength))
    (r ≡ Err KeyLength)
