-- What is replied to an order. Assumes nothing.
use Rattle.std.specs.Prelude.{ℕ, ◌+◌, ◌-◌, ◌*◌, ◌^◌, List, ◌++◌, length, take, drop, replicate}
use Rattle.words.specs.Words.{bytes_of}
use Rattle.strips.specs.Orders.{Asked, ending, opening, applying, skipping, going_back, placing, naming, closing}
use Rattle.strips.specs.Reading.{words_for}

-- a refusal: kind 15, bits 27 to 20 its number, 19 to 16 the member, 15 to 0 the number of the order's first word
unfoldable pub refusal_reply : ℕ → ℕ → ℕ → List ℕ
refusal_reply number member place = bytes_of (15 * 2 ^ 28 + number * 2 ^ 20 + member * 2 ^ 16 + place)

-- so many bytes, filled with zeros to whole words
abbrev pub whole_words : List ℕ → List ℕ
whole_words bytes = bytes ++ replicate (4 * words_for (length bytes) - length bytes) 0

-- an accepted order: its kind over the count of reply bytes, and these
unfoldable pub accepted_reply : ℕ → List ℕ → List ℕ
accepted_reply k bytes = bytes_of (k * 2 ^ 28 + length bytes) ++ whole_words bytes

-- the bytes that the reply to an order takes where it is accepted; an origin counts with the longest key and IV
abbrev pub reply_room : Asked → ℕ
reply_room ending = 4
reply_room (opening key iv limit) = 4
reply_room (applying bytes) = 4 + 4 * words_for (length bytes)
reply_room (skipping n) = 4
reply_room (going_back n) = 4
reply_room placing = 12
reply_room naming = 516
reply_room closing = 4

-- a buffer with some bytes written from place `at` on
abbrev pub put_at : ℕ → List ℕ → List ℕ → List ℕ
put_at at bytes buffer = take at buffer ++ (bytes ++ drop (at + length bytes) buffer)
