-- How an order is read from a strip, a list of bytes that holds a recorded list of session calls as words. A word's top four bits are its
-- kind, and its low 28 say more. The tests stand in their order of checking. Assumes nothing.
use Rattle.std.specs.Prelude.{ℕ, ◌+◌, ◌-◌, ◌*◌, ◌/◌, ◌%◌, ◌^◌, ◌<◌, ◌≤◌, Bool, cond, ◌&&◌, List, length, take, drop, Ok, Err, Result, ◌==◌, nat_le, nat_lt}
use Rattle.std.specs.List.{list_all}
use Rattle.words.specs.Words.{word_at}
use Rattle.strips.specs.declared.orders.Entry.{Entry}
use Rattle.strips.specs.declared.stops.Stop.{Stop}
use Rattle.strips.specs.declared.stops.Stop.TheVariants.{CutShort, BadWord}
use Rattle.strips.specs.Orders.{Asked, ending, opening, applying, skipping, going_back, placing, naming, closing, asked}

-- the words that hold n bytes
abbrev pub words_for : ℕ → ℕ
words_for n = (n + 3) / 4

-- n bytes of a strip, from word i on
abbrev pub part : List ℕ → ℕ → ℕ → List ℕ
part strip i n = take n (drop (4 * i) strip)

abbrev pub all_zero : List ℕ → Bool
all_zero bytes = list_all (λ b. b == 0) bytes

-- what fills that part to whole words is zeros
unfoldable pub filled : List ℕ → ℕ → ℕ → Bool
filled strip i n = all_zero (take (4 * words_for n - n) (drop (4 * i + n) strip))

-- an order with its size in words, or why none is read
pub data Reading : Type 0 where
  order : Asked → ℕ → Reading
  stop : Stop → Reading

-- an order of one word with no bits
abbrev pub bare : Asked → ℕ → Reading
bare q bits = cond (bits == 0) (order q 1) (stop BadWord)

-- an order of so many words, with what fills its parts
abbrev pub whole : List ℕ → ℕ → ℕ → Bool → Asked → Reading
whole strip place size zeros q = cond (nat_lt (length strip / 4) (place + size)) (stop CutShort) (cond zeros (order q size) (stop BadWord))

-- bits 27 to 20 are the length of the key, 19 to 12 that of the IV; a limit, the key and the IV follow
unfoldable pub reads_opening : List ℕ → ℕ → ℕ → Reading
reads_opening strip place bits =
    let k : ℕ = bits / 2 ^ 20 in
    let n : ℕ = bits / 4096 % 256 in
    let key_at : ℕ = place + 2 in
    let iv_at : ℕ = place + 2 + words_for k in
    whole strip place (2 + words_for k + words_for n) (filled strip key_at k && filled strip iv_at n) (opening (part strip key_at k) (part strip iv_at n) (word_at strip (place + 1)))

-- the bits are how many bytes follow
unfoldable pub reads_payload : List ℕ → ℕ → ℕ → Reading
reads_payload strip place bits = whole strip place (1 + words_for bits) (filled strip (place + 1) bits) (applying (part strip (place + 1) bits))

-- an order by its kind and bits
abbrev pub by_kind : List ℕ → ℕ → ℕ → ℕ → Reading
by_kind strip place k bits =
    cond (k == 0) (bare ending bits)
    (cond (k == 1) (cond (bits % 4096 == 0) (reads_opening strip place bits) (stop BadWord))
    (cond (k == 2) (reads_payload strip place bits)
    (cond (k == 3) (order (skipping bits) 1)
    (cond (k == 4) (order (going_back bits) 1)
    (cond (k == 5) (bare placing bits)
    (cond (k == 6) (bare naming bits)
    (cond (k == 7) (bare closing bits)
    (stop BadWord))))))))

-- what stands at word `place` of a strip
abbrev pub reads : List ℕ → ℕ → Reading
reads strip place =
    cond (nat_le (length strip / 4) place) (stop CutShort) (by_kind strip place (word_at strip place / 2 ^ 28) (word_at strip place % 2 ^ 28))

-- what the code answers, as a reading
abbrev pub reading : Result Entry Stop → Reading
reading (Ok e) = order (asked e.order) e.words
reading (Err s) = stop s

-- a key or a payload of at most n bytes
abbrev pub Small : ℕ → Asked → Type 0
Small n ending = Unit {0}
Small n (opening key iv limit) = length key ≤ n
Small n (applying bytes) = length bytes ≤ n
Small n (skipping k) = Unit {0}
Small n (going_back k) = Unit {0}
Small n placing = Unit {0}
Small n naming = Unit {0}
Small n closing = Unit {0}

-- an order that was read lies within the strip
abbrev pub Within : List ℕ → ℕ → Result Entry Stop → Type 0
Within strip place (Ok e) = (place + e.words ≤ length strip / 4) × (0 < e.words) × Small (length strip) (asked e.order)
Within strip place (Err s) = Unit {0}
