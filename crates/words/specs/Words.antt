-- Bytes and words of 32 bits. Bytes become words, and words bytes, most significant byte first. Assumes nothing.
use Rattle.std.specs.Prelude.{ℕ, ◌+◌, ◌-◌, ◌*◌, ◌/◌, ◌%◌, ◌^◌, ◌<◌, List, [], ◌∷◌, ◌++◌, bit_xor, slice_index}

infixl 65 ◌⊕◌
-- exclusive or, bit by bit
abbrev pub ◌⊕◌ : ℕ → ℕ → ℕ
a ⊕ b = bit_xor a b

-- every element is below b
abbrev pub AllBelow : ℕ → List ℕ → Type 0
AllBelow b [] = Unit {0}
AllBelow b (x ∷ xs) = (x < b) × AllBelow b xs

abbrev pub Bytes : List ℕ → Type 0
Bytes xs = AllBelow 256 xs

abbrev pub Words : List ℕ → Type 0
Words xs = AllBelow (2 ^ 32) xs

-- the word of four bytes
abbrev pub word : ℕ → ℕ → ℕ → ℕ → ℕ
word a b c d = a * 16777216 + b * 65536 + c * 256 + d

-- byte i of a word, 0 the most significant
abbrev pub byte_of : ℕ → ℕ → ℕ
byte_of w i = w / 256 ^ (3 - i) % 256

-- the four bytes of a word
abbrev pub bytes_of : ℕ → List ℕ
bytes_of w = byte_of w 0 ∷ byte_of w 1 ∷ byte_of w 2 ∷ byte_of w 3 ∷ []

-- the bytes of a list of words
abbrev pub words_bytes : List ℕ → List ℕ
words_bytes [] = []
words_bytes (w ∷ ws) = bytes_of w ++ words_bytes ws

-- the words of a list of bytes, four after four; bytes that make no whole word are left out
abbrev pub words_of : List ℕ → List ℕ
words_of [] = []
words_of (a ∷ []) = []
words_of (a ∷ b ∷ []) = []
words_of (a ∷ b ∷ c ∷ []) = []
words_of (a ∷ b ∷ c ∷ d ∷ bs) = word a b c d ∷ words_of bs

-- word i of a list of bytes, and 0 past the last whole word
unfoldable pub word_at : List ℕ → ℕ → ℕ
word_at bytes i = slice_index (words_of bytes) i
