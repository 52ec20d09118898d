-- Lists of bytes and lists of words, one from the other. Assumes nothing.
use Rattle.std.proofs.Common.{◌≡◌, ℕ, zero, suc, ◌*◌, ◌/◌, ◌<◌, ◌≤◌, List, [], ◌∷◌, length, get_or, slice_index, slice_index_or, refl, ap, ap₂, arith}
use Rattle.std.specs.Simd.{first_chunks}
use Rattle.words.specs.Words.{Bytes, Words, word, words_bytes, words_of}
use Rattle.words.proofs.Words.{byte_0, byte_1, byte_2, byte_3, byte_below, word_bytes, word_below}

pub bytes_of_bytes : (ws : List ℕ) → Bytes (words_bytes ws)
bytes_of_bytes [] = tt
bytes_of_bytes (w ∷ ws) = (byte_below w 0, (byte_below w 1, (byte_below w 2, (byte_below w 3, bytes_of_bytes ws))))

pub length_bytes : (ws : List ℕ) → length (words_bytes ws) ≡ 4 * length ws
length_bytes [] = refl
length_bytes (w ∷ ws) = let e = length_bytes ws in omega arith

-- words of bytes of words are the words
pub words_of_bytes : (ws : List ℕ) → Words ws → words_of (words_bytes ws) ≡ ws
words_of_bytes [] fits = refl
words_of_bytes (w ∷ ws) fits = ap₂ ◌∷◌ (word_bytes w fits.0) (words_of_bytes ws fits.1)

pub words_fit : (bs : List ℕ) → Bytes bs → Words (words_of bs)
words_fit [] all = tt
words_fit (a ∷ []) all = tt
words_fit (a ∷ b ∷ []) all = tt
words_fit (a ∷ b ∷ c ∷ []) all = tt
words_fit (a ∷ b ∷ c ∷ d ∷ bs) (ha, (hb, (hc, (hd, rest)))) = (word_below a b c d ha hb hc hd, words_fit bs rest)

pub length_words : (n : ℕ) (bs : List ℕ) → length bs ≡ 4 * n → length (words_of bs) ≡ n
length_words zero [] h = refl
length_words (suc n) [] h = absurd (omega arith)
length_words zero (a ∷ bs) h = absurd (omega arith)
length_words (suc n) (a ∷ []) h = absurd (omega arith)
length_words (suc n) (a ∷ b ∷ []) h = absurd (omega arith)
length_words (suc n) (a ∷ b ∷ c ∷ []) h = absurd (omega arith)
length_words (suc n) (a ∷ b ∷ c ∷ d ∷ bs) h = ap suc (length_words n bs (omega arith))

-- bytes of words of bytes are the bytes, where these make whole words
pub bytes_of_words : (n : ℕ) (bs : List ℕ) → Bytes bs → length bs ≡ 4 * n → words_bytes (words_of bs) ≡ bs
bytes_of_words n [] all h = refl
bytes_of_words zero (a ∷ bs) all h = absurd (omega arith)
bytes_of_words (suc n) (a ∷ []) all h = absurd (omega arith)
bytes_of_words (suc n) (a ∷ b ∷ []) all h = absurd (omega arith)
bytes_of_words (suc n) (a ∷ b ∷ c ∷ []) all h = absurd (omega arith)
bytes_of_words (suc n) (a ∷ b ∷ c ∷ d ∷ bs) (ha, (hb, (hc, (hd, rest)))) h =
    let e0 = byte_0 a b c d ha hb hc hd in
    let e1 = byte_1 a b c d hb hc hd in
    let e2 = byte_2 a b c d hc hd in
    let e3 = byte_3 a b c d hd in
    let more = bytes_of_words n bs rest (omega arith) in
    cc

-- the word of chunk i of four bytes is word i
pub chunk_word : (n : ℕ) (bs : List ℕ) (i : ℕ) (c : List ℕ) → i < n → 4 * n ≤ length bs → c ≡ slice_index_or (first_chunks 4 n bs) i []
    → word (slice_index c 0) (slice_index c 1) (slice_index c 2) (slice_index c 3) ≡ get_or (words_of bs) i 0
chunk_word zero bs i c lt h e = absurd (omega arith)
chunk_word (suc n) [] i c lt h e = absurd (omega arith)
chunk_word (suc n) (b0 ∷ []) i c lt h e = absurd (omega arith)
chunk_word (suc n) (b0 ∷ b1 ∷ []) i c lt h e = absurd (omega arith)
chunk_word (suc n) (b0 ∷ b1 ∷ b2 ∷ []) i c lt h e = absurd (omega arith)
chunk_word (suc n) (b0 ∷ b1 ∷ b2 ∷ b3 ∷ bs) zero c lt h e = ap (λ c. word (slice_index c 0) (slice_index c 1) (slice_index c 2) (slice_index c 3)) e
chunk_word (suc n) (b0 ∷ b1 ∷ b2 ∷ b3 ∷ bs) (suc i) c lt h e = chunk_word n bs i c (omega arith) (omega arith) e

-- past the last whole word there is none
pub no_word : (bs : List ℕ) (i : ℕ) → length bs / 4 ≤ i → get_or (words_of bs) i 0 ≡ 0
no_word [] i h = refl
no_word (a ∷ []) i h = refl
no_word (a ∷ b ∷ []) i h = refl
no_word (a ∷ b ∷ c ∷ []) i h = refl
no_word (a ∷ b ∷ c ∷ d ∷ bs) zero h = absurd (omega arith)
no_word (a ∷ b ∷ c ∷ d ∷ bs) (suc i) h = no_word bs i (omega arith)
