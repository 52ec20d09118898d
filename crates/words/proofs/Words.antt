-- Words by their bytes. Assumes nothing.
use Rattle.std.proofs.Common.{◌≡◌, ℕ, zero, suc, ◌+◌, ◌*◌, ◌/◌, ◌%◌, ◌^◌, ◌<◌, List, [], ◌∷◌, ◌++◌, replicate, reverse, length, get_or, take, drop, sym, refl, ap, ◌∙◌, subst, ap₂, ⊎_elim, arith}
use mathlib.Core.List.{reverse_aux}
use native.Mathlib.Nat.{div-div-eq-div-mul}
use lib.Bits.{bit_xor, bit_or, xor_block, or_shifted}
use Rattle.std.proofs.lemmas.List.{get_or_past}
use Rattle.std.proofs.lemmas.Bool.{cases_lt}
use Rattle.words.specs.Words.{AllBelow, word, byte_of, bytes_of}

-- the word of four bytes, by one byte after the other
horner : (a b c d : ℕ) → word a b c d ≡ ((a * 256 + b) * 256 + c) * 256 + d
horner a b c d = omega arith

pub xor_words : (a b c d a' b' c' d' : ℕ) → b < 256 → c < 256 → d < 256 → b' < 256 → c' < 256 → d' < 256
    → bit_xor (word a b c d) (word a' b' c' d') ≡ word (bit_xor a a') (bit_xor b b') (bit_xor c c') (bit_xor d d')
xor_words a b c d a' b' c' d' hb hc hd hb' hc' hd' =
    let e = xor_block 8 ((a * 256 + b) * 256 + c) ((a' * 256 + b') * 256 + c') d d' hd hd' in
    let f = xor_block 8 (a * 256 + b) (a' * 256 + b') c c' hc hc' in
    let g = xor_block 8 a a' b b' hb hb' in
    let p = horner a b c d in
    let q = horner a' b' c' d' in
    let r = horner (bit_xor a a') (bit_xor b b') (bit_xor c c') (bit_xor d d') in
    rw (p, q) (e ∙ ap (λ x. x * 256 + bit_xor d d') f ∙ ap (λ x. (x * 256 + bit_xor c c') * 256 + bit_xor d d') g ∙ sym r)

pub words_same : {a b c d a' b' c' d' : ℕ} → a ≡ a' → b ≡ b' → c ≡ c' → d ≡ d' → word a b c d ≡ word a' b' c' d'
words_same e f g h = ap₂ ◌+◌ (ap₂ ◌+◌ (ap₂ ◌+◌ (ap (λ x. x * 16777216) e) (ap (λ x. x * 65536) f)) (ap (λ x. x * 256) g)) h

pub word_below : (a b c d : ℕ) → a < 256 → b < 256 → c < 256 → d < 256 → word a b c d < 2 ^ 32
word_below a b c d ha hb hc hd = omega arith

pub byte_below : (w i : ℕ) → byte_of w i < 256
byte_below w i = omega arith

pub byte_0 : (a b c d : ℕ) → a < 256 → b < 256 → c < 256 → d < 256 → byte_of (word a b c d) 0 ≡ a
byte_0 a b c d ha hb hc hd = omega arith

pub byte_1 : (a b c d : ℕ) → b < 256 → c < 256 → d < 256 → byte_of (word a b c d) 1 ≡ b
byte_1 a b c d hb hc hd = omega arith

pub byte_2 : (a b c d : ℕ) → c < 256 → d < 256 → byte_of (word a b c d) 2 ≡ c
byte_2 a b c d hc hd = omega arith

pub byte_3 : (a b c d : ℕ) → d < 256 → byte_of (word a b c d) 3 ≡ d
byte_3 a b c d hd = omega arith

pub byte_low : (w : ℕ) → w % 256 ≡ byte_of w 3
byte_low w = omega arith

-- the bytes of a word, as `to_be_bytes` answers them
pub be_bytes : (w : ℕ) → byte_of w 0 ∷ byte_of w 1 ∷ byte_of w 2 ∷ (w % 256) ∷ [] ≡ bytes_of w
be_bytes w = ap (λ b. byte_of w 0 ∷ byte_of w 1 ∷ byte_of w 2 ∷ b ∷ []) (byte_low w)

-- a word is the word of its bytes
pub word_bytes : (w : ℕ) → w < 2 ^ 32 → word (byte_of w 0) (byte_of w 1) (byte_of w 2) (byte_of w 3) ≡ w
word_bytes w below =
    let whole : w / 1 ≡ w = omega arith in
    rw whole (digits w (w / 256) (w / 65536) (w / 16777216) refl (div-div-eq-div-mul w 256 256) (div-div-eq-div-mul w 65536 256) (omega arith))
  where
    last : (w b c d x y z u : ℕ) → w ≡ 256 * b + x → b ≡ 256 * c + y → c ≡ 256 * d + z → u ≡ d → word u z y x ≡ w
    last w b c d x y z u one two three four = omega arith

    digits : (w b c d : ℕ) → w / 256 ≡ b → b / 256 ≡ c → c / 256 ≡ d → d < 256 → word (d % 256) (c % 256) (b % 256) (w % 256) ≡ w
    digits w b c d e e' e'' small =
        let one : w ≡ 256 * b + w % 256 = omega arith in
        let two : b ≡ 256 * c + b % 256 = omega arith in
        let three : c ≡ 256 * d + c % 256 = omega arith in
        let four : d % 256 ≡ d = omega arith in
        last w b c d (w % 256) (b % 256) (c % 256) (d % 256) one two three four

-- an element of a list that is below b throughout; past the end it is 0
pub at_below : (b : ℕ) (xs : List ℕ) → 0 < b → AllBelow b xs → (i : ℕ) → get_or xs i 0 < b
at_below b [] pos all i = pos
at_below b (x ∷ xs) pos all zero = all.0
at_below b (x ∷ xs) pos all (suc i) = at_below b xs pos all.1 i

-- a word turned left by one, two and three bytes
pub turn_8 : (a b c d : ℕ) → a < 256 → b < 256 → c < 256 → d < 256 → bit_or (word a b c d * 256 % 4294967296) (word a b c d / 16777216) ≡ word b c d a
turn_8 a b c d ha hb hc hd =
    let e : word a b c d * 256 % 4294967296 ≡ (b * 65536 + c * 256 + d) * 2 ^ 8 = omega arith in
    let f : word a b c d / 16777216 ≡ a = omega arith in
    rw (e, f) (or_shifted (b * 65536 + c * 256 + d) 8 a ha ∙ omega arith)

pub turn_16 : (a b c d : ℕ) → a < 256 → b < 256 → c < 256 → d < 256 → bit_or (word a b c d * 65536 % 4294967296) (word a b c d / 65536) ≡ word c d a b
turn_16 a b c d ha hb hc hd =
    let e : word a b c d * 65536 % 4294967296 ≡ (c * 256 + d) * 2 ^ 16 = omega arith in
    let f : word a b c d / 65536 ≡ a * 256 + b = omega arith in
    rw (e, f) (or_shifted (c * 256 + d) 16 (a * 256 + b) (omega arith) ∙ omega arith)

pub turn_24 : (a b c d : ℕ) → a < 256 → b < 256 → c < 256 → d < 256 → bit_or (word a b c d * 16777216 % 4294967296) (word a b c d / 256) ≡ word d a b c
turn_24 a b c d ha hb hc hd =
    let e : word a b c d * 16777216 % 4294967296 ≡ d * 2 ^ 24 = omega arith in
    let f : word a b c d / 256 ≡ a * 65536 + b * 256 + c = omega arith in
    rw (e, f) (or_shifted d 24 (a * 65536 + b * 256 + c) (omega arith) ∙ omega arith)

-- what is below b throughout stays so where lists are cut, joined and reversed
pub fits_take : (b n : ℕ) (xs : List ℕ) → AllBelow b xs → AllBelow b (take n xs)
fits_take b zero xs h = tt
fits_take b (suc n) [] h = tt
fits_take b (suc n) (x ∷ xs) h = (h.0, fits_take b n xs h.1)

pub fits_drop : (b n : ℕ) (xs : List ℕ) → AllBelow b xs → AllBelow b (drop n xs)
fits_drop b zero xs h = h
fits_drop b (suc n) [] h = tt
fits_drop b (suc n) (x ∷ xs) h = fits_drop b n xs h.1

pub fits_append : (b : ℕ) (xs ys : List ℕ) → AllBelow b xs → AllBelow b ys → AllBelow b (xs ++ ys)
fits_append b [] ys hx hy = hy
fits_append b (x ∷ xs) ys hx hy = (hx.0, fits_append b xs ys hx.1 hy)

fits_reverse_onto : (b : ℕ) (xs ys : List ℕ) → AllBelow b xs → AllBelow b ys → AllBelow b (reverse_aux xs ys)
fits_reverse_onto b [] ys hx hy = hy
fits_reverse_onto b (x ∷ xs) ys hx hy = fits_reverse_onto b xs (x ∷ ys) hx.1 (hx.0, hy)

pub fits_replicate : (b x n : ℕ) → x < b → AllBelow b (replicate n x)
fits_replicate b x zero h = tt
fits_replicate b x (suc n) h = (h, fits_replicate b x n h)

pub fits_reverse : (b : ℕ) (xs : List ℕ) → AllBelow b xs → AllBelow b (reverse xs)
fits_reverse b xs h = fits_reverse_onto b xs [] h tt

-- a bound on each of n elements is one on every element, and on the list
pub below_everywhere : (b n : ℕ) (xs : List ℕ) → 0 < b → length xs ≡ n → ((i : ℕ) → i < n → get_or xs i 0 < b) → (i : ℕ) → get_or xs i 0 < b
below_everywhere b n xs pos len each i = ⊎_elim (each i) (λ past. subst (λ x. x < b) (sym (get_or_past xs i 0 (omega arith))) pos) (cases_lt i n)

pub all_from_each : (b : ℕ) (xs : List ℕ) → ((i : ℕ) → get_or xs i 0 < b) → AllBelow b xs
all_from_each b [] each = tt
all_from_each b (x ∷ xs) each = (each 0, all_from_each b xs (λ i. each (suc i)))
