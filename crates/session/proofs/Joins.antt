-- Bytes joined one by one. Assumes nothing.
use Rattle.std.proofs.Common.{◌≡◌, ℕ, zero, suc, ◌+◌, ◌-◌, ◌*◌, ◌/◌, ◌%◌, ◌^◌, ◌<◌, ◌≤◌, ◌≢◌, List, [], ◌∷◌, length, get_or, take, drop, set, ◌++◌, sym, refl, ap, ◌∙◌, subst, ap₂, ⊎_elim, zero-add, arith, get_or-set_other, get_or-set_same, rules, below_more}
use lib.Bits.{bit_xor, xor_lt}
use borrow.Rule.Slice.PartMut.{put_mid}
use Rattle.std.proofs.lemmas.List.{places, get_or_past, get_or-append_right, get_or_append_left, length-append}
use Rattle.std.proofs.lemmas.Bool.{cases_lt}
use Rattle.words.specs.Words.{Bytes, word, byte_of, bytes_of}
use Rattle.words.proofs.Words.{byte_0, byte_1, byte_2, byte_3, byte_below, word_bytes, words_same, xor_words, fits_take, fits_drop}
use Rattle.generator.specs.Meaning.{Meaning, times}
use Rattle.generator.proofs.Repeats.{times_add}
use Rattle.session.specs.View.{View, placed, ahead, stream_byte}
use Rattle.session.specs.Calls.{Joined, JoinedAll}

module _ (m : Meaning) (s : List ℕ) (p : ℕ) where
  -- a byte more that ends a word, and one that does not
  pub ahead_word : (i : ℕ) → (p + i + 1) % 4 ≡ 0 → ahead m (placed s p) (i + 1) ≡ m.next (ahead m (placed s p) i)
  ahead_word i e = ap (λ k. times k m.next s) (let one : (p + (i + 1)) / 4 - p / 4 ≡ suc ((p + i) / 4 - p / 4) = omega arith in one)

  pub ahead_same : (i : ℕ) → ((p + i + 1) % 4 ≡ 0 → ⊥) → ahead m (placed s p) (i + 1) ≡ ahead m (placed s p) i
  ahead_same i ne =
      ap (λ k. times k m.next s) (let none : (p + (i + 1)) / 4 - p / 4 ≡ (p + i) / 4 - p / 4 = omega arith in none)

  -- one byte more is joined
  pub joins_more : (i : ℕ) (before now : List ℕ) (b : ℕ) → i < length now → b ≡ stream_byte m (placed s p) i
      → ((k : ℕ) → k < i → get_or now k 0 ≡ bit_xor (get_or before k 0) (stream_byte m (placed s p) k))
      → ((k : ℕ) → i ≤ k → get_or now k 0 ≡ get_or before k 0)
      → (k : ℕ) → k < i + 1 → get_or (set now i (bit_xor (get_or now i 0) b)) k 0 ≡ bit_xor (get_or before k 0) (stream_byte m (placed s p) k)
  joins_more i before now b lt e done left =
      below_more _ _
      (λ k h. let ne : k ≢ i = omega arith in rw get_or-set_other (done k h))
      (rw get_or-set_same (ap (λ x. bit_xor x b) (left i (omega arith)) ∙ ap (bit_xor (get_or before i 0)) e))

pub leaves_more : (i : ℕ) (before now : List ℕ) (y : ℕ) → ((k : ℕ) → i ≤ k → get_or now k 0 ≡ get_or before k 0) → (k : ℕ) → i + 1 ≤ k → get_or (set now i y) k 0 ≡ get_or before k 0
leaves_more i before now y left k h = let ne : k ≢ i = omega arith in rw get_or-set_other (left k (omega arith))

-- a part of a buffer in its place
module _ (start count k : ℕ) (buffer part : List ℕ) (within : start + count ≤ length buffer) (size : k ≡ count) (long : length part ≡ count) where
  mid_length : length (put_mid start k buffer part) ≡ length buffer
  mid_length = search (rules, places)

  mid_window : (i : ℕ) → i < count → get_or (put_mid start k buffer part) (start + i) 0 ≡ get_or part i 0
  mid_window i h = search (rules, places)

  mid_front : (i : ℕ) → i < start → get_or (put_mid start k buffer part) i 0 ≡ get_or buffer i 0
  mid_front i h = search (rules, places)

  mid_rest : (i : ℕ) → start + count ≤ i → get_or (put_mid start k buffer part) i 0 ≡ get_or buffer i 0
  mid_rest i h = search (rules, places)

  mid_read : (i : ℕ) → i < count → get_or (take k (drop start buffer)) i 0 ≡ get_or buffer (start + i) 0
  mid_read i h = search (rules, places)

-- a part of a buffer is joined
pub part_joined : (m : Meaning) (v : View) (start count k n : ℕ) (buffer part : List ℕ) → start + count ≤ length buffer → k ≡ count → n ≡ count → length part ≡ count → Joined m v 0 n (take k (drop start buffer)) part
    → Joined m v start count buffer (put_mid start k buffer part)
part_joined m v start count k n buffer part within size whole long joined =
    record {
      same_length = mid_length start count k buffer part within size long;
      window = λ i h.
          mid_window start count k buffer part within size long i h ∙ ap (λ j. get_or part j 0) (sym (zero-add i)) ∙ joined.window i (omega arith)
          ∙ ap (λ x. bit_xor x (stream_byte m v i)) (ap (λ j. get_or (take k (drop start buffer)) j 0) (zero-add i) ∙ mid_read start count k buffer part within size long i h);
      front = mid_front start count k buffer part within size long;
      rest = mid_rest start count k buffer part within size long;
    }

module _ (m : Meaning) (s : List ℕ) (p : ℕ) where
  -- so many bytes on, and then as many more
  pub ahead_on : (a b : ℕ) → ahead m (placed (ahead m (placed s p) a) (p + a)) b ≡ ahead m (placed s p) (a + b)
  ahead_on a b =
      let steps : (p + (a + b)) / 4 - p / 4 ≡ ((p + a + b) / 4 - (p + a) / 4) + ((p + a) / 4 - p / 4) = omega arith in
      sym (ap (λ n. times n m.next s) steps ∙ times_add ((p + a + b) / 4 - (p + a) / 4) ((p + a) / 4 - p / 4) m.next s)

  stream_on : (a b : ℕ) → stream_byte m (placed (ahead m (placed s p) a) (p + a)) b ≡ stream_byte m (placed s p) (a + b)
  stream_on a b = ap₂ byte_of (ap m.word (ahead_on a b)) (let same : (p + a + b) % 4 ≡ (p + (a + b)) % 4 = omega arith in same)

  -- bytes joined one window behind the other
  pub joined_on : (start a b : ℕ) (x y z : List ℕ) → Joined m (placed s p) start a x y → Joined m (placed (ahead m (placed s p) a) (p + a)) (start + a) b y z → Joined m (placed s p) start (a + b) x z
  joined_on start a b x y z first second =
      record {
        same_length = second.same_length ∙ first.same_length;
        window = λ i h. ⊎_elim (λ less. second.front (start + i) (omega arith) ∙ first.window i less) (λ past. later i (i - a) (omega arith) (omega arith)) (cases_lt i a);
        front = λ i h. second.front i (omega arith) ∙ first.front i h;
        rest = λ i h. second.rest i (omega arith) ∙ first.rest i (omega arith);
      }
    where
      later : (i j : ℕ) → i ≡ a + j → j < b → get_or z (start + i) 0 ≡ bit_xor (get_or x (start + i) 0) (stream_byte m (placed s p) i)
      later i j e h =
          let place : start + a + j ≡ start + i = omega arith in
          subst (λ n. get_or z n 0 ≡ bit_xor (get_or x n 0) (stream_byte m (placed s p) i)) place
          (second.window j h ∙ ap₂ bit_xor (first.rest (start + a + j) (omega arith)) (stream_on a j ∙ ap (stream_byte m (placed s p)) (sym e)))

  -- the bytes of the word that a word's beginning has
  pub word_byte : p % 4 ≡ 0 → (w a : ℕ) → w ≡ m.word s → a < 4 → byte_of w a ≡ stream_byte m (placed s p) a
  word_byte start w a e h =
      sym (ap₂ byte_of (ap (λ n. m.word (times n m.next s)) (let none : (p + a) / 4 - p / 4 ≡ 0 = omega arith in none) ∙ sym e) (let same : (p + a) % 4 ≡ a = omega arith in same))

  -- one word more of whole words
  pub words_more : p % 4 ≡ 0 → (i : ℕ) (x y z t t' : List ℕ) → t ≡ ahead m (placed s p) (4 * i) → Joined m (placed s p) 0 (4 * i) x y → Joined m (placed t (p + 4 * i)) (4 * i) 4 y z → t' ≡ m.next t
      → (t' ≡ ahead m (placed s p) (4 * (i + 1))) × Joined m (placed s p) 0 (4 * (i + 1)) x z
  words_more start i x y z t t' at done word on =
      let step : suc ((p + 4 * i) / 4 - p / 4) ≡ (p + 4 * (i + 1)) / 4 - p / 4 = omega arith in
      let more : 4 * i + 4 ≡ 4 * (i + 1) = omega arith in (
        on ∙ ap m.next at ∙ ap (λ n. times n m.next s) step,
        subst (λ n. Joined m (placed s p) 0 n x z) more
            (joined_on 0 (4 * i) 4 x y z done (subst (λ u. Joined m (placed u (p + 4 * i)) (0 + 4 * i) 4 y z) at (subst (λ n. Joined m (placed t (p + 4 * i)) n 4 y z) (sym (zero-add (4 * i))) word))),
      )

  -- four bytes with those of a word, by the exclusive or of two words
  pub four_joined : p % 4 ≡ 0 → (w : ℕ) (xs part : List ℕ) → w ≡ m.word s → w < 2 ^ 32 → length xs ≡ 4 → Bytes xs → part ≡ bytes_of (bit_xor (word (get_or xs 0 0) (get_or xs 1 0) (get_or xs 2 0) (get_or xs 3 0)) w) → Joined m (placed s p) 0 4 xs part
  four_joined start w (x0 ∷ x1 ∷ x2 ∷ x3 ∷ []) part e small len (h0, (h1, (h2, (h3, _)))) is =
      let b0 = byte_below w 0 in
      let b1 = byte_below w 1 in
      let b2 = byte_below w 2 in
      let b3 = byte_below w 3 in
      let y0 = xor_lt 8 x0 (byte_of w 0) h0 b0 in
      let y1 = xor_lt 8 x1 (byte_of w 1) h1 b1 in
      let y2 = xor_lt 8 x2 (byte_of w 2) h2 b2 in
      let y3 = xor_lt 8 x3 (byte_of w 3) h3 b3 in
      let whole = ap (bit_xor (word x0 x1 x2 x3)) (sym (word_bytes w small)) ∙ xor_words x0 x1 x2 x3 (byte_of w 0) (byte_of w 1) (byte_of w 2) (byte_of w 3) h1 h2 h3 b1 b2 b3 in
      let byte = word_byte start w in
      record {
        same_length = ap length is;
        window = four (λ i. get_or part (0 + i) 0 ≡ bit_xor (get_or (x0 ∷ x1 ∷ x2 ∷ x3 ∷ []) (0 + i) 0) (stream_byte m (placed s p) i))
            (ap (λ ys. get_or ys 0 0) is ∙ ap (λ v. byte_of v 0) whole ∙ byte_0 _ _ _ _ y0 y1 y2 y3 ∙ ap (bit_xor x0) (byte 0 e (omega arith)))
            (ap (λ ys. get_or ys 1 0) is ∙ ap (λ v. byte_of v 1) whole ∙ byte_1 _ _ _ _ y1 y2 y3 ∙ ap (bit_xor x1) (byte 1 e (omega arith)))
            (ap (λ ys. get_or ys 2 0) is ∙ ap (λ v. byte_of v 2) whole ∙ byte_2 _ _ _ _ y2 y3 ∙ ap (bit_xor x2) (byte 2 e (omega arith)))
            (ap (λ ys. get_or ys 3 0) is ∙ ap (λ v. byte_of v 3) whole ∙ byte_3 _ _ _ _ y3 ∙ ap (bit_xor x3) (byte 3 e (omega arith)));
        front = λ i h. absurd (omega arith);
        rest = λ i h. get_or_past part i 0 (let l = ap length is in omega arith) ∙ sym (get_or_past (x0 ∷ x1 ∷ x2 ∷ x3 ∷ []) i 0 (omega arith));
      }
    where
      four : (P : ℕ → Type 0) → P 0 → P 1 → P 2 → P 3 → (i : ℕ) → i < 4 → P i
      four P a b c d zero h = a
      four P a b c d (suc zero) h = b
      four P a b c d (suc (suc zero)) h = c
      four P a b c d (suc (suc (suc zero))) h = d
      four P a b c d (suc (suc (suc (suc i)))) h = absurd (omega arith)
  four_joined start w [] part e small len bytes is = absurd (omega arith)
  four_joined start w (x0 ∷ []) part e small len bytes is = absurd (omega arith)
  four_joined start w (x0 ∷ x1 ∷ []) part e small len bytes is = absurd (omega arith)
  four_joined start w (x0 ∷ x1 ∷ x2 ∷ []) part e small len bytes is = absurd (omega arith)
  four_joined start w (x0 ∷ x1 ∷ x2 ∷ x3 ∷ x4 ∷ xs) part e small len bytes is = absurd (omega arith)

  -- the same in its place
  pub word_joined : p % 4 ≡ 0 → (at k w four : ℕ) (x part : List ℕ) → at + 4 ≤ length x → k ≡ 4 → Bytes x → w ≡ m.word s → w < 2 ^ 32
      → four ≡ word (get_or x at 0) (get_or x (at + 1) 0) (get_or x (at + 2) 0) (get_or x (at + 3) 0) → part ≡ bytes_of (bit_xor four w) → Joined m (placed s p) at 4 x (put_mid at k x part)
  word_joined start at k w four x part within size bytes e small is written =
      let xs = take k (drop at x) in
      let read = mid_read at 4 k x part within size (ap length written) in
      let same : four ≡ word (get_or xs 0 0) (get_or xs 1 0) (get_or xs 2 0) (get_or xs 3 0) =
      is ∙ words_same (sym (read 0 (omega arith) ∙ ap (λ n. get_or x n 0) (let none : at + 0 ≡ at = omega arith in none))) (sym (read 1 (omega arith))) (sym (read 2 (omega arith))) (sym (read 3 (omega arith))) in
      let count : length xs ≡ 4 = search (rules, places) in
      part_joined m (placed s p) at 4 k 4 x part within size refl (ap length written)
      (four_joined start w xs part e small count (fits_take 256 k (drop at x) (fits_drop 256 at x bytes)) (written ∙ ap (λ v. bytes_of (bit_xor v w)) same))

-- a whole list joined, byte by byte
whole_at : {m : Meaning} {v : View} {x y t : List ℕ} → JoinedAll m v x y t → (i : ℕ) → i < length x → get_or y i 0 ≡ bit_xor (get_or x i 0) (stream_byte m v i)
whole_at {m} {v} {x} {y} all i h = subst (λ j. get_or y j 0 ≡ bit_xor (get_or x j 0) (stream_byte m v i)) (zero-add i) (all.joined.window i h)

all_from : {m : Meaning} {v : View} {x y t : List ℕ} → t ≡ ahead m v (length x) → length y ≡ length x → ((i : ℕ) → i < length x → get_or y i 0 ≡ bit_xor (get_or x i 0) (stream_byte m v i)) → JoinedAll m v x y t
all_from {m} {v} {x} {y} ends long each =
    record {
      ends = ends;
      joined = record {
        same_length = long;
        window = λ i h. subst (λ j. get_or y j 0 ≡ bit_xor (get_or x j 0) (stream_byte m v i)) (sym (zero-add i)) (each i h);
        front = λ i h. absurd (omega arith);
        rest = λ i h. get_or_past y i 0 (omega arith) ∙ sym (get_or_past x i 0 (omega arith));
      };
    }

-- where bytes are joined only the place in a word matters, and none where there are no bytes
pub at_place : (m : Meaning) (s : List ℕ) (p q : ℕ) {x y t : List ℕ} → (0 < length x → q % 4 ≡ p % 4) → JoinedAll m (placed s q) x y t → JoinedAll m (placed s p) x y t
at_place m s p q {x} {y} {t} same all =
    let n = length x in
    let steps : (i : ℕ) → i ≤ n → (q + i) / 4 - q / 4 ≡ (p + i) / 4 - p / 4 = λ i h. ⊎_elim (λ some. let e = same some in omega arith) (λ none. omega arith) (cases_lt 0 n) in
    all_from (all.ends ∙ ap (λ k. times k m.next s) (steps n (omega arith))) all.joined.same_length
    (λ i h. let e = same (omega arith) in whole_at all i h ∙ ap (bit_xor (get_or x i 0)) (ap₂ (λ k j. byte_of (m.word (times k m.next s)) j) (steps i (omega arith)) (omega arith)))

-- bytes joined behind joined bytes
pub joined_behind : (m : Meaning) (s : List ℕ) (p : ℕ) {x y t x' y' u : List ℕ} → JoinedAll m (placed s p) x y t → JoinedAll m (placed t (p + length x)) x' y' u → JoinedAll m (placed s p) (x ++ x') (y ++ y') u
joined_behind m s p {x} {y} {t} {x'} {y'} {u} first second =
    let a = length x in
    let b = length x' in
    let sum = length-append x x' in
    let long : length y ≡ a = first.joined.same_length in
    let long' : length y' ≡ b = second.joined.same_length in
    let from : placed t (p + a) ≡ placed (ahead m (placed s p) a) (p + a) = ap (λ v. placed v (p + a)) first.ends in
    let sooner : (i : ℕ) → i < a → get_or (y ++ y') i 0 ≡ bit_xor (get_or (x ++ x') i 0) (stream_byte m (placed s p) i) =
    λ i h. get_or_append_left y y' 0 i (omega arith) ∙ whole_at first i h ∙ ap (λ z. bit_xor z (stream_byte m (placed s p) i)) (sym (get_or_append_left x x' 0 i h)) in
    let later : (i : ℕ) → a ≤ i → i < a + b → get_or (y ++ y') i 0 ≡ bit_xor (get_or (x ++ x') i 0) (stream_byte m (placed s p) i) =
    λ i past h. get_or-append_right y y' a i 0 long past ∙ whole_at second (i - a) (omega arith)
    ∙ ap₂ bit_xor (sym (get_or-append_right x x' a i 0 refl past)) (ap (λ v. stream_byte m v (i - a)) from ∙ stream_on m s p a (i - a) ∙ ap (stream_byte m (placed s p)) (omega arith)) in
    all_from (second.ends ∙ ap (λ v. ahead m v b) from ∙ ahead_on m s p a b ∙ ap (ahead m (placed s p)) (sym sum)) (length-append y y' ∙ ap₂ ◌+◌ long long' ∙ sym sum)
    (λ i h. ⊎_elim (sooner i) (λ past. later i past (omega arith)) (cases_lt i a))
