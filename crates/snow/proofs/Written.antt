-- Bytes written one after the other into a buffer. Assumes nothing.
use Rattle.std.proofs.Common.{◌≡◌, ℕ, ◌+◌, ◌*◌, ◌<◌, ◌≤◌, List, [], ◌∷◌, ◌++◌, length, get_or, take, drop, sym, refl, ap, ◌∙◌, arith}
use Rattle.std.proofs.lemmas.List.{append_assoc, take_more, length-take-le, drop-drop, take_at, drop_at}
use Rattle.words.specs.Words.{bytes_of, words_bytes}
use Rattle.words.proofs.Bytes.{length_bytes}

words_bytes_append : (vs ws : List ℕ) → words_bytes (vs ++ ws) ≡ words_bytes vs ++ words_bytes ws
words_bytes_append [] ws = refl
words_bytes_append (v ∷ vs) ws = ap (λ bs. bytes_of v ++ bs) (words_bytes_append vs ws)

-- one word more, behind the bytes of those before it
pub word_more : (ws before now : List ℕ) (i : ℕ) → i < length ws → 4 * length ws ≤ length before → now ≡ words_bytes (take i ws) ++ drop (4 * i) before
    → take (4 * i) now ++ (bytes_of (get_or ws i 0) ++ drop (4 * i + 4) now) ≡ words_bytes (take (i + 1) ws) ++ drop (4 * (i + 1)) before
word_more ws before now i lt room e =
    let front = words_bytes (take i ws) in
    let long : length front ≡ 4 * i = length_bytes (take i ws) ∙ ap (λ n. 4 * n) (length-take-le i ws (omega arith)) in
    let head : take (4 * i) now ≡ front = ap (take (4 * i)) e ∙ take_at front (drop (4 * i) before) (4 * i) long in
    let tail : drop (4 * i + 4) now ≡ drop (4 * (i + 1)) before =
    sym (drop-drop 4 (4 * i) now) ∙ ap (drop 4) (ap (drop (4 * i)) e ∙ drop_at front (drop (4 * i) before) (4 * i) long) ∙ drop-drop 4 (4 * i) before ∙ ap (λ n. drop n before) (sum i) in
    let grown : words_bytes (take (i + 1) ws) ≡ front ++ (bytes_of (get_or ws i 0) ++ []) =
    ap words_bytes (take_more ws i 0 lt) ∙ words_bytes_append (take i ws) (get_or ws i 0 ∷ []) in
    rw (head, tail, grown) (sym (append_assoc front (bytes_of (get_or ws i 0)) (drop (4 * (i + 1)) before)))
  where
    sum : (i : ℕ) → 4 * i + 4 ≡ 4 * (i + 1)
    sum i = omega arith
