-- Bytes written into a buffer, one part behind the other. Assumes nothing.
use Rattle.std.proofs.Common.{◌≡◌, ℕ, ◌+◌, ◌-◌, ◌≤◌, List, ◌++◌, length, take, drop, sym, refl, ap, ◌∙◌, ap₂, arith}
use Rattle.std.proofs.lemmas.List.{append_assoc, length-append, length-take-le, take_at, drop_at, drop-drop}
use borrow.Rule.Slice.PartMut.{put_mid}
use Rattle.strips.specs.Replies.{put_at}

-- what stands up to the end of the bytes written
pub take_put : (at : ℕ) (bytes buffer : List ℕ) (n : ℕ) → at ≤ length buffer → n ≡ at + length bytes → take n (put_at at bytes buffer) ≡ take at buffer ++ bytes
take_put at bytes buffer n within e =
    let rest = drop (at + length bytes) buffer in
    let long : length (take at buffer ++ bytes) ≡ n = length-append (take at buffer) bytes ∙ ap (λ k. k + length bytes) (length-take-le at buffer within) ∙ sym e in
    ap (take n) (sym (append_assoc (take at buffer) bytes rest)) ∙ take_at (take at buffer ++ bytes) rest n long

-- the part `xs[0..n]`, as the checker reads it
pub front_part : (n : ℕ) (xs : List ℕ) → n ≤ length xs → (take (n - 0) xs ≡ take n xs) × (length (take (n - 0) xs) ≡ n)
front_part n xs within =
    let same : n - 0 ≡ n = omega arith in
    (ap (λ k. take k xs) same, ap (λ k. length (take k xs)) same ∙ length-take-le n xs within)

-- what lies behind the bytes written
pub drop_put : (at : ℕ) (bytes buffer : List ℕ) (k : ℕ) → at ≤ length buffer → drop (at + length bytes + k) (put_at at bytes buffer) ≡ drop (at + length bytes + k) buffer
drop_put at bytes buffer k within =
    let n = at + length bytes in
    let front = take at buffer ++ bytes in
    let long : length front ≡ n = length-append (take at buffer) bytes ∙ ap (λ j. j + length bytes) (length-take-le at buffer within) in
    sym (drop-drop k n (put_at at bytes buffer)) ∙ ap (drop k) (ap (drop n) (sym (append_assoc (take at buffer) bytes (drop n buffer))) ∙ drop_at front (drop n buffer) n long) ∙ drop-drop k n buffer

-- one part written behind another
pub put_put : (at n : ℕ) (xs ys buffer : List ℕ) → at ≤ length buffer → n ≡ at + length xs → put_at n ys (put_at at xs buffer) ≡ put_at at (xs ++ ys) buffer
put_put at n xs ys buffer within e =
    let total : at + length xs + length ys ≡ at + length (xs ++ ys) = omega (arith, length-append xs ys) in
    let rest = drop (at + length (xs ++ ys)) buffer in
    let front : take n (put_at at xs buffer) ≡ take at buffer ++ xs = take_put at xs buffer n within e in
    let behind : drop (n + length ys) (put_at at xs buffer) ≡ rest = ap (λ k. drop (k + length ys) (put_at at xs buffer)) e ∙ drop_put at xs buffer (length ys) within ∙ ap (λ k. drop k buffer) total in
    ap₂ (λ p q. p ++ (ys ++ q)) front behind ∙ append_assoc (take at buffer) xs (ys ++ rest) ∙ ap (λ q. take at buffer ++ q) (sym (append_assoc xs ys rest))

-- a part that was written in place
pub put_part : (at k : ℕ) (part buffer : List ℕ) → length part ≡ k → put_mid at k buffer part ≡ put_at at part buffer
put_part at k part buffer e = ap (λ rest. take at buffer ++ (part ++ rest)) (drop-drop k at buffer ∙ ap (λ n. drop (at + n) buffer) (sym e))

-- bytes written where the bytes written before end
pub put_behind : (out bytes before : List ℕ) → put_at (length out) bytes (out ++ drop (length out) before) ≡ (out ++ bytes) ++ drop (length (out ++ bytes)) before
put_behind out bytes before =
    let n = length out in
    let rest = drop n before in
    let front : take n (out ++ rest) ≡ out = take_at out rest n refl in
    let behind : drop (n + length bytes) (out ++ rest) ≡ drop (length (out ++ bytes)) before =
    sym (drop-drop (length bytes) n (out ++ rest)) ∙ ap (drop (length bytes)) (drop_at out rest n refl) ∙ drop-drop (length bytes) n before ∙ ap (λ k. drop k before) (sym (length-append out bytes)) in
    ap₂ (λ p q. p ++ (bytes ++ q)) front behind ∙ sym (append_assoc out bytes (drop (length (out ++ bytes)) before))
