-- Two parts written behind a byte at the front of a buffer. Assumes nothing.
use Rattle.std.proofs.Common.{◌≡◌, ℕ, suc, ◌+◌, ◌<◌, List, [], ◌∷◌, ◌++◌, length, drop, set, sym, ap, ◌∙◌, append_assoc, arith, length-append}
use borrow.Rule.Slice.PartMut.{put_mid}
use Rattle.std.proofs.lemmas.List.{take_at, drop_at, drop-drop}

-- ys and zs are the parts, j and k their lengths, a where the second begins
pub written : (m a j k : ℕ) (xs ys zs : List ℕ) → 0 < length xs → a ≡ 1 + length ys → j ≡ length ys → k ≡ length zs
    → put_mid a k (put_mid 1 j (set xs 0 m) ys) zs ≡ m ∷ (ys ++ zs) ++ drop (suc (length (ys ++ zs))) xs
written m a j k [] ys zs some e e' e'' = absurd (omega arith)
written m a j k (x ∷ rest) ys zs some e e' e'' =
    let end : j + k ≡ length (ys ++ zs) = simp length-append (omega arith) in
    ap (λ l. l ++ (zs ++ drop k (drop a (m ∷ ys ++ drop j rest)))) (take_at (m ∷ ys) (drop j rest) a (omega arith)) ∙ ap (λ l. m ∷ ys ++ (zs ++ drop k l)) (drop_at (m ∷ ys) (drop j rest) a (omega arith))
    ∙ ap (λ l. m ∷ ys ++ (zs ++ l)) (drop-drop k j rest ∙ ap (λ n. drop n rest) end)
    ∙ ap (λ l. m ∷ l) (sym (append_assoc ys zs _))
