-- Replies say what they reply to. Assumes nothing.
use Rattle.std.proofs.Common.{◌≡◌, ℕ, ◌+◌, ◌*◌, ◌/◌, ◌%◌, ◌^◌, ◌<◌, ◌≤◌, false, eqb, List, [], ◌∷◌, ◌++◌, length, sym, subst, arith}
use Rattle.std.proofs.lemmas.List.{append-nil, append_assoc, length-append, length-replicate, length-take, length-drop}
use Rattle.std.proofs.lemmas.Bool.Decides.{nat_tests}
use Rattle.words.proofs.Words.{word_bytes}
use Rattle.strips.specs.Orders.{Asked, applying}
use Rattle.words.specs.Words.{word_at}
use Rattle.strips.specs.Reading.{part, order, reads, reads_opening, reads_payload}
use Rattle.strips.specs.Replies.{accepted_reply, refusal_reply}
use Rattle.strips.specs.ReadBack.{Heading, accepted_kind, refused_at, heading, reply_size, ReadBack, nothing, reply}

pub read_more : {out : List ℕ} {hs : List Heading} (bytes : List ℕ) (h : Heading) → length bytes ≡ reply_size (word_at bytes 0) → heading (word_at bytes 0) ≡ h → ReadBack out hs → ReadBack (out ++ bytes) (hs ++ h ∷ [])
read_more bytes h size e nothing = subst (λ x. ReadBack bytes (x ∷ [])) e (subst (λ bs. ReadBack bs (heading (word_at bytes 0) ∷ [])) (append-nil bytes) (reply bytes size nothing))
read_more bytes h size e (reply {rest} {hs} first s r) = subst (λ bs. ReadBack bs (heading (word_at first 0) ∷ (hs ++ h ∷ []))) (sym (append_assoc first rest bytes)) (reply first s (read_more bytes h size e r))

accepted_word : (k : ℕ) (bytes : List ℕ) → k < 8 → length bytes < 2 ^ 28 → word_at (accepted_reply k bytes) 0 ≡ k * 2 ^ 28 + length bytes
unfolding word_at accepted_reply
accepted_word k bytes hk hb = word_bytes (k * 2 ^ 28 + length bytes) (omega arith)

pub accepted_heading : (k : ℕ) (bytes : List ℕ) → k < 8 → length bytes < 2 ^ 28 → heading (word_at (accepted_reply k bytes) 0) ≡ accepted_kind k
accepted_heading k bytes hk hb =
    let w = k * 2 ^ 28 + length bytes in
    let top : (k * 2 ^ 28 + length bytes) / 2 ^ 28 ≡ k = omega arith in
    let other : eqb k 15 ≡ false = grind (arith, nat_tests) in
    rw (accepted_word k bytes hk hb, top, other)

pub accepted_size : (k : ℕ) (bytes : List ℕ) → k < 8 → length bytes < 2 ^ 28 → length (accepted_reply k bytes) ≡ reply_size (word_at (accepted_reply k bytes) 0)
unfolding accepted_reply
accepted_size k bytes hk hb =
    let top : (k * 2 ^ 28 + length bytes) / 2 ^ 28 ≡ k = omega arith in
    let low : (k * 2 ^ 28 + length bytes) % 2 ^ 28 ≡ length bytes = omega arith in
    let other : eqb k 15 ≡ false = grind (arith, nat_tests) in
    rw (accepted_word k bytes hk hb, top, low, other) (simp (length-append, length-replicate) (omega arith))

refusal_word : (n m p : ℕ) → n < 32 → m < 16 → p < 2 ^ 16 → word_at (refusal_reply n m p) 0 ≡ 15 * 2 ^ 28 + n * 2 ^ 20 + m * 2 ^ 16 + p
unfolding word_at refusal_reply
refusal_word n m p hn hm hp = word_bytes (15 * 2 ^ 28 + n * 2 ^ 20 + m * 2 ^ 16 + p) (omega arith)

pub refusal_heading : (n m p : ℕ) → n < 32 → m < 16 → p < 2 ^ 16 → heading (word_at (refusal_reply n m p) 0) ≡ refused_at p
refusal_heading n m p hn hm hp =
    let top : (15 * 2 ^ 28 + n * 2 ^ 20 + m * 2 ^ 16 + p) / 2 ^ 28 ≡ 15 = omega arith in
    let low : (15 * 2 ^ 28 + n * 2 ^ 20 + m * 2 ^ 16 + p) % 2 ^ 16 ≡ p = omega arith in
    rw (refusal_word n m p hn hm hp, top, low)

pub refusal_size : (n m p : ℕ) → n < 32 → m < 16 → p < 2 ^ 16 → length (refusal_reply n m p) ≡ reply_size (word_at (refusal_reply n m p) 0)
unfolding refusal_reply
refusal_size n m p hn hm hp =
    let top : (15 * 2 ^ 28 + n * 2 ^ 20 + m * 2 ^ 16 + p) / 2 ^ 28 ≡ 15 = omega arith in
    rw (refusal_word n m p hn hm hp, top)

part_short : (strip : List ℕ) (i n : ℕ) → length (part strip i n) ≤ length strip
part_short strip i n = simp (length-take, length-drop) (omega arith)

-- an order that is read begins within the strip, and so does its payload lie
pub reads_place : (strip : List ℕ) (place : ℕ) (q : Asked) (size : ℕ) → reads strip place ≡ order q size → place < length strip / 4
reads_place strip place q size e = grind (arith, nat_tests)

pub reads_short : (strip : List ℕ) (place : ℕ) (bytes : List ℕ) (size : ℕ) → reads strip place ≡ order (applying bytes) size → length bytes ≤ length strip
unfolding reads_opening reads_payload
reads_short strip place bytes size e = let h = part_short strip (place + 1) (word_at strip place % 2 ^ 28) in grind (arith, nat_tests)
