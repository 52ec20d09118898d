-- The boxes by few products, so that a table is compared with its rule in a second or two. Assumes nothing.
use Rattle.std.proofs.Common.{◌≡◌, ℕ, ◌<◌, true, refl, ap, arith}
use Rattle.words.specs.Words.{◌⊕◌}
use Rattle.fields.specs.Doubling.{doubled, partial_product, product, power}
use Rattle.fields.specs.Boxes.{affine, sr, sq}
use Rattle.fields.proofs.Fields.{bits_double, power_one, power_add}

abbrev square : ℕ → ℕ → ℕ
square c x = product c x x

quick_254 : ℕ → ℕ → ℕ
quick_254 c v =
    let p3 = product c (square c v) v in
    let p15 = product c (square c (square c p3)) p3 in
    let p126 = product c (square c (square c (square c p15))) (square c p3) in
    square c (product c p126 v)

quick_254_is : (c : ℕ) → c < 256 → bits_double c ≡ true → (v : ℕ) → v < 256 → power c v 254 ≡ quick_254 c v
unfolding quick_254
quick_254_is c hc test v hv =
    let e1 = power_one c hc test v hv in
    let e2 = power_add c hc test v hv 1 1 e1 e1 in
    let e3 = power_add c hc test v hv 2 1 e2 e1 in
    let e6 = power_add c hc test v hv 3 3 e3 e3 in
    let e12 = power_add c hc test v hv 6 6 e6 e6 in
    let e15 = power_add c hc test v hv 12 3 e12 e3 in
    let e30 = power_add c hc test v hv 15 15 e15 e15 in
    let e60 = power_add c hc test v hv 30 30 e30 e30 in
    let e120 = power_add c hc test v hv 60 60 e60 e60 in
    let e126 = power_add c hc test v hv 120 6 e120 e6 in
    let e127 = power_add c hc test v hv 126 1 e126 e1 in
    power_add c hc test v hv 127 127 e127 e127

unfoldable pub sr_quick : ℕ → ℕ
unfolding quick_254
sr_quick v = affine (quick_254 0x1B v)

pub sr_is : (v : ℕ) → v < 256 → sr v ≡ sr_quick v
unfolding sr sr_quick doubled partial_product product
sr_is v hv = ap affine (quick_254_is 0x1B (omega arith) refl v hv)

unfoldable pub sq_quick : ℕ → ℕ
sq_quick v =
    let p = product 0x69 in
    let v2 = p v v in
    let v4 = p v2 v2 in
    let v8 = p v4 v4 in
    let v16 = p v8 v8 in
    let v9 = p v8 v in
    let v13 = p v9 v4 in
    let v33 = p (p v16 v16) v in
    let v41 = p v33 v8 in
    let v45 = p v41 v4 in
    v ⊕ v9 ⊕ v13 ⊕ p v13 v2 ⊕ v33 ⊕ v41 ⊕ v45 ⊕ p v45 v2 ⊕ p v33 v16 ⊕ 0x25

bits : bits_double 0x69 ≡ true
unfolding doubled partial_product product
bits = refl

pub sq_is : (v : ℕ) → v < 256 → sq v ≡ sq_quick v
unfolding sq sq_quick
sq_is v hv =
    let e1 = power_one 0x69 (omega arith) bits v hv in
    let e2 = power_add 0x69 (omega arith) bits v hv 1 1 e1 e1 in
    let e4 = power_add 0x69 (omega arith) bits v hv 2 2 e2 e2 in
    let e8 = power_add 0x69 (omega arith) bits v hv 4 4 e4 e4 in
    let e16 = power_add 0x69 (omega arith) bits v hv 8 8 e8 e8 in
    let e32 = power_add 0x69 (omega arith) bits v hv 16 16 e16 e16 in
    let e9 = power_add 0x69 (omega arith) bits v hv 8 1 e8 e1 in
    let e13 = power_add 0x69 (omega arith) bits v hv 9 4 e9 e4 in
    let e15 = power_add 0x69 (omega arith) bits v hv 13 2 e13 e2 in
    let e33 = power_add 0x69 (omega arith) bits v hv 32 1 e32 e1 in
    let e41 = power_add 0x69 (omega arith) bits v hv 33 8 e33 e8 in
    let e45 = power_add 0x69 (omega arith) bits v hv 41 4 e41 e4 in
    let e47 = power_add 0x69 (omega arith) bits v hv 45 2 e45 e2 in
    let e49 = power_add 0x69 (omega arith) bits v hv 33 16 e33 e16 in
    rw (e1, e9, e13, e15, e33, e41, e45, e47, e49)
