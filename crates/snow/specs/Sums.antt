-- Sums and differences of words. Assumes nothing.
use Rattle.std.specs.Prelude.{◌≡◌, ℕ, ◌^◌, ◌<◌}
use Rattle.std.proofs.Common.{arith}
use Rattle.snow.specs.Register.{plus, minus}

pub plus_below : (a b : ℕ) → plus a b < 2 ^ 32
plus_below a b = omega arith

pub minus_below : (a b : ℕ) → minus a b < 2 ^ 32
minus_below a b = omega arith

pub minus_plus : (a b : ℕ) → a < 2 ^ 32 → b < 2 ^ 32 → minus (plus a b) b ≡ a
minus_plus a b ha hb = omega arith

pub plus_minus : (a b : ℕ) → a < 2 ^ 32 → b < 2 ^ 32 → plus (minus a b) b ≡ a
plus_minus a b ha hb = omega arith

pub minus_first : (a b : ℕ) → a < 2 ^ 32 → b < 2 ^ 32 → minus (plus a b) a ≡ b
minus_first a b ha hb = omega arith

pub plus_rest : (a b : ℕ) → a < 2 ^ 32 → b < 2 ^ 32 → plus b (minus a b) ≡ a
plus_rest a b ha hb = omega arith
