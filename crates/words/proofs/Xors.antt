-- Equations of exclusive ors: `simp xors` sorts both sides alike and drops what is joined twice. Assumes nothing.
use Rattle.std.proofs.Common.{◌≡◌, ℕ, sym, ap, ◌∙◌}
use lib.Bits.{xor_assoc, xor_comm, xor_self, xor_zero_l, xor_zero_r}
use Rattle.words.specs.Words.{◌⊕◌}

pub xor_left : (a b c : ℕ) → a ⊕ (b ⊕ c) ≡ b ⊕ (a ⊕ c)
xor_left a b c = sym (xor_assoc a b c) ∙ ap (λ x. x ⊕ c) (xor_comm a b) ∙ xor_assoc b a c

-- what is joined twice is as it was
pub xor_twice : (a b : ℕ) → a ⊕ (a ⊕ b) ≡ b
xor_twice a b = sym (xor_assoc a a b) ∙ ap (λ x. x ⊕ b) (xor_self a)

pub ruleset xors = (xor_assoc, xor_self, xor_twice, xor_zero_l, xor_zero_r, xor_comm, xor_left)

pub joined_off : (x y : ℕ) → (x ⊕ y) ⊕ y ≡ x
joined_off x y = simp xors

-- two joins of two, the other way round
pub xor_medial : (a b c d : ℕ) → (a ⊕ b) ⊕ (c ⊕ d) ≡ (a ⊕ c) ⊕ (b ⊕ d)
xor_medial a b c d = simp xors
