-- The state that a cipher is in. Assumes nothing.
use Rattle.std.specs.Prelude.{ℕ, List, ◌++◌}
use Rattle.snow.specs.declared.cipher.Snow.{Snow}

-- the words of the register, and then the machine's
abbrev pub state_of : {M : Type 0} → (M → List ℕ) → Snow M → List ℕ
state_of words s = s.register.words ++ words s.machine
