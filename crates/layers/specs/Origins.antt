-- What a member of a pair names. Assumes nothing.
use Rattle.std.specs.Prelude.{◌≡◌, ℕ, List, Ok, Err, Result}
use Rattle.generator.specs.declared.OriginFault.{OriginFault}
use Rattle.generator.specs.declared.OriginFault.TheVariants.{NoOrigin}
use Rattle.generator.specs.Meaning.{Meaning, Reaches}
use Rattle.layers.specs.declared.origins.Origin.{Origin}

-- a key and an IV that reach the state at once, or that there are none
abbrev pub Names : Meaning → List ℕ → Result Origin OriginFault → Type 0
Names m s (Ok o) = Reaches m o.key o.iv 0 s
Names m s (Err f) = (f ≡ NoOrigin) × ((key iv : List ℕ) → Reaches m key iv 0 s → ⊥)
