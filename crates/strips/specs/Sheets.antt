-- What a sheet is answered: its first word names a generator, and a strip follows. The tests stand in their order of checking. Assumes nothing.
use Rattle.std.specs.Prelude.{◌≡◌, ℕ, cond, List, length, drop, Some, None, Option, ◌==◌, nat_lt}
use Rattle.generator.specs.Meaning.{Meaning}
use Rattle.snow.specs.Register.{register}
use Rattle.snow.specs.Snow2.{snow2}
use Rattle.snow.specs.Snow3g.{snow3g}
use Rattle.layers.specs.Pair.{pair}
use Rattle.layers.specs.EveryOther.{every_other}
use Rattle.strips.specs.declared.stops.Stop.TheVariants.{BadLength, CutShort, NoRoom, UnknownGenerator}
use Rattle.strips.specs.declared.stops.Report.{Report}
use Rattle.words.specs.Words.{word_at}
use Rattle.strips.specs.Runs.{start, report_of, bad_length, StopsAt, RunOf}

-- the generator that a word names
abbrev pub generator_of : ℕ → Option Meaning
generator_of w =
    cond (w == 0x90000000) (Some snow2)
    (cond (w == 0x90000001) (Some snow3g)
    (cond (w == 0x90000002) (Some register)
    (cond (w == 0x90000003) (Some (pair snow2 snow3g))
    (cond (w == 0x90000004) (Some (every_other snow2))
    None))))

-- A sheet with a buffer for the replies: the report, and the buffer after it. The strip's words are counted from its own first word.
abbrev pub SheetOf : List ℕ → List ℕ → Report → List ℕ → Type 0
SheetOf input before r after =
    cond (nat_lt (length before) 4) ((r ≡ report_of (Some NoRoom) start) × (after ≡ before))
    (cond (bad_length input) (StopsAt BadLength before r after)
    (cond (length input == 0) (StopsAt CutShort before r after)
    (elim (generator_of (word_at input 0)) [ Some m ↦ RunOf m (drop 4 input) before r after | None ↦ StopsAt UnknownGenerator before r after ])))
