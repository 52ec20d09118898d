-- What the exported calls answer, by the definitions of the calls behind them. Assumes nothing.
use Rattle.std.specs.Prelude.{◌≡◌, ℕ, ◌+◌, ◌<◌, cond, List, length, Some, None, Ok, Err, Option, Result, ◌==◌, slice_index}
use Rattle.std.specs.Borrow.{Bor}
use Rattle.words.specs.Words.{word_at}
use Rattle.fields.specs.Doubling.{doubled}
use Rattle.fields.specs.Boxes.{sr, sq, undone}
use Rattle.fields.specs.Mixing.{share, s1, s2, s1_undone, s2_undone}
use Rattle.fields.specs.Alpha.{mul_alpha, div_alpha, times_alpha, over_alpha}
use Rattle.generator.specs.Meaning.{Meaning, times}
use Rattle.session.specs.declared.refusals.Refusal.{Refusal}
use Rattle.session.specs.declared.refusals.TraceFault.{TraceFault}
use Rattle.session.specs.Refusals.{number, member_of, trace_number}
use Rattle.session.specs.View.{View, shut}
use Rattle.session.specs.Calls.{Opened, Skipped, Applied, Traced}
use Rattle.snow.specs.declared.labels.LabelFault.{LabelFault}
use Rattle.snow.specs.Labels.{label_number, Labelled}
use Rattle.strips.specs.declared.stops.Report.{Report}
use Rattle.strips.specs.Stops.{outcome_number}
use Rattle.strips.specs.Sheets.{generator_of, SheetOf}
use Rattle.exports.specs.Faults.{unknown, call_number}
use Rattle.exports.specs.declared.faults.CallFault.{CallFault}
use Rattle.exports.specs.declared.answers.SheetReport.{SheetReport}
use Rattle.exports.specs.declared.answers.Outcome.{Outcome}
use Rattle.exports.specs.declared.answers.Names.{Names}
use Rattle.exports.specs.declared.answers.LabelPart.{LabelPart}

-- the generator of a number, as the first word of a sheet names it
abbrev pub generator_number : ℕ → Option Meaning
generator_number n = generator_of (0x90000000 + n)

-- a report by numbers
abbrev pub report_numbers : Report → SheetReport
report_numbers r = record { number = outcome_number r.stopped; words = r.words; bytes = r.bytes; refused = r.refused }

abbrev pub SheetBy : List ℕ → List ℕ → SheetReport → List ℕ → Type 0
SheetBy input before numbers after = (r : Report) × (numbers ≡ report_numbers r) × SheetOf input before r after

-- an answer by numbers: 0 where there is no refusal
abbrev pub outcome_of : Result Unit Refusal → Outcome
outcome_of (Ok tt) = record { number = 0; member = 0 }
outcome_of (Err e) = record { number = number e; member = member_of e }

-- A new session opened, so many bytes skipped, and keystream applied to a window of a buffer: the answer, which is the first refusal, and the
-- buffer after it.
pub data Sent (m : Meaning) (key iv : List ℕ) (limit skipped start count : ℕ) (buffer : List ℕ) : Result Unit Refusal → List ℕ → Type 0 where
  not_opened : (v : View) (e : Refusal) → Opened m (shut m) key iv limit (Err e) v → Sent m key iv limit skipped start count buffer (Err e) buffer
  not_skipped : (v w : View) (e : Refusal) → Opened m (shut m) key iv limit (Ok tt) v → Skipped m v skipped (Err e) w → Sent m key iv limit skipped start count buffer (Err e) buffer
  applied : (v w x : View) (after : List ℕ) (r : Result Unit Refusal) → Opened m (shut m) key iv limit (Ok tt) v → Skipped m v skipped (Ok tt) w → Applied m w start count buffer r x after
      → Sent m key iv limit skipped start count buffer r after

abbrev pub SentBy : ℕ → List ℕ → List ℕ → ℕ → ℕ → ℕ → ℕ → List ℕ → Outcome → List ℕ → Type 0
SentBy n key iv limit skipped start count buffer o after =
    elim (generator_number n) [
      | Some m ↦ (r : Result Unit Refusal) × (o ≡ outcome_of r) × Sent m key iv limit skipped start count buffer r after
      | None ↦ (o ≡ record { number = unknown; member = 0 }) × (after ≡ buffer)
    ]

abbrev pub no_names : ℕ → Names
no_names n = record { number = n; key = 0; iv = 0 }

abbrev pub names_of : Result (ℕ × ℕ) TraceFault → Names
names_of (Ok lengths) = record { number = 0; key = lengths.0; iv = lengths.1 }
names_of (Err e) = no_names (trace_number e)

-- the same, where the state may be refused too
abbrev pub answer_names : Result (ℕ × ℕ) CallFault → Names
answer_names (Ok lengths) = record { number = 0; key = lengths.0; iv = lengths.1 }
answer_names (Err e) = no_names (call_number e)

-- a trace from a state
abbrev pub NamesOf : Meaning → List ℕ → ℕ → List ℕ → List ℕ → Names → List ℕ → List ℕ → Type 0
NamesOf m state n key iv names key_after iv_after = (a : Result (ℕ × ℕ) TraceFault) × (names ≡ names_of a) × Traced m n state key iv a key_after iv_after

-- a trace from the state of some words; another count of words than the generator's is refused by 12
abbrev pub TracedFrom : Meaning → List ℕ → ℕ → List ℕ → List ℕ → Names → List ℕ → List ℕ → Type 0
TracedFrom m state n key iv names key_after iv_after =
    cond (length state == m.size)
    (NamesOf m state n key iv names key_after iv_after)
    ((names ≡ no_names 12) × (key_after ≡ key) × (iv_after ≡ iv))

abbrev pub TracedBy : ℕ → List ℕ → ℕ → List ℕ → List ℕ → Names → List ℕ → List ℕ → Type 0
TracedBy g state n key iv names key_after iv_after =
    elim (generator_number g) [
      | Some m ↦ TracedFrom m state n key iv names key_after iv_after
      | None ↦ (names ≡ no_names unknown) × (key_after ≡ key) × (iv_after ≡ iv)
    ]

-- the words from a state on, one for each place of a buffer
pub record Stream (m : Meaning) (state before after : List ℕ) : Type 0 where
  pub same_length : length after ≡ length before
  pub each : (i : ℕ) → i < length before → slice_index after i ≡ m.word (times i m.next state)

-- The words from a given state on, after so many steps back: 0, or 12 and 18 as above, and the buffer after it.
abbrev pub StreamedFrom : Meaning → List ℕ → ℕ → List ℕ → ℕ → List ℕ → Type 0
StreamedFrom m state back before r after =
    cond (length state == m.size) ((r ≡ 0) × Stream m (times back m.back state) before after) ((r ≡ 12) × (after ≡ before))

-- the number of an answer without a value
abbrev pub words_number : Result Unit CallFault → ℕ
words_number (Ok tt) = 0
words_number (Err e) = call_number e

abbrev pub StreamedBy : ℕ → List ℕ → ℕ → List ℕ → ℕ → List ℕ → Type 0
StreamedBy g state back before r after =
    elim (generator_number g) [ Some m ↦ StreamedFrom m state back before r after | None ↦ (r ≡ unknown) × (after ≡ before) ]

-- the four bytes of a label as a word
abbrev pub part_of : Result (Bor (List ℕ)) LabelFault → LabelPart
part_of (Ok part) = record { number = 0; word = word_at part.now 0 }
part_of (Err e) = record { number = label_number e; word = 0 }

abbrev pub LabelBy : List ℕ → List ℕ → ℕ → LabelPart → Type 0
LabelBy key iv n part = (r : Result (Bor (List ℕ)) LabelFault) × (part ≡ part_of r) × Labelled key iv n r

-- an entry of a table: SR, SQ, MULα, DIVα, S1_T0, S2_T0, the inverses of SR and SQ
abbrev pub table_entry : ℕ → ℕ → ℕ
table_entry t v =
    cond (t == 0) (sr v)
    (cond (t == 1) (sq v)
    (cond (t == 2) (mul_alpha v)
    (cond (t == 3) (div_alpha v)
    (cond (t == 4) (share (doubled 0x1B) (sr v))
    (cond (t == 5) (share (doubled 0x69) (sq v))
    (cond (t == 6) (undone sr v)
    (cond (t == 7) (undone sq v)
    0)))))))

-- a word through S1, S2, their inverses, α and its inverse
abbrev pub word_through : ℕ → ℕ → ℕ
word_through b w =
    cond (b == 0) (s1 w)
    (cond (b == 1) (s2 w)
    (cond (b == 2) (s1_undone w)
    (cond (b == 3) (s2_undone w)
    (cond (b == 4) (times_alpha w)
    (cond (b == 5) (over_alpha w)
    0)))))
