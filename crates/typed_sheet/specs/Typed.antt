-- The page 'A typed sheet' of docs/RULES.md: "Lines of the three kinds may stand in any order: the sheet has the charts, the weights and the
-- plays each in the order of their lines"; "A text is judged line by line .., and the first fault is told by its line, its number and the
-- word at which it was found"; and faults 12 to 15 of its table.
use Rattle.std.specs.Prelude.{List, [], ◌∷◌, ◌++◌, Bool, true, false, cond, ◌≡◌, ℕ, ◌+◌, ◌*◌, ltb, length, drop, Option, Some, None, Result, Ok, Err}
use Rattle.little_endian.specs.Bytes.{bytes4}
use Rattle.words.specs.Lines.{Part, lines}
use Rattle.words.specs.declared.Fault.{Fault}
use Rattle.words.specs.declared.Fault.TheVariants.{TooManyCharts, TooManyWeights, TooManyPlays}
use Rattle.typed_line.specs.declared.Span.{Span}
use Rattle.typed_line.specs.declared.Kind.{Kind}
use Rattle.typed_line.specs.declared.Kind.TheVariants.{Chart, Weights, Play}
use Rattle.typed_line.specs.declared.Line.{Line}
use Rattle.typed_line.specs.Line.{line_of}
use Rattle.typed_records.specs.Records.{record_bytes}
use Rattle.typed_sheet.specs.declared.LineFault.{LineFault}
use Rattle.typed_sheet.specs.declared.Tally.{Tally}
use Rattle.typed_sheet.specs.declared.TypedError.{TypedError}
use Rattle.typed_sheet.specs.declared.TypedError.TheVariants.{Faulty, Short}

-- ---- the judgement of the lines
-- What is known after some lines: how many there are of each kind, or the first fault with its line and its word.
abbrev pub counted : ℕ → ℕ → ℕ → Tally
counted c w p = record { charts = c; weights = w; plays = p }

abbrev pub none : Result Tally LineFault
none = Ok (counted 0 0 0)

abbrev pub stopped : ℕ → Fault → Span → Result Tally LineFault
stopped nth fault word = Err (record { line = nth; fault = fault; word = word })

-- a line of a kind more, or one too many of it
abbrev pub counts : Tally → Kind → Result Tally Fault
counts t Chart = cond (ltb t.charts 256) (Ok (counted (t.charts + 1) t.weights t.plays)) (Err TooManyCharts)
counts t Weights = cond (ltb t.weights 1) (Ok (counted t.charts (t.weights + 1) t.plays)) (Err TooManyWeights)
counts t Play = cond (ltb t.plays 1024) (Ok (counted t.charts t.weights (t.plays + 1))) (Err TooManyPlays)

abbrev pub told_at : ℕ → Span → Result Tally Fault → Result Tally LineFault
told_at nth word (Ok t) = Ok t
told_at nth word (Err fault) = stopped nth fault word

-- a line without a fault of its own; one too many of its kind is told at its first word
abbrev pub tallied_as : Option Kind → Tally → ℕ → Span → Result Tally LineFault
tallied_as (Some kind) t nth first = told_at nth first (counts t kind)
tallied_as None t nth first = Ok t

-- a line with a fault of its own, or without one
abbrev pub tallied : Option Fault → Tally → ℕ → Line → Result Tally LineFault
tallied (Some fault) t nth l = stopped nth fault l.word
tallied None t nth l = tallied_as l.kind t nth l.first

-- line nth more; after a fault all stays as it is
unfoldable pub tallies : Result Tally LineFault → ℕ → Line → Result Tally LineFault
tallies (Ok t) nth l = tallied l.fault t nth l
tallies (Err told) nth l = Err told

-- the lines behind line nth; "Lines are counted from 1, empty ones too"
unfoldable pub tally_all : Result Tally LineFault → ℕ → List Part → Result Tally LineFault
unfolding line_of tallies
tally_all t nth [] = t
tally_all t nth (p ∷ ps) = tally_all (tallies t (nth + 1) (line_of p)) (nth + 1) ps

unfoldable pub tally_of : List ℕ → Result Tally LineFault
unfolding tally_all lines
tally_of text = tally_all none 0 (lines text)

-- ---- the sheet
abbrev pub is_kind : Kind → Option Kind → Bool
is_kind Chart (Some Chart) = true
is_kind Chart (Some Weights) = false
is_kind Chart (Some Play) = false
is_kind Weights (Some Chart) = false
is_kind Weights (Some Weights) = true
is_kind Weights (Some Play) = false
is_kind Play (Some Chart) = false
is_kind Play (Some Weights) = false
is_kind Play (Some Play) = true
is_kind Chart None = false
is_kind Weights None = false
is_kind Play None = false

-- the records of one kind, in the order of their lines
unfoldable pub records : Kind → List Part → List ℕ
unfolding line_of
records k [] = []
records k (p ∷ ps) = cond (is_kind k (line_of p).kind) (record_bytes (line_of p)) [] ++ records k ps

abbrev pub sheet_size : Tally → ℕ
sheet_size t = 12 + 8 * t.charts + 20 * t.weights + 48 * t.plays

-- three sections, each after its count
unfoldable pub sheet_bytes : List ℕ → ℕ → ℕ → ℕ → List ℕ
unfolding bytes4 records lines
sheet_bytes text charts weights plays =
    bytes4 charts ++ records Chart (lines text) ++ bytes4 weights ++ records Weights (lines text) ++ bytes4 plays ++ records Play (lines text)

-- what is answered, and all bytes of the output
pub record Outcome : Type 0 where
  pub answer : Result ℕ TypedError
  pub bytes : List ℕ

-- a fault; fault 15, "the output is too short for the sheet .., only where no line has a fault"; or the sheet, at the front of the output
unfoldable pub outcome_of : List ℕ → List ℕ → Result Tally LineFault → Outcome
unfolding sheet_bytes
outcome_of text out (Err told) = record { answer = Err (Faulty told); bytes = out }
outcome_of text out (Ok t) =
    cond (ltb (length out) (sheet_size t)) (record { answer = Err Short; bytes = out })
    (record { answer = Ok (sheet_size t); bytes = sheet_bytes text t.charts t.weights t.plays ++ drop (sheet_size t) out })

unfoldable pub typed_sheet : List ℕ → List ℕ → Outcome
unfolding outcome_of tally_of
typed_sheet text out = outcome_of text out (tally_of text)

-- an answer and an output are those of an outcome
pub record Says (o : Outcome) (r : Result ℕ TypedError) (out : List ℕ) : Type 0 where
  pub answers : r ≡ o.answer
  pub holds : out ≡ o.bytes
