-- The page 'A typed sheet' of docs/RULES.md: "What is not typed is missing: zero bytes and no presence bit (byte 6 is 1 where holds is
-- typed)"; and that document's 'Records, byte by byte': the record of a line.
use Rattle.std.specs.Prelude.{List, [], ◌∷◌, ◌++◌, cond, ℕ, ◌+◌, ◌*◌, ◌/◌, ◌%◌, get_or, is_some, Option, Some, None}
use Rattle.lists.specs.Lists.{joined}
use Rattle.little_endian.specs.Bytes.{bytes4}
use Rattle.std.specs.Option.{unwrap_or}
use Rattle.typed_line.specs.declared.Kind.{Kind}
use Rattle.typed_line.specs.declared.Kind.TheVariants.{Chart, Weights, Play}
use Rattle.typed_line.specs.declared.Line.{Line}

-- a field's value, 0 where it is not typed
abbrev pub value : Line → ℕ → ℕ
value l f = unwrap_or (get_or l.fields f None) 0

-- 1 where the field is typed, else 0
abbrev pub flag : Line → ℕ → ℕ
flag l f = cond (is_some (get_or l.fields f None)) 1 0

abbrev pub value_at : Line → ℕ → List ℕ
value_at l f = bytes4 (value l f)

-- the first n fields, four bytes each: two for a chart, five for weights, a play's counts and misses for six
unfoldable pub value_bytes : Line → ℕ → List ℕ
value_bytes l n = joined (value_at l) n

-- a bit for each of n320, n300, n200, n100, n50, misses, acc, passed
unfoldable pub presence : Line → ℕ
presence l = flag l 0 + 2 * flag l 1 + 4 * flag l 2 + 8 * flag l 3 + 16 * flag l 4 + 32 * flag l 5 + 64 * flag l 6 + 128 * flag l 7

-- 0 CHART, two bytes; 2 METHOD; 3 the priority
unfoldable pub named_bytes : Line → List ℕ
named_bytes l = value l 11 % 256 ∷ value l 11 / 256 % 256 ∷ value l 12 % 256 ∷ value l 9 % 256 ∷ []

-- 4 classic; 5 presence; 6 whether holds is typed; 7 zero
unfoldable pub given_bytes : Line → List ℕ
unfolding presence
given_bytes l = value l 10 % 256 ∷ presence l ∷ flag l 8 ∷ 0 ∷ []

-- 32 passed; 36 acc, the f64's bits, eight bytes; 44 holds
unfoldable pub tail_bytes : Line → List ℕ
tail_bytes l = bytes4 (value l 7) ++ bytes4 (value l 6) ++ bytes4 (value l 6 / 4294967296) ++ bytes4 (value l 8)

-- a query, with n320, n300, n200, n100, n50 and misses from 8 on
unfoldable pub play_bytes : Line → List ℕ
unfolding named_bytes given_bytes value_bytes tail_bytes
play_bytes l = named_bytes l ++ given_bytes l ++ value_bytes l 6 ++ tail_bytes l

-- the record of a line that has a kind
abbrev pub bytes_by : Option Kind → Line → List ℕ
bytes_by (Some Chart) l = value_bytes l 2
bytes_by (Some Weights) l = value_bytes l 5
bytes_by (Some Play) l = play_bytes l
bytes_by None l = play_bytes l

abbrev pub record_bytes : Line → List ℕ
record_bytes l = bytes_by l.kind l

abbrev pub record_size : Option Kind → ℕ
record_size (Some Chart) = 8
record_size (Some Weights) = 20
record_size (Some Play) = 48
record_size None = 48
