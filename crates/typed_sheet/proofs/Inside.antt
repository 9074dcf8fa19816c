-- The word that is told with a fault stands inside the text.
-- Assumes nothing.
use mathlib.Core.List.{List, [], ◌∷◌}
use mathlib.Core.Bool.{Bool, true, false, cond, not}
use Prim.Native.Nat.{ℕ, ◌+◌, ◌≤◌}
use native.Mathlib.Omega.{arith}
use lib.Dec.{eqb, ltb}
use lib.ListN.{length, take, get_or, length-take}
use Rattle.std.specs.Prelude.{Option, Some, None, Result, Ok, Err, is_some}
use Rattle.words.specs.declared.Fault.{Fault}
use Rattle.words.specs.declared.Fault.TheVariants.{BeginsNoLine, OneTooMany, NoOption, GivenTwice, ValueMissing}
use Rattle.words.specs.Lines.{Part, part, line_size, lines_from, lines, unended}
use Rattle.words.specs.Words.{blank, begins, more, word_size, words_from, words}
use Rattle.typed_line.specs.declared.Span.{Span}
use Rattle.typed_line.specs.declared.Kind.{Kind}
use Rattle.typed_line.specs.declared.PlayOption.{PlayOption}
use Rattle.typed_line.specs.declared.PlayOption.TheVariants.{Valued, Best, Worst, Classic}
use Rattle.typed_line.specs.declared.Want.{Want}
use Rattle.typed_line.specs.declared.Want.TheVariants.{FirstWord, Nothing, OptionName, Value}
use Rattle.typed_line.specs.declared.Line.{Line}
use Rattle.typed_line.specs.Keywords.{kind_of, option_of}
use Rattle.typed_line.specs.Line.{span, fresh, noted, told, begun, awaits, stores, first_want, opens, field_of, named, names, value_for, slot, after, fills, judged_as, judged, takes, takes_all, lacks, closed, read_of, line_of}
use Rattle.typed_sheet.specs.declared.LineFault.{LineFault}
use Rattle.typed_sheet.specs.declared.Tally.{Tally}
use Rattle.typed_sheet.specs.declared.TypedError.{TypedError}
use Rattle.typed_sheet.specs.declared.TypedError.TheVariants.{Faulty, Short}
use Rattle.typed_sheet.specs.Typed.{counts, told_at, tallied_as, tallied, tallies, tally_all, none, tally_of, sheet_size, Outcome, outcome_of, typed_sheet}

either : {A : Type 0} (P : A → Type 0) (b : Bool) {x y : A} → P x → P y → P (cond b x y)
either P true p q = p
either P false p q = q

front_size : (n : ℕ) (s : List ℕ) → length (take n s) ≤ length s
front_size n s = simp length-take (omega arith)

unended_size : (s : List ℕ) → length (unended s) ≤ length s
unfolding unended
unended_size [] = omega arith
unended_size (b ∷ []) = either (λ (l : List ℕ). length l ≤ 1) (eqb b 13) (omega arith) (omega arith)
unended_size (b ∷ c ∷ s) = let h : length (unended (c ∷ s)) ≤ length (c ∷ s) = unended_size (c ∷ s) in omega arith

-- ---- a line
pub record Within (n : ℕ) (l : Line) : Type 0 where
  pub word : l.word.at + l.word.size ≤ n
  pub first : l.first.at + l.first.size ≤ n

module _ (n : ℕ) where
  told_within : (l : Line) (f : Fault) → Within n l → Within n (told l f)
  told_within l f w = record { word = w.word; first = w.first }

  begun_within : (l : Line) (k : Kind) (v : Want) → Within n l → Within n (begun l k v)
  begun_within l k v w = record { word = w.word; first = w.word }

  awaits_within : (l : Line) (v : Want) → Within n l → Within n (awaits l v)
  awaits_within l v w = record { word = w.word; first = w.first }

  stores_within : (l : Line) (f m : ℕ) (v : Want) → Within n l → Within n (stores l f m v)
  stores_within l f m v w = record { word = w.word; first = w.first }

  opens_within : (l : Line) (k : Option Kind) → Within n l → Within n (opens l k)
  opens_within l None w = told_within l BeginsNoLine w
  opens_within l (Some k) w = begun_within l k (first_want k) w

  named_within : (l : Line) (o : PlayOption) → Within n l → Within n (named l o)
  named_within l (Valued f) w = awaits_within l (Value f) w
  named_within l Best w = stores_within l 9 0 OptionName w
  named_within l Worst w = stores_within l 9 1 OptionName w
  named_within l Classic w = stores_within l 10 1 OptionName w

  names_within : (l : Line) (o : Option PlayOption) → Within n l → Within n (names l o)
  unfolding names
  names_within l None w = told_within l NoOption w
  names_within l (Some o) w = either (Within n) (is_some (get_or l.fields (field_of o) None)) (told_within l GivenTwice w) (named_within l o w)

  fills_within : (l : Line) (f : ℕ) (v : Result ℕ Fault) → Within n l → Within n (fills l f v)
  unfolding fills
  fills_within l f (Ok m) w = stores_within l (slot f) m (after l.kind f) w
  fills_within l f (Err fault) w = told_within l fault w

  judged-as_within : (v : Want) (l : Line) (b : List ℕ) → Within n l → Within n (judged_as v l b)
  unfolding judged_as
  judged-as_within FirstWord l b w = opens_within l (kind_of b) w
  judged-as_within Nothing l b w = told_within l OneTooMany w
  judged-as_within OptionName l b w = names_within l (option_of b) w
  judged-as_within (Value f) l b w = fills_within l f (value_for f b) w

  judged_within : (l : Line) (b : List ℕ) → Within n l → Within n (judged l b)
  unfolding judged
  judged_within l b w = judged-as_within l.want l b w

  takes_within : (l : Line) (p : Part) → p.at + length p.bytes ≤ n → Within n l → Within n (takes l p)
  unfolding takes
  takes_within l p h w =
      either (Within n) (is_some l.fault) w (judged_within (noted l (span p.at (length p.bytes))) p.bytes (record { word = h; first = w.first }))

  more_within : (p : Part) (ps : List Part) (l : Line) (b : Bool) → Within n (takes_all (takes l p) ps) → Within n (takes_all l ps) → Within n (takes_all l (more b p ps))
  unfolding takes_all
  more_within p ps l true x y = x
  more_within p ps l false x y = y

  words_within : (s : List ℕ) (i : ℕ) (inside : Bool) (l : Line) → i + length s ≤ n → Within n l → Within n (takes_all l (words_from i inside s))
  unfolding takes_all words_from
  words_within [] i inside l h w = w
  words_within (b ∷ s) i inside l h w =
      let p : Part = part i (take (word_size (b ∷ s)) (b ∷ s)) in
      let z : length (take (word_size (b ∷ s)) (b ∷ s)) ≤ length (b ∷ s) = front_size (word_size (b ∷ s)) (b ∷ s) in
      either (λ (ps : List Part). Within n (takes_all l ps)) (eqb b 35) w
      (more_within p (words_from (i + 1) (not (blank b)) s) l (begins inside b)
      (words_within s (i + 1) (not (blank b)) (takes l p) (omega arith) (takes_within l p (omega arith) w))
      (words_within s (i + 1) (not (blank b)) l (omega arith) w))

  closed_within : (l : Line) → Within n l → Within n (closed l)
  closed_within l w = either (Within n) (is_some l.fault) w (either (Within n) (lacks l.want) (told_within l ValueMissing w) w)

  line_within : (p : Part) → p.at + length p.bytes ≤ n → Within n (line_of p)
  unfolding line_of read_of words
  line_within p h =
      let z : length (unended p.bytes) ≤ length p.bytes = unended_size p.bytes in
      closed_within (takes_all fresh (words_from p.at false (unended p.bytes)))
      (words_within (unended p.bytes) p.at false fresh (omega arith) (record { word = omega arith; first = omega arith }))

  -- ---- a text
  abbrev Told : {A : Type 0} → Result A LineFault → Type 0
  Told (Ok t) = Unit {0}
  Told (Err f) = f.word.at + f.word.size ≤ n

  told-at_within : (nth : ℕ) (word : Span) (r : Result Tally Fault) → word.at + word.size ≤ n → Told (told_at nth word r)
  told-at_within nth word (Ok t) h = tt
  told-at_within nth word (Err f) h = h

  tallied-as_within : (k : Option Kind) (t : Tally) (nth : ℕ) (first : Span) → first.at + first.size ≤ n → Told (tallied_as k t nth first)
  tallied-as_within (Some k) t nth first h = told-at_within nth first (counts t k) h
  tallied-as_within None t nth first h = tt

  tallied_within : (f : Option Fault) (t : Tally) (nth : ℕ) (l : Line) → Within n l → Told (tallied f t nth l)
  tallied_within (Some f) t nth l w = w.word
  tallied_within None t nth l w = tallied-as_within l.kind t nth l.first w.first

  tallies_within : (t : Result Tally LineFault) (nth : ℕ) (l : Line) → Told t → Within n l → Told (tallies t nth l)
  unfolding tallies
  tallies_within (Ok t) nth l h w = tallied_within l.fault t nth l w
  tallies_within (Err f) nth l h w = h

  lines_within : (s : List ℕ) (i : ℕ) (begins : Bool) (t : Result Tally LineFault) (nth : ℕ) → i + length s ≤ n → Told t → Told (tally_all t nth (lines_from i begins s))
  unfolding tally_all lines_from
  lines_within [] i begins t nth h w = w
  lines_within (b ∷ s) i true t nth h w =
      let p : Part = part i (take (line_size (b ∷ s)) (b ∷ s)) in
      let z : length (take (line_size (b ∷ s)) (b ∷ s)) ≤ length (b ∷ s) = front_size (line_size (b ∷ s)) (b ∷ s) in
      lines_within s (i + 1) (eqb b 10) (tallies t (nth + 1) (line_of p)) (nth + 1) (omega arith) (tallies_within t (nth + 1) (line_of p) w (line_within p (omega arith)))
  lines_within (b ∷ s) i false t nth h w = lines_within s (i + 1) (eqb b 10) t nth (omega arith) w

tally_within : (text : List ℕ) → Told (length text) (tally_of text)
unfolding tally_of lines
tally_within text = lines_within (length text) text 0 true none 0 (omega arith) tt

-- of a fault the word's place; of any other answer nothing
abbrev pub Inside : ℕ → Result ℕ TypedError → Type 0
Inside n (Ok size) = Unit {0}
Inside n (Err (Faulty told)) = told.word.at + told.word.size ≤ n
Inside n (Err Short) = Unit {0}

outcome_within : (text out : List ℕ) (r : Result Tally LineFault) → Told (length text) r → Inside (length text) (outcome_of text out r).answer
unfolding outcome_of
outcome_within text out (Err told) h = h
outcome_within text out (Ok t) h = either (λ (o : Outcome). Inside (length text) o.answer) (ltb (length out) (sheet_size t)) tt tt

pub inside : (text out : List ℕ) → Inside (length text) (typed_sheet text out).answer
unfolding typed_sheet
inside text out = outcome_within text out (tally_of text) (tally_within text)
