-- The page 'A typed sheet' of docs/RULES.md: a line, "word by word from the left", up to its first fault: 1 to 11 of the page's table, with
-- the word at which each is found.
use Rattle.std.specs.Prelude.{List, [], ◌∷◌, Bool, true, false, cond, ℕ, ◌+◌, eqb, ltb, length, get_or, set, replicate, is_some, Option, Some, None, Result, Ok, Err}
use Rattle.words.specs.Lines.{Part, unended}
use Rattle.words.specs.Words.{words}
use Rattle.words.specs.Values.{number_of, percent_of, hex_of}
use Rattle.words.specs.declared.Fault.{Fault}
use Rattle.words.specs.declared.Fault.TheVariants.{BeginsNoLine, OneTooMany, NoOption, GivenTwice, ValueMissing, NoMethod, ChartTooLarge}
use Rattle.typed_line.specs.declared.Kind.{Kind}
use Rattle.typed_line.specs.declared.Kind.TheVariants.{Chart, Weights, Play}
use Rattle.typed_line.specs.declared.PlayOption.{PlayOption}
use Rattle.typed_line.specs.declared.PlayOption.TheVariants.{Valued, Best, Worst, Classic}
use Rattle.typed_line.specs.declared.Want.{Want}
use Rattle.typed_line.specs.declared.Want.TheVariants.{FirstWord, Nothing, OptionName, Value}
use Rattle.typed_line.specs.declared.Span.{Span}
use Rattle.typed_line.specs.declared.Line.{Line}
use Rattle.typed_line.specs.Keywords.{kind_of, method_of, option_of}

-- What is known of a line after some of its words.
-- fault: its first fault, if there is one. word: where the last word that was looked at starts, and how long it is; after a fault it is the
-- fault's. first: the same of the first word. kind: none before the first word.
-- fields: thirteen, none where one is not typed. Of a chart 0 objects, 1 holds; of weights 0 to 4; of a play 0 to 8 the options with a
-- value, by their numbers, 9 the priority, 10 classic, 11 CHART, 12 METHOD.
-- want: what the next word is to be: the line's first word, nothing, an option's name, or the value of a field; 13 the bits of field 6.
abbrev pub span : ℕ → ℕ → Span
span at size = record { at = at; size = size }

abbrev pub fresh : Line
fresh = record { fault = None; word = span 0 0; first = span 0 0; kind = None; want = FirstWord; fields = replicate 13 None }

-- the next word is looked at
abbrev pub noted : Line → Span → Line
noted l word = record { fault = l.fault; word = word; first = l.first; kind = l.kind; want = l.want; fields = l.fields }

-- a fault is found at it
abbrev pub told : Line → Fault → Line
told l fault = record { fault = Some fault; word = l.word; first = l.first; kind = l.kind; want = l.want; fields = l.fields }

-- it begins a line of a kind
abbrev pub begun : Line → Kind → Want → Line
begun l kind want = record { fault = l.fault; word = l.word; first = l.word; kind = Some kind; want = want; fields = l.fields }

-- it names an option, and another word is to follow
abbrev pub awaits : Line → Want → Line
awaits l want = record { fault = l.fault; word = l.word; first = l.first; kind = l.kind; want = want; fields = l.fields }

-- it gives field f as n
abbrev pub stores : Line → ℕ → ℕ → Want → Line
stores l f n want = record { fault = l.fault; word = l.word; first = l.first; kind = l.kind; want = want; fields = set l.fields f (Some n) }

-- the first word: a chart's objects follow, weights' first, or a play's CHART
abbrev pub first_want : Kind → Want
first_want Chart = Value 0
first_want Weights = Value 0
first_want Play = Value 11

abbrev pub opens : Line → Option Kind → Line
opens l None = told l BeginsNoLine
opens l (Some k) = begun l k (first_want k)

-- where a value of field f stands: 13 stands for the bits of field 6
unfoldable pub slot : ℕ → ℕ
slot f = cond (ltb f 13) f 6

-- the field that an option is about: acc and accbits are one, and so are best and worst
abbrev pub field_of : PlayOption → ℕ
field_of (Valued f) = slot f
field_of Best = 9
field_of Worst = 9
field_of Classic = 10

-- an option's name: best is priority 0, worst 1, and classic 1
abbrev pub named : Line → PlayOption → Line
named l (Valued f) = awaits l (Value f)
named l Best = stores l 9 0 OptionName
named l Worst = stores l 9 1 OptionName
named l Classic = stores l 10 1 OptionName

unfoldable pub names : Line → Option PlayOption → Line
unfolding slot
names l None = told l NoOption
names l (Some o) = cond (is_some (get_or l.fields (field_of o) None)) (told l GivenTwice) (named l o)

-- "CHART is at most 65535"
abbrev pub under : Result ℕ Fault → ℕ → Result ℕ Fault
under (Ok n) most = cond (ltb most n) (Err ChartTooLarge) (Ok n)
under (Err fault) most = Err fault

abbrev pub method : Option ℕ → Result ℕ Fault
method None = Err NoMethod
method (Some m) = Ok m

-- the value of a word for field f, where 13 stands for the bits of field 6
unfoldable pub value_for : ℕ → List ℕ → Result ℕ Fault
unfolding percent_of number_of hex_of method_of
value_for f w =
    cond (eqb f 6) (percent_of w)
    (cond (eqb f 11) (under (number_of w) 65535)
    (cond (eqb f 12) (method (method_of w))
    (cond (eqb f 13) (hex_of w)
    (number_of w))))

-- what follows the value of field f: in a chart holds follows objects; in weights the next of the five; in a play METHOD follows CHART, and
-- an option's name any other
abbrev pub after_play : ℕ → Want
after_play f = cond (eqb f 11) (Value 12) OptionName

unfoldable pub after : Option Kind → ℕ → Want
after (Some Chart) f = cond (eqb f 0) (Value 1) Nothing
after (Some Weights) f = cond (ltb f 4) (Value (f + 1)) Nothing
after (Some Play) f = after_play f
after None f = after_play f

unfoldable pub fills : Line → ℕ → Result ℕ Fault → Line
unfolding slot after
fills l f (Ok n) = stores l (slot f) n (after l.kind f)
fills l f (Err fault) = told l fault

unfoldable pub judged_as : Want → Line → List ℕ → Line
unfolding names fills value_for kind_of option_of
judged_as FirstWord l w = opens l (kind_of w)
judged_as Nothing l w = told l OneTooMany
judged_as OptionName l w = names l (option_of w)
judged_as (Value f) l w = fills l f (value_for f w)

unfoldable pub judged : Line → List ℕ → Line
unfolding judged_as
judged l w = judged_as l.want l w

-- a word more; after a fault the line stays as it is
unfoldable pub takes : Line → Part → Line
unfolding judged
takes l p = cond (is_some l.fault) l (judged (noted l (span p.at (length p.bytes))) p.bytes)

unfoldable pub takes_all : Line → List Part → Line
unfolding takes
takes_all l [] = l
takes_all l (p ∷ ps) = takes_all (takes l p) ps

-- the end of the line: where a value, CHART or METHOD is to stand, it is a fault at the last word
abbrev pub lacks : Want → Bool
lacks FirstWord = false
lacks Nothing = false
lacks OptionName = false
lacks (Value f) = true

abbrev pub closed : Line → Line
closed l = cond (is_some l.fault) l (cond (lacks l.want) (told l ValueMissing) l)

-- the words of a line that starts at i
unfoldable pub read_of : ℕ → List ℕ → Line
unfolding takes_all words
read_of i s = closed (takes_all fresh (words i s))

unfoldable pub line_of : Part → Line
unfolding read_of unended
line_of p = read_of p.at (unended p.bytes)
