-- The page 'A typed sheet' of docs/RULES.md, its table of faults, 1 to 14: each by its number.
use Rattle.std.specs.Prelude.{ℕ}
use Rattle.words.specs.declared.Fault.{Fault}
use Rattle.words.specs.declared.Fault.TheVariants.{BeginsNoLine, OneTooMany, NoOption, GivenTwice, ValueMissing, NoWholeNumber, NumberTooLarge, NoPercentage, NotHex, NoMethod, ChartTooLarge, TooManyCharts, TooManyWeights, TooManyPlays}

-- "| 1 | a line's first word is neither chart, weights nor play |" and so on, down to "12, 13, 14 | the line of a 257th chart, a second line
-- of weights, the line of a 1025th play"
abbrev pub fault_number : Fault → ℕ
fault_number BeginsNoLine = 1
fault_number OneTooMany = 2
fault_number NoOption = 3
fault_number GivenTwice = 4
fault_number ValueMissing = 5
fault_number NoWholeNumber = 6
fault_number NumberTooLarge = 7
fault_number NoPercentage = 8
fault_number NotHex = 9
fault_number NoMethod = 10
fault_number ChartTooLarge = 11
fault_number TooManyCharts = 12
fault_number TooManyWeights = 13
fault_number TooManyPlays = 14
