-- Document 01, Where a row or sheet stops, the column "no." of its table; document 02: L4's 18 and 19, L9's 21. And Language forms: "For
-- every answer that is an enum, a definition gives this paper's number and values for each case of the enum."
use Rattle.std.specs.Prelude.{ℕ}
use Rattle.refusals.specs.declared.Refusal.{Refusal}
use Rattle.refusals.specs.declared.Refusal.TheVariants.{Cut, ChartsOver, QueriesOver, Followed, Short, NoChart, ChartOver, UnknownCode, LeftOver, CountOver, AccOutside, Overfull, AccMissing, NoSplit, WeightsUnfit, OwnUnfit, RelayCount}

-- a refusal's number
abbrev pub number_of : Refusal → ℕ
number_of Cut = 1
number_of ChartsOver = 2
number_of QueriesOver = 3
number_of Followed = 4
number_of Short = 5
number_of NoChart = 6
number_of ChartOver = 7
number_of UnknownCode = 8
number_of LeftOver = 9
number_of CountOver = 10
number_of AccOutside = 11
number_of Overfull = 12
number_of AccMissing = 13
number_of NoSplit = 14
number_of WeightsUnfit = 18
number_of OwnUnfit = 19
number_of RelayCount = 21
