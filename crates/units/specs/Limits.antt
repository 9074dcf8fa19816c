-- Document 01, Records: a chart's objects and hold notes are "at most 100,000" each, and document 02, L4: weights fall "from at most
-- 100"; L9: a relay has "two to eight charts". The limits that keep every sum of hits and points within u32, each named once here.
use Rattle.std.specs.Prelude.{ℕ}

-- the largest u32
abbrev pub most32 : ℕ
most32 = 4_294_967_295

-- the most hits of a chart: 100,000 objects and as many hold notes (check 7)
abbrev pub most_hits : ℕ
most_hits = 200_000

-- the most hits of a relay (document 02, L9): those of eight charts
abbrev pub most_pooled_hits : ℕ
most_pooled_hits = 1_600_000

-- the heaviest weight
abbrev pub most_weight : ℕ
most_weight = 100

-- the most points of a chart, and so the largest target: most_hits at most_weight each
abbrev pub most_points : ℕ
most_points = 20_000_000
