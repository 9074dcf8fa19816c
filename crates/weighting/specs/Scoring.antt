-- Document 02, L4: "A third section stands between charts and queries: a count of 0 or 1, then five u32 weights from n320 to n50. .. With 1,
-- method 3 uses those weights in points and target, .. and classic decides holds only." By which weights a sheet's rows are scored.
use Rattle.std.specs.Prelude.{ℕ, Bool, true, List}
use Rattle.score_state.specs.Points.{standard, weights_of}
use Rattle.nearest_laws.specs.Nearest.{weighs}
use Rattle.weighting.specs.declared.Scoring.{Scoring}
use Rattle.weighting.specs.declared.Scoring.TheVariants.{Standard, Own}

-- the weights of a row, from n320 to n50, by its classic flag: own ones do not look at it
abbrev pub weights_by : Scoring → Bool → List ℕ
weights_by Standard classic = standard classic
weights_by (Own w) classic = weights_of w

-- the weights that check 18 lets pass: "The first two may be equal ..; otherwise weights fall strictly, from at most 100 to at least 1."
abbrev pub allowed : Scoring → Bool
allowed Standard = true
allowed (Own w) = weighs (weights_of w)

-- demand 3's bound on tried: "at most 88,434 for any chart"; with own weights "never over 1,940,598, demand 3's bound there"
abbrev pub most_tried : Scoring → ℕ
most_tried Standard = 88_434
most_tried (Own w) = 1_940_598
