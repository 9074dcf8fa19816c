-- The code's structs as the definitions have them.
use Rattle.std.specs.Prelude.{ℕ, ◌+◌}
use Rattle.score_state.specs.declared.HitResults.{HitResults}
use Rattle.fast.specs.Fast.{Prelim, Upgraded, used}
use Rattle.fast.specs.declared.Partial.{Partial}
use Rattle.fast.specs.declared.Running.{Running}

-- the five counts that are no misses
abbrev pub prelim_of : HitResults → Prelim
prelim_of c = record { n320 = c.n320; n300 = c.n300; n200 = c.n200; n100 = c.n100; n50 = c.n50 }

-- the hits that are no misses, and all hits, with those that are left
abbrev pub remain_of : Partial → ℕ
remain_of p = used (prelim_of p.counts) + p.left.0

abbrev pub total_of : Partial → ℕ
total_of p = remain_of p + p.counts.misses

abbrev pub upgraded_of : Running → Upgraded
upgraded_of d = record { count = d.count.0; delta = d.delta.0 }
