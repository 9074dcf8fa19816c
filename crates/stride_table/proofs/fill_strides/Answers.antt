-- `fill_strides`: the standard sets are weightings, and their table is the constant one.
use mathlib.Core.Bool.{Bool, true, false, true≢false}
use mathlib.Core.Path.{◌≡◌, refl, sym, ap, ◌∙◌}
use mathlib.Core.List.{List}
use Prim.Native.Nat.{ℕ}
use lib.ListN.{take}
use Rattle.score_state.specs.Points.{weights_of, standard}
use Rattle.nearest_laws.specs.Nearest.{standard-weighting, weighs}
use Rattle.nearest_laws.proofs.Weighs.{weighed}
use Rattle.stride_table.proofs.Table.{standard-table}
use Rattle.stride_table.proofs.fill_strides.Goals as goal
use Rattle.stride_table.proofs.fill_strides.Goals.{then-not-is_weighting-via-then-not-is_weighting, then-not-is_weighting-via-else-not-is_weighting+then-not-is_weighting-2}

-- a standard set is not refused
stands : (classic : Bool) (ws : List ℕ) (b : Bool) → b ≡ weighs ws → b ≡ false → ws ≡ standard classic → ⊥
stands classic ws b e f h = true≢false (sym (weighed (standard classic) (standard-weighting classic)) ∙ ap weighs (sym h) ∙ sym e ∙ f)

pub returns-then-not-is_weighting-clause-standard : goal.returns-then-not-is_weighting-clause-standard
returns-then-not-is_weighting-clause-standard c e f h =
    let x = c.args in
    elim c.then-not-is_weighting.branch [
      | then-not-is_weighting-via-then-not-is_weighting w ↦ absurd (stands false (weights_of x.first) _ c.is_weighting.ensures w.if-not-is_weighting.true e)
      | then-not-is_weighting-via-else-not-is_weighting+then-not-is_weighting-2 w ↦
          absurd (stands true (weights_of x.second) _ w.is_weighting-else-not-is_weighting.ensures w.if-not-is_weighting-2.true f)
    ]

pub returns-clause-standard : goal.returns-clause-standard
returns-clause-standard c e f h =
    let x = c.args in
    (refl, ap (take 320) c.put_rows.ensures ∙ standard-table (weights_of x.first) (weights_of x.second) x.out.now e f)
