-- `closest::Play::clamp_and_fill`, step by step. Assumes nothing.
use mathlib.Core.Path.{refl, ◌∙◌}
use mathlib.Core.List.{[], ◌∷◌}
use Rattle.units.proofs.Order.{min_of}
use Rattle.closest_laws.proofs.Fills.{fill_zero, clamp-is}
use Rattle.closest.specs.Code.{play_view}
use Rattle.closest.proofs.Play.clamp_and_fill.Goals as goal

pub returns : goal.returns
returns c =
    let p = c.args.self in
    let n = p.counts in
    let w = p.within in
    clamp-is p.presence n.n320 n.n300 n.n200 n.n100 n.n50 p.remain.0
    w.zero320 w.zero300 w.zero200 w.zero100 w.zero50
    (min_of (record { 0 = n.n320 }) p.remain _ c.min-n320.ensures) c.sub-after320.ensures
    (min_of (record { 0 = n.n300 }) c.sub-after320.result _ c.min-n300.ensures) c.sub-after300.ensures
    (min_of (record { 0 = n.n200 }) c.sub-after300.result _ c.min-n200.ensures) c.sub-after200.ensures
    (min_of (record { 0 = n.n100 }) c.sub-after200.result _ c.min-n100.ensures) c.sub-after100.ensures
    (min_of (record { 0 = n.n50 }) c.sub-after100.result _ c.min-n50.ensures) c.sub-rest.ensures
    (play_view p) c.fill_in.result refl refl
    (c.fill_in.ensures.0 ∙ rw c.of-clamped.ensures (fill_zero _ (c.sub-rest.result.0 ∷ []))) (c.fill_in.ensures.1 ∙ rw c.of-clamped.ensures)
