-- `best_of`: each arm tries the candidates of so many missing judgements.
use mathlib.Core.Path.{sym, ap, ◌∙◌}
use Rattle.inspect.specs.Presence.{lacking}
use Rattle.inspect.proofs.Lacking.{is_nothing, is_one}
use Rattle.nearest_laws.specs.Walk.{Best, over, settle}
use Rattle.nearest_laws.proofs.Low.{all-points}
use Rattle.nearest_laws.proofs.Search.{three_count}
use Rattle.walk.specs.Code.{view, middle_of}
use Rattle.plan.proofs.Missing.{two_missing}
use Rattle.nearest.proofs.best_of.Goals as goal

pub each_n300-requires : goal.each_n300-requires
each_n300-requires c =
    let x = c.args in
    let h = c.requires in
    let p = x.plan in
    let s = h.slots in
    let two = two_missing (lacking x.presence) c.missing_of.result c.missing_of.ensures c.in-Two.is in (
      h.points,
      record {
        order = h.apart two;
        slots = s;
        tried =
            three_count p.a p.c p.target.0 (middle_of p.n300) (middle_of p.n200) (middle_of p.n100) x.remain_hits.0 x.points.0
            (view c.fresh-start.result) (ap (λ (b : Best). b.tried) c.fresh-start.ensures) h.light s.n300 s.n200 s.n100;
      },
    )

pub returns-in-Nothing : goal.returns-in-Nothing
unfolding settle
returns-in-Nothing c = rw (is_nothing (lacking c.args.presence) (sym c.in-Nothing.is ∙ c.missing_of.ensures)) c.fresh-start.ensures

pub returns-in-One : goal.returns-in-One
unfolding settle over
returns-in-One c =
    let x = c.args in
    rw (is_one (lacking x.presence) (sym c.in-One.is ∙ c.missing_of.ensures))
    (rw c.fresh-start.ensures at (c.attempt.ensures x.plan (rw (c.gap.ensures, c.add.ensures, c.mul.ensures, all-points))))
