-- `totals::Totals::with_next` meets its contract. Assumes nothing.
use mathlib.Core.Path.{◌∙◌}
use native.Mathlib.Omega.{arith}
use Rattle.totals.proofs.Next.{refused_adds_nothing, worked_adds, sum_room, sum_more, sum_kept}
use Rattle.totals.proofs.Totals.with_next.Goals as goal

pub returns-then-u32_at-gt0 : goal.returns-then-u32_at-gt0
returns-then-u32_at-gt0 c =
    let x = c.args in
    let w = c.requires.within.0 in (
      record {
        rows = sum_kept x.k _ w.rows;
        n320 = sum_kept x.k _ w.n320;
        n300 = sum_kept x.k _ w.n300;
        n200 = sum_kept x.k _ w.n200;
        n100 = sum_kept x.k _ w.n100;
        n50 = sum_kept x.k _ w.n50;
        misses = sum_kept x.k _ w.misses;
      },
      c.requires.within.1 ∙ refused_adds_nothing x.out.now x.k (omega arith),
    )

pub returns : goal.returns
returns c =
    let x = c.args in
    let p = c.requires.within in
    let w = p.0 in
    let a = c.plus_at.ensures in
    let b = c.plus_at-2.ensures in
    let d = c.plus_at-3.ensures in
    let e = c.plus_at-4.ensures in
    let f = c.plus_at-5.ensures in
    let g = c.plus_at-6.ensures in (
      record {
        rows = sum_more x.k _ _ w.rows (omega arith);
        n320 = sum_more x.k _ _ w.n320 a.1;
        n300 = sum_more x.k _ _ w.n300 b.1;
        n200 = sum_more x.k _ _ w.n200 d.1;
        n100 = sum_more x.k _ _ w.n100 e.1;
        n50 = sum_more x.k _ _ w.n50 f.1;
        misses = sum_more x.k _ _ w.misses g.1;
      },
      worked_adds x.out.now x.k x.self p.1 (omega arith) _ _ _ _ _ _ a.0 b.0 d.0 e.0 f.0 g.0,
    )

pub plus_at-requires : goal.plus_at-requires
plus_at-requires c = record { sum_bound = sum_room c.args.k _ c.requires.k_bound.0 c.requires.within.0.n320; at_in_bounds = omega arith }

pub plus_at-requires-2 : goal.plus_at-requires-2
plus_at-requires-2 c = record { sum_bound = sum_room c.args.k _ c.requires.k_bound.0 c.requires.within.0.n300; at_in_bounds = omega arith }

pub plus_at-requires-3 : goal.plus_at-requires-3
plus_at-requires-3 c = record { sum_bound = sum_room c.args.k _ c.requires.k_bound.0 c.requires.within.0.n200; at_in_bounds = omega arith }

pub plus_at-requires-4 : goal.plus_at-requires-4
plus_at-requires-4 c = record { sum_bound = sum_room c.args.k _ c.requires.k_bound.0 c.requires.within.0.n100; at_in_bounds = omega arith }

pub plus_at-requires-5 : goal.plus_at-requires-5
plus_at-requires-5 c = record { sum_bound = sum_room c.args.k _ c.requires.k_bound.0 c.requires.within.0.n50; at_in_bounds = omega arith }

pub plus_at-requires-6 : goal.plus_at-requires-6
plus_at-requires-6 c = record { sum_bound = sum_room c.args.k _ c.requires.k_bound.0 c.requires.within.0.misses; at_in_bounds = omega arith }
