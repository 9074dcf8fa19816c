-- `typed_text::put_line` meets its contract. Assumes nothing.
use native.Mathlib.Omega.{arith}
use Rattle.text.proofs.Written.{restated}
use Rattle.typed_text.proofs.Inside.{placed}
use Rattle.typed_text.proofs.Texts.{line_chart, line_weights, line_play}
use Rattle.typed_text.proofs.put_line.Goals as goal

pub overflow_mul-j : goal.overflow_mul-j
overflow_mul-j c = let w = placed c.args.sheet.now c.args.p c.requires.placed in omega arith

pub overflow_add-j : goal.overflow_add-j
overflow_add-j c = let w = placed c.args.sheet.now c.args.p c.requires.placed in omega arith

pub read_chart-requires : goal.read_chart-requires
read_chart-requires c = let w = placed c.args.sheet.now c.args.p c.requires.placed in omega arith

pub returns-then-j-charts : goal.returns-then-j-charts
returns-then-j-charts c =
    let x = c.args in
    let e = line_chart x.sheet.now x.p c.requires.placed x.j c.if-j-charts.true c.read_chart.result c.read_chart.ensures in
    record { gained = restated c.put_chart.ensures.gained e; upper_bound = omega (arith, c.put_chart.ensures.upper_bound) }

pub overflow_add-before : goal.overflow_add-before
overflow_add-before c = let w = placed c.args.sheet.now c.args.p c.requires.placed in omega arith

pub read_weights-requires : goal.read_weights-requires
read_weights-requires c = let w = placed c.args.sheet.now c.args.p c.requires.placed in omega arith

pub returns-then-j-before : goal.returns-then-j-before
returns-then-j-before c =
    let x = c.args in
    let e = line_weights x.sheet.now x.p c.requires.placed x.j c.if-j-charts.false c.if-j-before.true c.read_weights.result c.read_weights.ensures in
    record { gained = restated c.put_weights.ensures.gained e; upper_bound = omega (arith, c.put_weights.ensures.upper_bound) }

pub overflow_mul-j-2 : goal.overflow_mul-j-2
overflow_mul-j-2 c = let w = placed c.args.sheet.now c.args.p c.requires.placed in omega arith

pub overflow_add-base : goal.overflow_add-base
overflow_add-base c = let w = placed c.args.sheet.now c.args.p c.requires.placed in omega arith

pub read_row-requires : goal.read_row-requires
read_row-requires c = let w = placed c.args.sheet.now c.args.p c.requires.placed in omega arith

pub returns : goal.returns
returns c =
    let x = c.args in
    let e = line_play x.sheet.now x.p c.requires.placed x.j c.if-j-before.false c.read_row.result c.read_row.ensures in
    record { gained = restated c.put_play.ensures.gained e; upper_bound = omega (arith, c.put_play.ensures.upper_bound) }
