-- `typed_text::places_of` meets its contract. Assumes nothing.
use native.Mathlib.Omega.{arith}
use Rattle.typed_text.proofs.Inside.{within, few_charts_read, second-count, few_own_read, third-count, all_Placed}
use Rattle.typed_text.proofs.places_of.Goals as goal

pub read_count-charts-requires : goal.read_count-charts-requires
read_count-charts-requires c = let w = within c.args.sheet.now c.requires in omega arith

pub overflow_mul-scoring : goal.overflow_mul-scoring
overflow_mul-scoring c = omega (arith, few_charts_read c.args.sheet.now c.requires c.read_count-charts.result c.read_count-charts.ensures)

pub overflow_add-scoring : goal.overflow_add-scoring
overflow_add-scoring c = omega (arith, few_charts_read c.args.sheet.now c.requires c.read_count-charts.result c.read_count-charts.ensures)

pub read_count-own-requires : goal.read_count-own-requires
read_count-own-requires c = second-count c.args.sheet.now c.requires c.read_count-charts.result c.read_count-charts.ensures

pub overflow_add-from : goal.overflow_add-from
overflow_add-from c = omega (arith, few_charts_read c.args.sheet.now c.requires c.read_count-charts.result c.read_count-charts.ensures, few_own_read c.args.sheet.now c.requires c.read_count-charts.result c.read_count-charts.ensures c.read_count-own.result c.read_count-own.ensures)

pub overflow_mul-from : goal.overflow_mul-from
overflow_mul-from c = omega (arith, few_charts_read c.args.sheet.now c.requires c.read_count-charts.result c.read_count-charts.ensures, few_own_read c.args.sheet.now c.requires c.read_count-charts.result c.read_count-charts.ensures c.read_count-own.result c.read_count-own.ensures)

pub overflow_add-from-2 : goal.overflow_add-from-2
overflow_add-from-2 c = omega (arith, few_charts_read c.args.sheet.now c.requires c.read_count-charts.result c.read_count-charts.ensures, few_own_read c.args.sheet.now c.requires c.read_count-charts.result c.read_count-charts.ensures c.read_count-own.result c.read_count-own.ensures)

pub read_count-queries-requires : goal.read_count-queries-requires
read_count-queries-requires c = third-count c.args.sheet.now c.requires c.read_count-charts.result c.read_count-charts.ensures c.read_count-own.result c.read_count-own.ensures

pub overflow_add-result : goal.overflow_add-result
overflow_add-result c = omega (arith, few_charts_read c.args.sheet.now c.requires c.read_count-charts.result c.read_count-charts.ensures, few_own_read c.args.sheet.now c.requires c.read_count-charts.result c.read_count-charts.ensures c.read_count-own.result c.read_count-own.ensures)

pub overflow_add-result-2 : goal.overflow_add-result-2
overflow_add-result-2 c = omega (arith, few_charts_read c.args.sheet.now c.requires c.read_count-charts.result c.read_count-charts.ensures, few_own_read c.args.sheet.now c.requires c.read_count-charts.result c.read_count-charts.ensures c.read_count-own.result c.read_count-own.ensures)

pub returns : goal.returns
returns c = all_Placed c.args.sheet.now c.requires c.read_count-charts.result c.read_count-charts.ensures c.read_count-own.result c.read_count-own.ensures c.read_count-queries.result c.read_count-queries.ensures
