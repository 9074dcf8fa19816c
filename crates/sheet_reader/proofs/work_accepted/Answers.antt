-- Each read fits, since no check stops the sheet; the records are read of the bytes that it hands back, which are the sheet's at the reader's place.
use Rattle.std.proofs.Common.{◌≡◌, ◌≤◌, ◌*◌, length, arith}
use Rattle.sheet_reader.proofs.Walked.{first_fits, first_read, few_charts, listed_fits, listed_read, second_fits, second_read, at_most_one_set, weights_fits, weights_read, third_fits, scoring_allowed, third_read, rows_fits, answers_fit, all_worked}
use Rattle.sheet_reader.proofs.work_accepted.Goals as goal

pub read-requires : goal.read-requires
read-requires c = first_fits c.args.sheet (length c.args.out.now) c.requires c.new-reader.result c.new-reader.ensures

pub read_count-count-requires : goal.read_count-count-requires
read_count-count-requires c = let e : length c.read.result.now ≡ 4 = first_read c.args.sheet (length c.args.out.now) c.requires c.new-reader.result c.new-reader.ensures c.read.result c.read.new.self c.read.ensures in omega arith

pub overflow_mul-count : goal.overflow_mul-count
overflow_mul-count c = let e : c.read_count-count.result ≤ 256 = few_charts c.args.sheet (length c.args.out.now) c.requires c.new-reader.result c.new-reader.ensures c.read.result c.read.new.self c.read.ensures c.read_count-count.result c.read_count-count.ensures in omega arith

pub read-requires-2 : goal.read-requires-2
read-requires-2 c = listed_fits c.args.sheet (length c.args.out.now) c.requires c.new-reader.result c.new-reader.ensures c.read.result c.read.new.self c.read.ensures c.read_count-count.result c.read_count-count.ensures

pub read_charts-charts-requires : goal.read_charts-charts-requires
read_charts-charts-requires c =
    let e : length c.read-2.result.now ≡ 8 * c.read_count-count.result = listed_read c.args.sheet (length c.args.out.now) c.requires c.new-reader.result c.new-reader.ensures c.read.result c.read.new.self c.read.ensures c.read_count-count.result c.read_count-count.ensures c.read-2.result c.read-2.new.self c.read-2.ensures in
    (omega arith, few_charts c.args.sheet (length c.args.out.now) c.requires c.new-reader.result c.new-reader.ensures c.read.result c.read.new.self c.read.ensures c.read_count-count.result c.read_count-count.ensures)

pub read-requires-3 : goal.read-requires-3
read-requires-3 c = second_fits c.args.sheet (length c.args.out.now) c.requires c.new-reader.result c.new-reader.ensures c.read.result c.read.new.self c.read.ensures c.read_count-count.result c.read_count-count.ensures c.read-2.result c.read-2.new.self c.read-2.ensures

pub read_count-own-requires : goal.read_count-own-requires
read_count-own-requires c = let e : length c.read-3.result.now ≡ 4 = second_read c.args.sheet (length c.args.out.now) c.requires c.new-reader.result c.new-reader.ensures c.read.result c.read.new.self c.read.ensures c.read_count-count.result c.read_count-count.ensures c.read-2.result c.read-2.new.self c.read-2.ensures c.read-3.result c.read-3.new.self c.read-3.ensures in omega arith

pub overflow_mul-own : goal.overflow_mul-own
overflow_mul-own c = let e : c.read_count-own.result ≤ 1 = at_most_one_set c.args.sheet (length c.args.out.now) c.requires c.new-reader.result c.new-reader.ensures c.read.result c.read.new.self c.read.ensures c.read_count-count.result c.read_count-count.ensures c.read-2.result c.read-2.new.self c.read-2.ensures c.read-3.result c.read-3.new.self c.read-3.ensures c.read_count-own.result c.read_count-own.ensures in omega arith

pub read-requires-4 : goal.read-requires-4
read-requires-4 c = weights_fits c.args.sheet (length c.args.out.now) c.requires c.new-reader.result c.new-reader.ensures c.read.result c.read.new.self c.read.ensures c.read_count-count.result c.read_count-count.ensures c.read-2.result c.read-2.new.self c.read-2.ensures c.read-3.result c.read-3.new.self c.read-3.ensures c.read_count-own.result c.read_count-own.ensures

pub read_scoring-scoring-requires : goal.read_scoring-scoring-requires
read_scoring-scoring-requires c = let e : length c.read-4.result.now ≡ 20 * c.read_count-own.result = weights_read c.args.sheet (length c.args.out.now) c.requires c.new-reader.result c.new-reader.ensures c.read.result c.read.new.self c.read.ensures c.read_count-count.result c.read_count-count.ensures c.read-2.result c.read-2.new.self c.read-2.ensures c.read-3.result c.read-3.new.self c.read-3.ensures c.read_count-own.result c.read_count-own.ensures c.read-4.result c.read-4.new.self c.read-4.ensures in omega arith

pub read-requires-5 : goal.read-requires-5
read-requires-5 c = third_fits c.args.sheet (length c.args.out.now) c.requires c.new-reader.result c.new-reader.ensures c.read.result c.read.new.self c.read.ensures c.read_count-count.result c.read_count-count.ensures c.read-2.result c.read-2.new.self c.read-2.ensures c.read-3.result c.read-3.new.self c.read-3.ensures c.read_count-own.result c.read_count-own.ensures c.read-4.result c.read-4.new.self c.read-4.ensures

pub read_count-queries-requires : goal.read_count-queries-requires
read_count-queries-requires c = let e : length c.read-5.result.now ≡ 4 = third_read c.args.sheet (length c.args.out.now) c.requires c.new-reader.result c.new-reader.ensures c.read.result c.read.new.self c.read.ensures c.read_count-count.result c.read_count-count.ensures c.read-2.result c.read-2.new.self c.read-2.ensures c.read-3.result c.read-3.new.self c.read-3.ensures c.read_count-own.result c.read_count-own.ensures c.read-4.result c.read-4.new.self c.read-4.ensures c.read_scoring-scoring.result c.read_scoring-scoring.ensures c.read-5.result c.read-5.new.self c.read-5.ensures in omega arith

pub invariant_of-header : goal.invariant_of-header
invariant_of-header c = record {
  long = c.read_charts-charts.ensures.1;
  few = few_charts c.args.sheet (length c.args.out.now) c.requires c.new-reader.result c.new-reader.ensures c.read.result c.read.new.self c.read.ensures c.read_count-count.result c.read_count-count.ensures;
  passes = scoring_allowed c.args.sheet (length c.args.out.now) c.requires c.new-reader.result c.new-reader.ensures c.read.result c.read.new.self c.read.ensures c.read_count-count.result c.read_count-count.ensures c.read-2.result c.read-2.new.self c.read-2.ensures c.read-3.result c.read-3.new.self c.read-3.ensures c.read_count-own.result c.read_count-own.ensures c.read-4.result c.read-4.new.self c.read-4.ensures c.read_scoring-scoring.result c.read_scoring-scoring.ensures;
}

pub work_rows-requires : goal.work_rows-requires
work_rows-requires c = (
  rows_fits c.args.sheet (length c.args.out.now) c.requires c.new-reader.result c.new-reader.ensures c.read.result c.read.new.self c.read.ensures c.read_count-count.result c.read_count-count.ensures c.read-2.result c.read-2.new.self c.read-2.ensures c.read-3.result c.read-3.new.self c.read-3.ensures c.read_count-own.result c.read_count-own.ensures c.read-4.result c.read-4.new.self c.read-4.ensures c.read_scoring-scoring.result c.read_scoring-scoring.ensures c.read-5.result c.read-5.new.self c.read-5.ensures c.read_count-queries.result c.read_count-queries.ensures,
  answers_fit c.args.sheet (length c.args.out.now) c.requires c.new-reader.result c.new-reader.ensures c.read.result c.read.new.self c.read.ensures c.read_count-count.result c.read_count-count.ensures c.read-2.result c.read-2.new.self c.read-2.ensures c.read-3.result c.read-3.new.self c.read-3.ensures c.read_count-own.result c.read_count-own.ensures c.read-4.result c.read-4.new.self c.read-4.ensures c.read_scoring-scoring.result c.read_scoring-scoring.ensures c.read-5.result c.read-5.new.self c.read-5.ensures c.read_count-queries.result c.read_count-queries.ensures,
)

pub returns : goal.returns
returns c =
    all_worked c.args.sheet (length c.args.out.now) c.requires c.new-reader.result c.new-reader.ensures c.read.result c.read.new.self c.read.ensures c.read_count-count.result c.read_count-count.ensures c.read-2.result c.read-2.new.self c.read-2.ensures c.read-3.result c.read-3.new.self c.read-3.ensures c.read_count-own.result c.read_count-own.ensures c.read-4.result c.read-4.new.self c.read-4.ensures c.read_scoring-scoring.result c.read_scoring-scoring.ensures c.read-5.result c.read-5.new.self c.read-5.ensures c.read_count-queries.result c.read_count-queries.ensures c.read_charts-charts.result c.args.out.now c.work_rows.new.out c.read_charts-charts.ensures.0 c.work_rows.ensures.2
