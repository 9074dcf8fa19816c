-- `typed_sheet::tally_text` meets its contract. Assumes nothing.
use mathlib.Core.Path.{sym, ap, subst, ◌∙◌}
use mathlib.Core.Logic.{inl}
use native.Mathlib.Omega.{arith}
use lib.ListN.{length}
use Rattle.std.specs.Prelude.{Result, Ok}
use Rattle.std.specs.Iterator.Adapters.{enumerate_source, enumerate_count}
use Rattle.std.proofs.lemmas.Result.{err_from_is_err_and}
use Rattle.words.specs.Lines.{part}
use Rattle.words.specs.Walk.{lines_left}
use Rattle.typed_sheet.specs.declared.LineFault.{LineFault}
use Rattle.typed_sheet.specs.declared.Tally.{Tally}
use Rattle.typed_sheet.specs.Typed.{tally_all, tally_of}
use Rattle.typed_sheet.proofs.Within.{Inside, text_few, text_inside, first_inside}
use Rattle.typed_sheet.proofs.Judged.{one_more, stays, no_more}
use Rattle.typed_sheet.proofs.Tallies.{fine}
use Rattle.typed_sheet.proofs.tally_text.Goals as goal

pub loop-i-init-derived : goal.loop-i-init-derived
loop-i-init-derived c =
    let i = c.into_iter-i-iterator.ensures.into_iter_gives in
    let e = c.enumerate-i-items.ensures in
    let few = text_few c.args.text.now in
    let left = ap lines_left (ap enumerate_source i ∙ e.source) ∙ c.new.ensures in
    ((tt, tt, inl (omega (arith, ap length left, ap enumerate_count i ∙ e.count))), tt)

pub loop-i-init : goal.loop-i-init
unfolding tally_of
loop-i-init c =
    let i = c.into_iter-i-iterator.ensures.into_iter_gives in
    let e = c.enumerate-i-items.ensures in
    let left = ap lines_left (ap enumerate_source i ∙ e.source) ∙ c.new.ensures in
    let count = ap enumerate_count i ∙ e.count in
    record {
      judged = rw (left, count);
      inside = subst (Inside (length c.args.text.now)) (sym left) (text_inside c.args.text.now);
    }

pub returns-in_err-t-clause-value : goal.returns-in_err-t-clause-value
returns-in_err-t-clause-value c =
    let l = c.loop-i in
    let s = c.in-Some.ensures.steps in
    let p = part c.in-Some.at c.in-Some.line.now in
    let m = enumerate_count c.next.new.self in
    let ps = lines_left (enumerate_source c.next.new.self) in
    let n = enumerate_count l.i-iterator in
    let e = one_more (Ok l.t) n c.in-Some.i m p ps (lines_left (enumerate_source l.i-iterator)) c.read_line.result c.tally_line.result s.0 s.1 s.2 c.read_line.ensures c.tally_line.ensures in
    let r = err_from_is_err_and c.from_residual.result c.from_residual.ensures.1 in
    let told = stays ps m c.in_err-t.field-0.0 in
    rw (r.1, r.2) (sym told ∙ ap (λ (x : Result Tally LineFault). tally_all x m ps) (sym c.in_err-t.was) ∙ sym e ∙ l.invariant.judged)

pub loop-i-preserved : goal.loop-i-preserved
loop-i-preserved c =
    let l = c.loop-i in
    let s = c.in-Some.ensures.steps in
    let p = part c.in-Some.at c.in-Some.line.now in
    let m = enumerate_count c.next.new.self in
    let ps = lines_left (enumerate_source c.next.new.self) in
    let n = enumerate_count l.i-iterator in
    let e = one_more (Ok l.t) n c.in-Some.i m p ps (lines_left (enumerate_source l.i-iterator)) c.read_line.result c.tally_line.result s.0 s.1 s.2 c.read_line.ensures c.tally_line.ensures in
    record {
      judged = ap (λ (r : Result Tally LineFault). tally_all r m ps) (sym c.in_ok-t.was) ∙ sym e ∙ l.invariant.judged;
      inside = (first_inside (length c.args.text.now) p ps (subst (Inside (length c.args.text.now)) s.0 l.invariant.inside)).1;
    }

pub returns : goal.returns
returns c =
    let l = c.loop-i in
    let s = c.in-None.ensures.steps in
    let e = sym (no_more (Ok l.t) (enumerate_count l.i-iterator) (lines_left (enumerate_source l.i-iterator)) s.0.0) ∙ l.invariant.judged in
    let f = fine c.args.text.now l.t (sym e) in
    record { value = e; bound = (f.charts_cap, f.weights-cap, f.plays-cap) }
