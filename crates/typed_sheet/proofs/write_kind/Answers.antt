-- `typed_sheet::write_kind` meets its contract. Assumes nothing.
use mathlib.Core.Path.{sym, ap, ◌∙◌}
use native.Mathlib.Omega.{arith}
use Rattle.words.specs.Lines.{part}
use Rattle.words.specs.Walk.{lines_left}
use Rattle.typed_sheet.proofs.Sections.{started, has_room, hit, miss, finished}
use Rattle.typed_sheet.proofs.write_kind.Goals as goal

pub loop-at-init : goal.loop-at-init
loop-at-init c =
    let x = c.args in
    started x.text.now x.kind x.out.now (lines_left c.into_iter-at-iterator.result) (omega (arith, c.requires)) (ap lines_left c.into_iter-at-iterator.ensures.into_iter_gives ∙ c.new-at-items.ensures)

pub put_record-requires : goal.put_record-requires
put_record-requires c =
    let x = c.args in
    let l = c.loop-at in
    let r = c.read_line-l in
    has_room x.text.now x.kind x.out.now l.out (lines_left l.at-iterator) (part c.in-Some.at c.in-Some.line.now) (lines_left c.next.new.self) r.result
    c.in-Some.ensures.steps r.ensures c.requires l.invariant (sym c.is_kind.ensures ∙ c.if-is_kind.true)

pub loop-at-preserved-then-is_kind : goal.loop-at-preserved-then-is_kind
loop-at-preserved-then-is_kind c =
    let x = c.args in
    let l = c.loop-at in
    let r = c.read_line-l in
    let w = c.put_record in
    hit x.text.now x.kind x.out.now l.out (lines_left l.at-iterator) (part c.in-Some.at c.in-Some.line.now) (lines_left c.next.new.self) r.result
    c.in-Some.ensures.steps r.ensures c.requires l.invariant w.new.out (sym c.is_kind.ensures ∙ c.if-is_kind.true) w.ensures.gained

pub loop-at-preserved : goal.loop-at-preserved
loop-at-preserved c =
    let x = c.args in
    let l = c.loop-at in
    let r = c.read_line-l in
    miss x.text.now x.kind x.out.now l.out (lines_left l.at-iterator) (part c.in-Some.at c.in-Some.line.now) (lines_left c.next.new.self) r.result
    c.in-Some.ensures.steps r.ensures c.requires l.invariant (sym c.is_kind.ensures ∙ c.if-is_kind.false)

pub returns : goal.returns
returns c =
    let x = c.args in
    let l = c.loop-at in
    finished x.text.now x.kind x.out.now l.out (lines_left l.at-iterator) c.in-None.ensures.steps.0 l.invariant
