-- `words::line_end` meets its contract. Assumes nothing.
use mathlib.Core.Path.{ap, ◌∙◌}
use Prim.Native.Nat.{◌+◌, ◌-◌}
use lib.ListN.{length}
use Rattle.std.specs.Option.{unwrap_or}
use Rattle.words.proofs.Sizes.{line_past}
use Rattle.words.proofs.line_end.Goals as goal

pub returns : goal.returns
returns c =
    let h = line_past c.args.s.now c.args.at c.requires in
    let e = c.unwrap_or.ensures ∙ ap (λ o. unwrap_or o (length c.args.s.now - c.args.at)) c.first_lf.ensures.value in
    let r = ap (λ n. c.args.at + n) e ∙ h.0 in
    (r, rw r h.1)
