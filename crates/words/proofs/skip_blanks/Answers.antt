-- `words::skip_blanks` meets its contract. Assumes nothing.
use mathlib.Core.Path.{ap, ◌∙◌}
use Prim.Native.Nat.{◌+◌, ◌-◌}
use lib.ListN.{length}
use Rattle.std.specs.Option.{unwrap_or}
use Rattle.words.proofs.Sizes.{blanks_past}
use Rattle.words.proofs.skip_blanks.Goals as goal

pub returns : goal.returns
returns c =
    let h = blanks_past c.args.s.now c.args.at c.requires in
    let e = c.unwrap_or.ensures ∙ ap (λ o. unwrap_or o (length c.args.s.now - c.args.at)) c.first_not_blank.ensures.value in
    let r = ap (λ n. c.args.at + n) e ∙ h.0 in
    (r, rw r h.1)
