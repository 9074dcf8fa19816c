-- `words::place_in` meets its contract. Assumes nothing.
use mathlib.Core.Path.{ap, ◌∙◌}
use mathlib.Core.Logic.{inl}
use lib.ListN.{length}
use native.Mathlib.Omega.{arith}
use Rattle.std.proofs.Common.{rules, tests}
use Rattle.std.proofs.lemmas.Iterator.Consumers.{YieldsList-from_first}
use Rattle.std.proofs.lemmas.Iterator.Search.{position_from_yields_List}
use Rattle.std.proofs.lemmas.Iterator.Adapters.{position_from-zero}
use Rattle.words.specs.Lines.{Part}
use Rattle.words.specs.Words.{says, words}
use Rattle.words.specs.Walk.{words_left, part_of}
use Rattle.words.proofs.Follow.{few_words}
use Rattle.words.proofs.Keywords.{bytes_searched}
use Rattle.words.proofs.place_in.Goals as goal

pub position-requires-clause-fits : goal.position-requires-clause-fits
position-requires-clause-fits c =
    let n = few_words 0 c.args.keywords.now in
    inl (omega (arith, ap length c.new.ensures))

pub returns : goal.returns
returns c =
    let x = c.args in
    let all = words 0 x.keywords.now in
    position_from_yields_List (λ (p : Part). says x.w.now p.bytes) c.position.new.self _ c.position.result c.position.ensures.ran
    (YieldsList-from_first part_of words_left all c.new.ensures) (λ y b q k. search (rules, tests))
    ∙ position_from-zero (λ (p : Part). says x.w.now p.bytes) all
    ∙ bytes_searched (says x.w.now) all 0
