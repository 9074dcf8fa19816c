-- `typed_line::kind_of` meets its contract. Assumes nothing.
use mathlib.Core.Path.{◌≡◌, ap, ◌∙◌}
use Rattle.std.proofs.Common.{rules}
use Rattle.std.specs.Option.{option_map}
use Rattle.words.specs.Words.{words, words_from, word_size, place}
use Rattle.typed_line.specs.Keywords.{kind_at, kind_of, kinds, chart, weights, play}
use Rattle.typed_line.proofs.kind_of.Goals as goal

pub returns : goal.returns
unfolding kind_of words words_from word_size chart weights play
returns c =
    let k : c.place_in.result ≡ place c.args.w.now kinds = c.place_in.ensures in
    let m : c.map.result ≡ option_map kind_at c.place_in.result = search rules in
    m ∙ ap (option_map kind_at) k
