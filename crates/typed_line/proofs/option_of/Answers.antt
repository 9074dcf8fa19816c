-- `typed_line::option_of` meets its contract. Assumes nothing.
use mathlib.Core.Path.{◌≡◌, ap, ◌∙◌}
use Rattle.std.proofs.Common.{rules}
use Rattle.std.specs.Option.{option_map}
use Rattle.words.specs.Words.{words, words_from, word_size, place}
use Rattle.typed_line.specs.Keywords.{option_at, option_of, options, n320, n300, n200, n100, n50, misses, acc, passed, holds, accbits, best, worst, classic}
use Rattle.typed_line.proofs.option_of.Goals as goal

pub returns : goal.returns
unfolding option_of words words_from word_size n320 n300 n200 n100 n50 misses acc passed holds accbits best worst classic
returns c =
    let k : c.place_in-place.result ≡ place c.args.w.now options = c.place_in-place.ensures in
    let m : c.map.result ≡ option_map option_at c.place_in-place.result = search rules in
    m ∙ ap (option_map option_at) k
