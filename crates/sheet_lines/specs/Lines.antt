-- The page 'A typed sheet' of docs/RULES.md, 'The way back': "`chart OBJECTS HOLDS` for each chart, `weights W320 W300 W200 W100 W50` if the
-- sheet has own weights, `play CHART METHOD` with its options for each query; each line ended by LF, single spaces, small letters, decimals
-- without zeros in front. Options in this order, each only if the row says so: `worst` (priority 1), `classic` (1), `n320 N` .. `n50 N`,
-- `misses N`, `passed N`, `holds N` (byte 6 at 1), then the accuracy if it is given: as `acc P` if a percentage has its bits, the one with the
-- fewest digits behind the point, else as `accbits H`".
use Rattle.std.specs.Prelude.{List, [], ◌∷◌, ◌++◌, Bool, cond, ℕ, eqb}
use Rattle.text.specs.Text.{decimal_text}
use Rattle.inspect.specs.Presence.{has}
use Rattle.inspect.specs.declared.Chart.{Chart}
use Rattle.score_state.specs.declared.Weights.{Weights}
use Rattle.records.specs.declared.Row.{Row}
use Rattle.accuracy_text.specs.AccuracyText.{spaced, accuracy_words}
use Rattle.typed_line.specs.Keywords as Key

-- a line: its first word, the others, and LF (10)
unfoldable pub line_text : List ℕ → List (List ℕ) → List ℕ
unfolding spaced
line_text w ws = w ++ spaced ws ++ (10 ∷ [])

unfoldable pub chart_text : Chart → List ℕ
unfolding line_text
chart_text c = line_text Key.chart (decimal_text c.n_objects ∷ decimal_text c.n_hold_notes ∷ [])

unfoldable pub weights_text : Weights → List ℕ
unfolding line_text
weights_text w =
    line_text Key.weights (decimal_text w.n320 ∷ decimal_text w.n300 ∷ decimal_text w.n200 ∷ decimal_text w.n100 ∷ decimal_text w.n50 ∷ [])

-- a method by its number in a sheet
unfoldable pub method_word : ℕ → List ℕ
method_word m = cond (eqb m 0) Key.ignore (cond (eqb m 1) Key.fast (cond (eqb m 2) Key.closest Key.nearest))

-- ---- options: those that the row does not give have no words
unfoldable pub flagged : Bool → List ℕ → List (List ℕ)
flagged given name = cond given (name ∷ []) []

unfoldable pub numbered : Bool → List ℕ → ℕ → List (List ℕ)
numbered given name n = cond given (name ∷ decimal_text n ∷ []) []

unfoldable pub flag_words : Row → List (List ℕ)
unfolding flagged
flag_words r = flagged (eqb r.priority 1) Key.worst ++ flagged (eqb r.classic 1) Key.classic

unfoldable pub high_words : Row → List (List ℕ)
unfolding numbered
high_words r =
    numbered (has r.presence 1) Key.n320 r.n320
    ++ numbered (has r.presence 2) Key.n300 r.n300
    ++ numbered (has r.presence 4) Key.n200 r.n200

unfoldable pub low_words : Row → List (List ℕ)
unfolding numbered
low_words r =
    numbered (has r.presence 8) Key.n100 r.n100
    ++ numbered (has r.presence 16) Key.n50 r.n50
    ++ numbered (has r.presence 32) Key.misses r.misses

unfoldable pub reached_words : Row → List (List ℕ)
unfolding numbered
reached_words r = numbered (has r.presence 128) Key.passed r.passed ++ numbered (eqb r.holds_given 1) Key.holds r.holds_passed

unfoldable pub option_words : Row → List (List ℕ)
unfolding flag_words high_words low_words reached_words accuracy_words
option_words r = flag_words r ++ high_words r ++ low_words r ++ reached_words r ++ accuracy_words (has r.presence 64) r.acc

unfoldable pub play_text : Row → List ℕ
unfolding line_text method_word option_words
play_text r = line_text Key.play (decimal_text r.chart ∷ method_word r.method ∷ option_words r)
