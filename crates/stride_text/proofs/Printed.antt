-- What is printed of the weights, from the facts that the code has of its calls.
-- Assumes nothing.
use mathlib.Core.Path.{◌≡◌, sym, ap, ◌∙◌}
use mathlib.Core.Bool.{Bool, true, false, cond, ◌&&◌}
use mathlib.Core.List.{List, [], ◌++◌, append-nil}
use Prim.Native.Nat.{ℕ, ◌*◌}
use lib.ListN.{length, take, drop}
use lib.Seq.{drop-length}
use borrow.Author.Tests.{eq-eqb, ne_eqb}
use Rattle.lists.specs.Lists.{joined}
use Rattle.lists.proofs.Joined.{piece, same_pieces}
use Rattle.score_state.specs.Points.{weights_of}
use Rattle.score_state.specs.declared.Weights.{Weights}
use Rattle.nearest_laws.specs.Nearest.{weighs}
use Rattle.stride_rows.specs.Strides.{row_rule}
use Rattle.records.specs.Records.{weights_at}
use Rattle.stride_table.specs.StrideTable.{table_of, table_status, table_out}
use Rattle.stride_table.proofs.Table.{row-long, accepted, filled_whole}
use Rattle.text.specs.Text.{refused_text}
use Rattle.stride_text.specs.StrideText.{line_text, stride_line, strides_text, first_set, second_set, printed_strides}

module _ (s : List ℕ) where
  pub other_length : (length s ≡ 40 → ⊥) → refused_text 1 ≡ printed_strides s
  unfolding printed_strides
  other_length h = rw (ne_eqb (length s) 40 h)

  -- the call's facts: the sets that were read, a buffer of 320 numbers, and the status
  module _
      (h : length s ≡ 40) (w v : Weights) (out : List ℕ) (n : ℕ) (ew : w ≡ weights_at s 0) (ev : v ≡ weights_at s 20) (l : length out ≡ 320)
      (e : n ≡ table_status (weights_of w) (weights_of v) (length out)) where
    status : n ≡ table_status (first_set s) (second_set s) 320
    status = rw (← ew, ← ev, ← l) e

    -- a status other than 0 is 18, as there is room for 320
    pub bad_weights : (n ≡ 0 → ⊥) → refused_text n ≡ printed_strides s
    unfolding printed_strides table_status
    bad_weights ne = rw (eq-eqb (length s) 40 h) (go (weighs (first_set s) && weighs (second_set s)) status)
      where
        go : (b : Bool) → n ≡ cond b 0 18 → refused_text n ≡ cond b (strides_text (table_of (first_set s) (second_set s))) (refused_text 18)
        go true k = absurd (ne k)
        go false k = ap refused_text k

    -- the buffer is the table
    pub good-weights : (table : List ℕ) → n ≡ 0 → table ≡ table_out (weights_of w) (weights_of v) out → strides_text table ≡ printed_strides s
    unfolding printed_strides
    good-weights table z t =
        let ws = first_set s in
        let vs = second_set s in
        let zero : table_status ws vs 320 ≡ 0 = sym status ∙ z in
        let none : drop 320 out ≡ [] = ap (λ (k : ℕ). drop k out) (sym l) ∙ drop-length out in
        let filled : table ≡ table_of ws vs ++ drop 320 out = t ∙ rw (ew, ev) (filled_whole ws vs out (rw l zero)) in
        let whole : table ≡ table_of ws vs = filled ∙ ap (λ (xs : List ℕ). table_of ws vs ++ xs) none ∙ append-nil (table_of ws vs) in
        rw (eq-eqb (length s) 40 h, accepted ws vs 320 zero) (ap strides_text whole)

-- line r of the table has the strides of row r
pub rows_text : (w v : Weights) → strides_text (table_of (weights_of w) (weights_of v)) ≡ joined (λ r. line_text (row_rule (weights_of w) (weights_of v) r)) 64
unfolding strides_text stride_line table_of
rows_text w v =
    let f = row_rule (weights_of w) (weights_of v) in
    same_pieces (stride_line (joined f 64)) (λ r. line_text (f r)) 64
    (λ r h. ap line_text (ap (λ (xs : List ℕ). take 5 (drop (5 * r) xs)) (sym (append-nil (joined f 64))) ∙ piece 5 f (row-long w v) 64 r [] h))
