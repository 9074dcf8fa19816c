-- The table of two weightings in document 02's words: its numbers, its statuses, what stays of a buffer, and L5's table for the standard sets.
-- Assumes nothing.
use Prim.Native.Nat.{ℕ, ◌+◌, ◌*◌, ◌%◌, ◌<◌, ◌≤◌}
use mathlib.Core.Path.{◌≡◌, refl, sym, ap, ◌∙◌}
use mathlib.Core.Bool.{Bool, true, false, cond, ◌&&◌}
use mathlib.Core.List.{List, [], ◌++◌, append-nil}
use native.Mathlib.Omega.{arith}
use lib.Dec.{eqb, ltb}
use lib.ListN.{length, get_or, take, drop}
use lib.Seq.{take_at, drop_at}
use borrow.Author.Tests.{lt-ltb, le-ltb, ne_eqb}
use Rattle.lists.specs.Lists.{joined}
use Rattle.lists.proofs.Joined.{length-joined, in_piece, same_pieces}
use Rattle.score_state.specs.Points.{weights_of, standard}
use Rattle.score_state.specs.declared.Weights.{Weights}
use Rattle.nearest_laws.specs.Nearest.{Weighting, weighs}
use Rattle.nearest_laws.proofs.Weighs.{weighting, weighed}
use Rattle.stride_rows.specs.Strides.{strides_of, pattern_of, row_rule, stride_table}
use Rattle.stride_rows.proofs.Table.{table_right}
use Rattle.plan.proofs.Strides.{strides-at}
use Rattle.stride_table.specs.StrideTable.{table_of, standard_table, table_status, table_out}

-- ---- the numbers
module _ (w v : Weights) where
  -- five in a row
  pub row-long : (r : ℕ) → length (row_rule (weights_of w) (weights_of v) r) ≡ 5
  row-long r = go (ltb r 32)
    where
      go : (b : Bool) → length (strides_of (cond b (weights_of w) (weights_of v)) (pattern_of (r % 32))) ≡ 5
      go true = ap length (strides-at w (r % 32))
      go false = ap length (strides-at v (r % 32))

  -- "320 numbers"
  pub table_long : length (table_of (weights_of w) (weights_of v)) ≡ 320
  unfolding table_of
  table_long = length-joined 5 (row_rule (weights_of w) (weights_of v)) row-long 64

  -- "in the table's order": stride k of row r
  pub entry : (r k : ℕ) → r < 64 → k < 5 → get_or (table_of (weights_of w) (weights_of v)) (5 * r + k) 0 ≡ get_or (row_rule (weights_of w) (weights_of v) r) k 0
  unfolding table_of
  entry r k h l =
      let f = row_rule (weights_of w) (weights_of v) in
      ap (λ (t : List ℕ). get_or t (5 * r + k) 0) (sym (append-nil (joined f 64))) ∙ in_piece 5 f row-long 64 r k [] h l

-- ---- the statuses
module _ (ws vs : List ℕ) (room : ℕ) where
  -- "bad weights by 18 before that"
  pub bad_weights : (Weighting ws × Weighting vs → ⊥) → table_status ws vs room ≡ 18
  unfolding table_status
  bad_weights h = go (weighs ws) (weighs vs) refl refl
    where
      go : (a b : Bool) → weighs ws ≡ a → weighs vs ≡ b → ◌≡◌ {A = ℕ} (cond (a && b) (cond (ltb room 320) 5 0) 18) 18
      go true true e f = absurd (h (weighting ws e, weighting vs f))
      go true false e f = refl
      go false b e f = refl

  -- "A buffer shorter than 320 is refused by 5"
  pub short_buffer : Weighting ws → Weighting vs → room < 320 → table_status ws vs room ≡ 5
  unfolding table_status
  short_buffer w v h = rw (weighed ws w, weighed vs v, lt-ltb room 320 h)

  pub accepted : table_status ws vs room ≡ 0 → (weighs ws && weighs vs) ≡ true
  unfolding table_status
  accepted e = go (weighs ws && weighs vs) e
    where
      go : (b : Bool) → ◌≡◌ {A = ℕ} (cond b (cond (ltb room 320) 5 0) 18) 0 → b ≡ true
      go true k = refl
      go false k = absurd (omega (arith, k))

  pub filled : Weighting ws → Weighting vs → 320 ≤ room → table_status ws vs room ≡ 0
  unfolding table_status
  filled w v h = rw (weighed ws w, weighed vs v, le-ltb room 320 h)

-- ---- the buffer
-- "on either the buffer is unchanged"
pub unchanged : (ws vs out : List ℕ) → 0 < table_status ws vs (length out) → table_out ws vs out ≡ out
unfolding table_out
unchanged ws vs out h = rw (ne_eqb (table_status ws vs (length out)) 0 (λ e. omega arith))

pub filled_whole : (ws vs out : List ℕ) → table_status ws vs (length out) ≡ 0 → table_out ws vs out ≡ table_of ws vs ++ drop 320 out
unfolding table_out
filled_whole ws vs out e = rw e

-- "entries past 320 never change"
pub past : (w v : Weights) (out : List ℕ) → drop 320 (table_out (weights_of w) (weights_of v) out) ≡ drop 320 out
unfolding table_out
past w v out = go (eqb (table_status (weights_of w) (weights_of v) (length out)) 0)
  where
    go : (b : Bool) → drop 320 (cond b (table_of (weights_of w) (weights_of v) ++ drop 320 out) out) ≡ drop 320 out
    go true = drop_at (table_of (weights_of w) (weights_of v)) (drop 320 out) 320 (table_long w v)
    go false = refl

-- ---- "Given the two standard sets it must yield the constant table, entry for entry"
standard-rows : table_of (standard false) (standard true) ≡ standard_table
unfolding table_of standard_table
standard-rows = same_pieces (row_rule (standard false) (standard true)) (λ r. get_or stride_table r []) 64 (λ r h. sym (table_right r h))

first : Weights
first = record { n320 = 61; n300 = 60; n200 = 40; n100 = 20; n50 = 10 }

second : Weights
second = record { n320 = 60; n300 = 60; n200 = 40; n100 = 20; n50 = 10 }

pub standard-table
    : (ws vs out : List ℕ) → ws ≡ standard false → vs ≡ standard true → take 320 (table_of ws vs ++ drop 320 out) ≡ standard_table
unfolding first second
standard-table ws vs out ew ev =
    rw (ew, ev) (take_at (table_of (standard false) (standard true)) (drop 320 out) 320 (table_long first second) ∙ standard-rows)
