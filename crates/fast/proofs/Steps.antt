-- What the code's proofs cite, over what its calls ensure. Assumes nothing.
use mathlib.Core.Path.{◌≡◌, refl, sym, ap, ◌∙◌}
use mathlib.Core.Bool.{Bool, true, false}
use mathlib.Core.List.{[], ◌∷◌}
use mathlib.Core.Logic.{⊎_elim}
use mathlib.Core.Option.{Option, none, some}
use Prim.Native.Nat.{ℕ, ◌+◌, ◌-◌, ◌≤◌, ◌<◌, min}
use native.Mathlib.Omega.{arith}
use borrow.Author.Tests.{eq-eqb, ne_eqb, lt-ltb, le-ltb}
use types.Run.{OneOf}
use denote.Enum.Declared.{tag_of}
use lib.Dec.{eqb}
use lib.Ieee.{Float}
use Rattle.score_state.specs.declared.HitResults.{HitResults}
use Rattle.score_state.specs.Points as Points
use Rattle.score_state.specs.Points.{perfect_weight, standard, points, hits, counts_of}
use Rattle.score_state.specs.Given.{or, option_of}
use Rattle.std.specs.Prelude.{Some, None, unwrap_or}
use Rattle.std.specs.declared.option.Option as Code
use Rattle.inspect.specs.declared.Missing.{Missing}
use Rattle.inspect.specs.declared.Missing.TheVariants.{Nothing, One, Two, ThreePlus}
use Rattle.inspect.specs.declared.Query.{Query}
use Rattle.inspect.specs.Presence.{has, given, lacks, lacking, missing_of}
use Rattle.inspect.specs.Inspect.{Inspect, inspect_of, total_hits, misses, remain}
use Rattle.inspect.proofs.Lacking.{is_nothing, is_one, is_two, is_three_plus}
use Rattle.inspect.specs.contracts.Missing.{the_type}
use Rattle.fast.specs.declared.Partial.{Partial}
use Rattle.fast.specs.declared.Running.{Running}
use Rattle.fast.specs.Fast.{prelim, provided, num_provided, all_provided, one_missing, upgrade, upgrades, left_place, plus_left, add_left, three_or_fewer, provide, with_acc, by_acc, fast}
use Rattle.fast.specs.Code.{prelim_of, remain_of, total_of, upgraded_of}

-- ---- the greedy filling

-- n50 takes what it is given, or the whole room
rest_is : (o : Option ℕ) (R room : ℕ) → room ≤ R → min room (or o room) ≡ min room (or o R)
unfolding or
rest_is (some n) R room l = refl
rest_is none R room l = omega arith

-- `unwrap_or` of the code's option
pub or_is : (o : Code.Option ℕ) (d : ℕ) {g : Option ℕ} {x : ℕ} → option_of o ≡ g → x ≡ unwrap_or o d → x ≡ or g d
unfolding or
or_is (Some n) d e h = h ∙ ap (λ (z : Option ℕ). or z d) e
or_is None d e h = h ∙ ap (λ (z : Option ℕ). or z d) e

-- what four numbers leave
four_off : (R a b c d r : ℕ) → a + b + c + d + r ≡ R → R - a - b - c - d ≡ r
four_off R a b c d r e = omega arith

-- one judgement's count, and what it leaves of its room
abbrev Step : Option ℕ → ℕ → ℕ → ℕ → Running → Type 0
Step n room increase delta u = (upgraded_of u ≡ upgrade n room increase delta) × (u.count.0 + u.left.0 ≡ room)

pub upgrades-is
    : (i : Inspect) (w delta : ℕ) (p : Partial) (u1 u2 u3 u4 : Running) {room x n l : ℕ}
    → Step i.n320 (p.left.0 + p.counts.n320) (w - 10) delta u1 → Step i.n300 (u1.left.0 + p.counts.n300) 50 u1.delta.0 u2
    → Step i.n200 (u2.left.0 + p.counts.n200) 30 u2.delta.0 u3 → Step i.n100 (u3.left.0 + p.counts.n100) 10 u3.delta.0 u4
    → room ≡ u4.left.0 + p.counts.n50 → x ≡ or i.n50 room → n ≡ min room x → l ≡ room - n
    → (◌≡◌ {A = HitResults}
    (record { n320 = u1.count.0; n300 = u2.count.0; n200 = u3.count.0; n100 = u4.count.0; n50 = n; misses = p.counts.misses })
    (upgrades i w (remain_of p) p.counts.misses (prelim_of p.counts) delta))
    × (u1.count.0 + u2.count.0 + u3.count.0 + u4.count.0 + n + l ≡ remain_of p)
unfolding upgrades
upgrades-is i w delta p u1 u2 u3 u4 {room} {x} {n} {l} e1 e2 e3 e4 er ex en el =
    let R = remain_of p in
    let c = p.counts in
    let all : u1.count.0 + u2.count.0 + u3.count.0 + u4.count.0 + n + l ≡ R = omega arith in
    let r1 = four_off R c.n300 c.n200 c.n100 c.n50 (p.left.0 + c.n320) (omega arith) in
    let r2 = four_off R u1.count.0 c.n200 c.n100 c.n50 (u1.left.0 + c.n300) (omega arith) in
    let r3 = four_off R u1.count.0 u2.count.0 c.n100 c.n50 (u2.left.0 + c.n200) (omega arith) in
    let r4 = four_off R u1.count.0 u2.count.0 u3.count.0 c.n50 (u3.left.0 + c.n100) (omega arith) in
    let r5 = four_off R u1.count.0 u2.count.0 u3.count.0 u4.count.0 room (omega arith) in
    (rw (r1, ← e1.0, r2, ← e2.0, r3, ← e3.0, r4, ← e4.0, r5, en, ex, rest_is i.n50 R room (omega arith)), all)

-- ---- what is left
pub none_left : (i : Inspect) (p : Partial) → p.left.0 ≡ 0 → p.counts ≡ add_left i (total_of p) p.counts
unfolding add_left hits
none_left i p z =
    let l : total_of p ≤ Points.total_hits p.counts = omega arith in
    rw (le-ltb (Points.total_hits p.counts) (total_of p) l)

pub left_added
    : (i : Inspect) (p : Partial) {x : HitResults} → (p.left.0 ≡ 0 → ⊥)
    → x ≡ plus_left (left_place i.priority i) p.left.0 p.counts → x ≡ add_left i (total_of p) p.counts
unfolding add_left hits
left_added i p z ex =
    let l : Points.total_hits p.counts < total_of p = omega arith in
    let d : total_of p - Points.total_hits p.counts ≡ p.left.0 = omega arith in
    ex ∙ rw (lt-ltb (Points.total_hits p.counts) (total_of p) l, d)

-- ---- how many are provided: those that are not missing
provided-lacks : (h : Bool) (n : ℕ) → provided (given h n) + lacks h ≡ 1
unfolding provided
provided-lacks true n = refl
provided-lacks false n = refl

abbrev provided_of : Inspect → ℕ
provided_of i = num_provided i.n320 i.n300 i.n200 i.n100 i.n50

provided-lacking : (q : Query) → provided_of (inspect_of q) + lacking q.presence ≡ 5
unfolding num_provided lacking
provided-lacking q =
    let p = q.presence in
    omega (
      arith,
      provided-lacks (has p 1) q.n320,
      provided-lacks (has p 2) q.n300,
      provided-lacks (has p 4) q.n200,
      provided-lacks (has p 8) q.n100,
      provided-lacks (has p 16) q.n50,
    )

two_or_more : (m : Missing) (n : ℕ) → m ≡ missing_of n → OneOf (2 ∷ 3 ∷ []) (tag_of the_type m) → 2 ≤ n
two_or_more Nothing n e o = ⊎_elim (λ z. omega arith) (λ z. omega arith) o
two_or_more One n e o = ⊎_elim (λ z. omega arith) (λ z. omega arith) o
two_or_more Two n e o = omega (arith, is_two n e)
two_or_more ThreePlus n e o = omega (arith, is_three_plus n e)

-- ---- the whole
module _
    (acc : Float) (q : Query) {t m r : ℕ} (et : t ≡ total_hits (inspect_of q)) (em : m ≡ misses (inspect_of q)) (es : r ≡ t - m) where
  abbrev i : Inspect
  i = inspect_of q

  remains : r ≡ remain i
  unfolding remain
  remains = es ∙ rw (et, em)

  module _ (p : Partial) (z : eqb r 0 ≡ false) (e : (prelim_of p.counts ≡ prelim i r) × (remain_of p ≡ r) × (p.counts.misses ≡ m)) where
    some_is : provide acc i ≡ with_acc acc i
    unfolding with_acc
    some_is = rw (← remains, z)

    pub all-is : Nothing ≡ missing_of (lacking q.presence) → p.counts ≡ with_acc acc i
    unfolding provide all_provided
    all-is k =
        let n : provided_of i ≡ 5 = omega (arith, provided-lacking q, is_nothing (lacking q.presence) k) in
        rw (← some_is, eq-eqb (provided_of i) 5 n, ← remains, ← em, ← e.0, ← e.2)

    pub four_is : {x : HitResults} → One ≡ missing_of (lacking q.presence) → x ≡ one_missing i (remain_of p) p.counts.misses (prelim_of p.counts) → x ≡ with_acc acc i
    unfolding provide
    four_is k h =
        let n : provided_of i ≡ 4 = omega (arith, provided-lacking q, is_one (lacking q.presence) k) in
        h ∙ rw (← some_is, ne_eqb (provided_of i) 5 (λ z. omega arith), eq-eqb (provided_of i) 4 n, e.1, e.2, e.0, remains, em)

    pub few-is
        : {x : HitResults} (k : Missing) → k ≡ missing_of (lacking q.presence) → OneOf (2 ∷ 3 ∷ []) (tag_of the_type k)
        → x ≡ three_or_fewer acc i t (remain_of p) p.counts.misses (prelim_of p.counts) → x ≡ with_acc acc i
    unfolding provide
    few-is k ek o h =
        let n : provided_of i ≤ 3 = omega (arith, provided-lacking q, two_or_more k (lacking q.presence) ek o) in
        h ∙ rw (← some_is, ne_eqb (provided_of i) 5 (λ z. omega arith), ne_eqb (provided_of i) 4 (λ z. omega arith), e.1, e.2, e.0, remains, et, em)

pub fast-given : (i : Inspect) (acc : Float) (x : HitResults) → i.acc ≡ some acc → x ≡ with_acc acc i → x ≡ fast i
unfolding fast by_acc
fast-given i acc x h e = e ∙ sym (ap (λ (o : Option Float). by_acc o i) h)

pub fast_absent : (i : Inspect) (x : HitResults) → i.acc ≡ none → x ≡ by_acc none i → x ≡ fast i
unfolding fast
fast_absent i x h e = e ∙ sym (ap (λ (o : Option Float). by_acc o i) h)
