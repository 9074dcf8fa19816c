-- What is written has the bits, with as few digits behind the point as any percentage that has them; and every percentage that can be
-- typed has at most 12, so that one is written wherever one could be typed. Assumes nothing.
use mathlib.Core.Path.{◌≡◌, refl, sym, ◌∙◌, ap, subst}
use mathlib.Core.List.{List, [], ◌∷◌}
use Prim.Native.Nat.{ℕ, zero, suc, ◌+◌, ◌-◌, ◌*◌, ◌^◌, ◌≤◌, ◌<◌}
use native.Mathlib.Nat.{pow-suc}
use native.Mathlib.Numerals.{add-one}
use native.Mathlib.Omega.{arith}
use mathlib.Core.Bool.{Bool, true, false, cond}
use lib.Dec.{eqb, ltb}
use lib.ListN.{length, get_or}
use borrow.Author.Tests.{ltb-true, ltb-false}
use Rattle.words.specs.declared.Fault.{Fault}
use Rattle.words.specs.declared.Fault.TheVariants.{NoPercentage}
use Rattle.words.specs.Values.{hundredth, behind_point, before_point, percent_of}
use Rattle.percent.specs.declared.Percentage.{Percentage}
use Rattle.std.specs.Prelude.{Option, Some, None, Ok, Err}
use Rattle.percent.specs.Percent.{percent_at, reads, percentage, percent_with, or_else, percent_from, shortest}
use Rattle.percent.proofs.Found.{Reads, reads-is, hit}

-- ---- a number of digits behind the point more
pub from_here : (k bits : ℕ) (p : Option Percentage) → k < 13 → percent_with bits k ≡ p → percent_from (13 - k) k bits ≡ or_else p (percent_from (13 - (k + 1)) (k + 1) bits)
unfolding percent_from
from_here k bits p h w = let e : 13 - k ≡ suc (13 - (k + 1)) = omega arith in rw (e, w)

-- ---- what is found has the bits
same : (p q : Percentage) → Some p ≡ Some q → p ≡ q
same p q e = cc

with_reads : (bits k n j : ℕ) → k ≤ 12 → percent_with bits k ≡ Some (percentage n j) → Reads bits n j × (j ≡ k)
unfolding percent_with
with_reads bits k n j h e = go (reads bits (percent_at bits k) k) refl e
  where
    go : (b : Bool) → reads bits (percent_at bits k) k ≡ b → cond b (Some (percentage (percent_at bits k) k)) None ≡ Some (percentage n j) → Reads bits n j × (j ≡ k)
    go true r e =
        let q = same (percentage (percent_at bits k) k) (percentage n j) e in
        let m = ap (λ (p : Percentage). p.digits) q in
        let i = ap (λ (p : Percentage). p.places) q in
        (subst (λ (y : ℕ). Reads bits n y) i (subst (λ (y : ℕ). Reads bits y k) m (reads-is bits (percent_at bits k) k h r)), sym i)
    go false r e = let z : ◌≡◌ {A = ℕ} 0 1 = cc in absurd (omega arith)

from-reads : (many k bits n j : ℕ) → k + many ≤ 13 → percent_from many k bits ≡ Some (percentage n j) → Reads bits n j
unfolding percent_from
from-reads zero k bits n j h e = let z : ◌≡◌ {A = ℕ} 0 1 = cc in absurd (omega arith)
from-reads (suc many) k bits n j h e = go (percent_with bits k) refl (from-reads many (k + 1) bits n j (omega arith)) e
  where
    go : (p : Option Percentage) → percent_with bits k ≡ p → (percent_from many (k + 1) bits ≡ Some (percentage n j) → Reads bits n j)
        → or_else p (percent_from many (k + 1) bits) ≡ Some (percentage n j) → Reads bits n j
    go (Some p) w f e = (with_reads bits k n j (omega arith) (w ∙ e)).0
    go None w f e = f e

pub shortest-reads : (bits n k : ℕ) → shortest bits ≡ Some (percentage n k) → Reads bits n k
unfolding shortest
shortest-reads bits n k e = from-reads 13 0 bits n k (omega arith) e

-- ---- and none that has them has fewer digits behind the point
abbrev pub Shortest : ℕ → ℕ → Option Percentage → Type 0
Shortest bits k (Some p) = Reads bits p.digits p.places × (p.places ≤ k)
Shortest bits k None = ⊥

from_fewest : (many i bits n k : ℕ) → Reads bits n k → i ≤ k → k < i + many → i + many ≤ 13 → Shortest bits k (percent_from many i bits)
unfolding percent_from
from_fewest zero i bits n k r h l t = absurd (omega arith)
from_fewest (suc many) i bits n k r h l t = go (percent_with bits i) refl (λ (d : i < k). from_fewest many (i + 1) bits n k r (omega arith) (omega arith) (omega arith))
  where
    later : percent_with bits i ≡ None → i ≡ k → ⊥
    later w e = let z : ◌≡◌ {A = ℕ} 0 1 = cc (hit r) in omega arith

    beyond : (i ≡ k → ⊥) → i < k
    beyond d = omega arith

    go : (p : Option Percentage) → percent_with bits i ≡ p → (i < k → Shortest bits k (percent_from many (i + 1) bits)) → Shortest bits k (or_else p (percent_from many (i + 1) bits))
    go (Some p) w f = let s = with_reads bits i p.digits p.places (omega arith) w in (s.0, omega (arith, s.1))
    go None w f = f (beyond (later w))

pub shortest_fewest : (bits n k : ℕ) → Reads bits n k → Shortest bits k (shortest bits)
unfolding shortest
shortest_fewest bits n k r = from_fewest 13 0 bits n k r (omega arith) (omega (arith, r.few)) (omega arith)

-- ---- every percentage that can be typed is such a one
abbrev pub Typed : ℕ → Type 0
Typed bits = (n : ℕ) × (k : ℕ) × Reads bits n k

bad : (d : Fault) (v : ℕ) → Err d ≡ Ok v → ⊥
bad d v e = let z : ◌≡◌ {A = ℕ} 0 1 = cc in omega arith

grown : (n c t u : ℕ) → u ≡ t * 10 → n < 1000 * t → c ≤ 57 → 10 * n + (c - 48) < 1000 * u
grown n c t u e h l = omega arith

behind_typed : (w : List ℕ) (n k v : ℕ) → k ≤ 12 → n < 1000 * 10 ^ k → behind_point w n k ≡ Ok v → Typed v
unfolding behind_point
behind_typed [] n k v h l e = let s : hundredth n k ≡ v = cc in (n, k, record { few = h; small = l; same = s })
behind_typed (c ∷ cs) n k v h l e =
    go (ltb c 48) (ltb 57 c) (ltb k 12) refl refl
    (λ (p : c ≤ 57) (q : k < 12). behind_typed cs (10 * n + (c - 48)) (k + 1) v (omega arith) (grown n c (10 ^ k) (10 ^ (k + 1)) (rw (add-one k) (pow-suc 10 k)) l p)) e
  where
    go : (a b d : Bool) → ltb 57 c ≡ b → ltb k 12 ≡ d → (c ≤ 57 → k < 12 → behind_point cs (10 * n + (c - 48)) (k + 1) ≡ Ok v → Typed v)
        → cond a (Err NoPercentage) (cond b (Err NoPercentage) (cond d (behind_point cs (10 * n + (c - 48)) (k + 1)) (Err NoPercentage))) ≡ Ok v → Typed v
    go true b d p q f e = absurd (bad NoPercentage v e)
    go false true d p q f e = absurd (bad NoPercentage v e)
    go false false false p q f e = absurd (bad NoPercentage v e)
    go false false true p q f e = f (ltb-false 57 c p) (ltb-true k 12 q) e

before_typed : (w : List ℕ) (n v : ℕ) → n < 1000 → before_point w n ≡ Ok v → Typed v
unfolding before_point
before_typed [] n v l e = let s : hundredth n 0 ≡ v = cc in (n, 0, record { few = omega arith; small = l; same = s })
before_typed (c ∷ cs) n v l e =
    go (eqb c 46) (ltb c 48) (ltb 57 c) (ltb 999 (10 * n + (c - 48))) refl (λ (p : 10 * n + (c - 48) ≤ 999). before_typed cs (10 * n + (c - 48)) v (omega arith)) e
  where
    go : (t a b d : Bool) → ltb 999 (10 * n + (c - 48)) ≡ d → (10 * n + (c - 48) ≤ 999 → before_point cs (10 * n + (c - 48)) ≡ Ok v → Typed v)
        → cond t (behind_point cs n 0) (cond a (Err NoPercentage) (cond b (Err NoPercentage) (cond d (Err NoPercentage) (before_point cs (10 * n + (c - 48)))))) ≡ Ok v → Typed v
    go true a b d p f e = behind_typed cs n 0 v (omega arith) l e
    go false true b d p f e = absurd (bad NoPercentage v e)
    go false false true d p f e = absurd (bad NoPercentage v e)
    go false false false true p f e = absurd (bad NoPercentage v e)
    go false false false false p f e = f (ltb-false 999 (10 * n + (c - 48)) p) e

percent_typed : (w : List ℕ) (v : ℕ) → percent_of w ≡ Ok v → Typed v
unfolding percent_of
percent_typed w v e = go (eqb (length w) 0) (eqb (get_or w 0 0) 46) e
  where
    go : (a b : Bool) → cond a (Err NoPercentage) (cond b (Err NoPercentage) (before_point w 0)) ≡ Ok v → Typed v
    go true b e = absurd (bad NoPercentage v e)
    go false true e = absurd (bad NoPercentage v e)
    go false false e = before_typed w 0 v (omega arith) e

-- a percentage is written of every accuracy of which one can be typed
pub typed_written : (w : List ℕ) (bits : ℕ) → percent_of w ≡ Ok bits → shortest bits ≡ None → ⊥
typed_written w bits e m =
    let t = percent_typed w bits e in
    subst (λ (p : Option Percentage). Shortest bits t.1 p) m (shortest_fewest bits t.0 t.1 t.2)
