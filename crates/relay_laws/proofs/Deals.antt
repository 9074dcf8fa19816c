-- Dealing a pool: each chart gets a split of what remains of it, and all of them together the pool. A set of splits, added up, is a split of
-- the pool with the same points.
-- Assumes nothing.
use Prim.Native.Nat.{ℕ, suc, ◌+◌, ◌-◌, ◌≤◌}
use mathlib.Core.List.{List, [], ◌∷◌}
use mathlib.Core.Path.{◌≡◌, refl, sym, ap, ap₂, ◌∙◌}
use lib.ListN.{length}
use native.Mathlib.Nat.{mul-add}
use native.Mathlib.Omega.{arith}
use Rattle.score_state.specs.Points.{hits, points}
use Rattle.nearest_laws.specs.Split.{Keeps, IsSplit}
use Rattle.relay_laws.specs.Pool.{all_missing, dealt, undealt, deals, Splits, no-chart, chart, plus, added, all_points}

-- ---- one chart
pub dealt-long : (xs : List ℕ) (r : ℕ) → length (dealt xs r) ≡ length xs
unfolding dealt
dealt-long [] r = refl
dealt-long (x ∷ xs) r = ap suc (dealt-long xs _)

undealt-long : (xs : List ℕ) (r : ℕ) → length (undealt xs r) ≡ length xs
unfolding undealt
undealt-long [] r = refl
undealt-long (x ∷ xs) r = ap suc (undealt-long xs _)

dealt-hits : (xs : List ℕ) (r : ℕ) → r ≤ hits xs → hits (dealt xs r) ≡ r
unfolding dealt hits
dealt-hits [] r h = omega arith
dealt-hits (x ∷ xs) r h = let i = dealt-hits xs (r - x) (omega arith) in omega arith

undealt-hits : (xs : List ℕ) (r : ℕ) → hits (undealt xs r) ≡ hits xs - r
unfolding undealt hits
undealt-hits [] r = omega arith
undealt-hits (x ∷ xs) r = let i = undealt-hits xs (r - x) in omega arith

-- what a chart takes and what it leaves are all there was
dealt-plus : (xs : List ℕ) (r : ℕ) → plus (dealt xs r) (undealt xs r) ≡ xs
unfolding dealt undealt plus
dealt-plus [] r = refl
dealt-plus (x ∷ xs) r = ap₂ (λ (z : ℕ) (zs : List ℕ). z ∷ zs) (omega arith) (dealt-plus xs (r - x))

-- ---- all charts
-- nothing is left at the end
empty : (xs : List ℕ) → length xs ≡ 5 → hits xs ≡ 0 → xs ≡ 0 ∷ 0 ∷ 0 ∷ 0 ∷ 0 ∷ []
unfolding hits
empty [] l h = absurd (omega arith)
empty (a ∷ []) l h = absurd (omega arith)
empty (a ∷ (b ∷ [])) l h = absurd (omega arith)
empty (a ∷ (b ∷ (c ∷ []))) l h = absurd (omega arith)
empty (a ∷ (b ∷ (c ∷ (d ∷ [])))) l h = absurd (omega arith)
empty (a ∷ (b ∷ (c ∷ (d ∷ (e ∷ []))))) l h =
    let za : a ≡ 0 = omega arith in
    let zb : b ≡ 0 = omega arith in
    let zc : c ≡ 0 = omega arith in
    let zd : d ≡ 0 = omega arith in
    let ze : e ≡ 0 = omega arith in
    rw (za, zb, zc, zd, ze)
empty (a ∷ (b ∷ (c ∷ (d ∷ (e ∷ (f ∷ xs)))))) l h = absurd (omega arith)

pub deals-added : (xs rs : List ℕ) → length xs ≡ 5 → hits xs ≡ hits rs → added (deals xs rs) ≡ xs
unfolding deals added hits
deals-added xs [] l h = sym (empty xs l h)
deals-added xs (r ∷ rs) l h =
    ap (λ (zs : List ℕ). plus (dealt xs r) zs) (deals-added (undealt xs r) rs (undealt-long xs r ∙ l) (undealt-hits xs r ∙ omega arith))
    ∙ dealt-plus xs r

-- any five counts are a split of their sum: none is given
keeps-missing : (xs : List ℕ) → Keeps all_missing xs
keeps-missing [] = tt
keeps-missing (a ∷ []) = tt
keeps-missing (a ∷ (b ∷ [])) = tt
keeps-missing (a ∷ (b ∷ (c ∷ []))) = tt
keeps-missing (a ∷ (b ∷ (c ∷ (d ∷ [])))) = tt
keeps-missing (a ∷ (b ∷ (c ∷ (d ∷ (e ∷ xs))))) = tt

is_split : (xs : List ℕ) (r : ℕ) → length xs ≡ 5 → hits xs ≡ r → IsSplit all_missing r xs
is_split xs r l h = record { long = l; keeps = keeps-missing xs; sums = h }

pub deals-splits : (xs rs : List ℕ) → length xs ≡ 5 → hits xs ≡ hits rs → Splits rs (deals xs rs)
unfolding deals hits
deals-splits xs [] l h = no-chart
deals-splits xs (r ∷ rs) l h =
    chart (is_split (dealt xs r) r (dealt-long xs r ∙ l) (dealt-hits xs r (omega arith)))
    (deals-splits (undealt xs r) rs (undealt-long xs r ∙ l) (undealt-hits xs r ∙ omega arith))

-- ---- a set of splits, added up
plus-hits : (xs ys : List ℕ) → length xs ≡ length ys → hits (plus xs ys) ≡ hits xs + hits ys
unfolding plus hits
plus-hits [] [] l = refl
plus-hits [] (y ∷ ys) l = absurd (omega arith)
plus-hits (x ∷ xs) [] l = absurd (omega arith)
plus-hits (x ∷ xs) (y ∷ ys) l = omega (arith, plus-hits xs ys (omega arith))

plus-long : (xs ys : List ℕ) → length xs ≡ length ys → length (plus xs ys) ≡ length xs
unfolding plus
plus-long [] [] l = refl
plus-long [] (y ∷ ys) l = absurd (omega arith)
plus-long (x ∷ xs) [] l = absurd (omega arith)
plus-long (x ∷ xs) (y ∷ ys) l = ap suc (plus-long xs ys (omega arith))

plus-points : (ws xs ys : List ℕ) → length xs ≡ length ys → points ws (plus xs ys) ≡ points ws xs + points ws ys
unfolding plus points
plus-points [] xs ys l = omega arith
plus-points (w ∷ ws) [] [] l = refl
plus-points (w ∷ ws) [] (y ∷ ys) l = absurd (omega arith)
plus-points (w ∷ ws) (x ∷ xs) [] l = absurd (omega arith)
plus-points (w ∷ ws) (x ∷ xs) (y ∷ ys) l = omega (arith, plus-points ws xs ys (omega arith), mul-add w x y)

no_points : (ws xs : List ℕ) → hits xs ≡ 0 → points ws xs ≡ 0
unfolding points hits
no_points [] xs h = refl
no_points (w ∷ ws) [] h = refl
no_points (w ∷ ws) (x ∷ xs) h =
    let z : x ≡ 0 = omega arith in
    let i = no_points ws xs (omega arith) in
    rw (z, i) (omega arith)

added-long : {rs : List ℕ} {xss : List (List ℕ)} → Splits rs xss → length (added xss) ≡ 5
unfolding added
added-long no-chart = refl
added-long (chart {xs = xs} {xss = xss} i s) = plus-long xs (added xss) (i.long ∙ sym (added-long s)) ∙ i.long

added-hits : {rs : List ℕ} {xss : List (List ℕ)} → Splits rs xss → hits (added xss) ≡ hits rs
unfolding added hits
added-hits no-chart = refl
added-hits (chart {xs = xs} {xss = xss} i s) =
    plus-hits xs (added xss) (i.long ∙ sym (added-long s)) ∙ ap₂ (λ (a b : ℕ). a + b) i.sums (added-hits s)

pub added-points : (ws : List ℕ) {rs : List ℕ} {xss : List (List ℕ)} → Splits rs xss → points ws (added xss) ≡ all_points ws xss
unfolding added all_points hits
added-points ws no-chart = no_points ws (added []) (added-hits no-chart)
added-points ws (chart {xs = xs} {xss = xss} i s) =
    plus-points ws xs (added xss) (i.long ∙ sym (added-long s)) ∙ ap (λ (n : ℕ). points ws xs + n) (added-points ws s)

pub added_split : {rs : List ℕ} {xss : List (List ℕ)} → Splits rs xss → IsSplit all_missing (hits rs) (added xss)
added_split {rs = rs} {xss = xss} s = is_split (added xss) (hits rs) (added-long s) (added-hits s)
