-- The loop over the counts of one middle, stated once for the three loops: m is the middle, ms those inside it, ks the counts that
-- are set outside it; the loop takes so many turns, with b₀ at the start. Below it, both candidates of a setting. A test of the code
-- comes as x, which is the definition's test, and its outcome.
use Prim.Native.Nat.{ℕ, suc, ◌+◌, ◌-◌, ◌*◌, ◌<◌, ◌≤◌, min}
use mathlib.Core.Bool.{Bool, true, false, cond}
use mathlib.Core.List.{List, [], ◌∷◌}
use mathlib.Core.Path.{◌≡◌, sym, ap, ◌∙◌}
use native.Mathlib.Nat.{sub-zero}
use native.Mathlib.Numerals.{add-one}
use native.Mathlib.Omega.{arith}
use lib.Dec.{ltb}
use Rattle.units.specs.Limits.{most32}
use Rattle.units.specs.Gap.{gap}
use Rattle.nearest_laws.specs.Walk.{Middle, Best, over, offer, settle, rows, lowest, pair, settings}
use Rattle.nearest_laws.specs.Places.{Slot}
use Rattle.nearest_laws.proofs.Steps.{settle-over, settle_cons, settle_mono, loop_step, loop_end, loop_count, fits_step}
use Rattle.nearest_laws.proofs.Low.{sides_gap, next_gap, next_fits}
use Rattle.walk.specs.Code.{view, middle_of, settings_of, row_of, both_of, trial_of, PointsFit, Ready, IsLow}
use Rattle.walk.specs.declared.Middle.{Middle as MiddleCode}
use Rattle.walk.specs.declared.Best.{Best as BestCode}
use Rattle.walk.specs.declared.Plan.{Plan}
use Rattle.walk.specs.declared.Setting.{Setting}
use Rattle.walk.specs.declared.Low.{Low}

-- the running best b after k turns: what is left gives from b what all candidates give from b₀
pub record Run (p : Plan) (s : Setting) (m : MiddleCode) (ms : List Middle) (ks : List ℕ) (b₀ : BestCode) (turns k : ℕ) (b : BestCode) : Type 0 where
  pub points : PointsFit p s
  pub ready : Ready p (settings_of p s (middle_of m ∷ ms) ks) b₀
  pub slot : Slot p.a (middle_of m)
  pub counts : turns ≡ suc (min (m.q - 1) s.left.0)
  pub within : k ≤ turns
  pub same : settle p.target.0 (rows (turns - k) k (row_of p s m ms ks)) (view b) ≡ settle p.target.0 (settings_of p s (middle_of m ∷ ms) ks) (view b₀)

module _ {p : Plan} {s : Setting} {m : MiddleCode} {ms : List Middle} {ks : List ℕ} {b₀ : BestCode} {turns : ℕ} where
  pub run_start
      : PointsFit p s → Ready p (settings_of p s (middle_of m ∷ ms) ks) b₀ → Slot p.a (middle_of m) → turns ≡ suc (min (m.q - 1) s.left.0)
      → Run p s m ms ks b₀ turns 0 b₀
  unfolding settings
  run_start f r l e = record { points = f; ready = r; slot = l; counts = e; within = omega arith; same = rw (e, sub-zero) }

  module _ {k : ℕ} {b : BestCode} (r : Run p s m ms ks b₀ turns k b) where
    -- a distance of 0, or no turn left, ends the loop
    pub run_over : {x : Bool} → x ≡ over (view b) → x ≡ true → view b ≡ settle p.target.0 (settings_of p s (middle_of m ∷ ms) ks) (view b₀)
    run_over e t = sym (settle-over p.target.0 (rows (turns - k) k (row_of p s m ms ks)) (view b) (sym e ∙ t)) ∙ r.same

    pub run_end : turns ≤ k → view b ≡ settle p.target.0 (settings_of p s (middle_of m ∷ ms) ks) (view b₀)
    run_end h = sym (loop_end p.target.0 turns k (row_of p s m ms ks) (view b) h) ∙ r.same

    module _ (h : k < turns) where
      -- all points of the row of k fit
      pub run_fits : s.points.0 + m.weight * k + p.a * (s.left.0 - k) ≤ most32
      run_fits = fits_step p.a m.weight s.left.0 s.points.0 most32 k r.slot.weight r.points (omega (arith, r.counts, h))

      pub run_set : (k ≤ s.left.0) × (s.points.0 + m.weight * k ≤ most32)
      run_set = (omega (arith, r.counts, h), omega (arith, run_fits))

      pub run_ready : Ready p (row_of p s m ms ks k) b
      run_ready =
          let n = ap (λ (z : Best). z.tried) r.same in
          record {
            order = r.ready.order;
            slots = r.ready.slots;
            tried = omega (arith, r.ready.tried, loop_count p.target.0 turns k (row_of p s m ms ks) (view b) h);
          }

      -- a turn: what is inside settles the row of k
      pub run_on
          : {n : BestCode} → view n ≡ settle p.target.0 (row_of p s m ms ks k) (view b)
          → Run p s m ms ks b₀ turns (k + 1) n
      run_on o =
          record {
            points = r.points;
            ready = r.ready;
            slot = r.slot;
            counts = r.counts;
            within = omega (arith, h);
            same = rw (o, ← loop_step p.target.0 turns k (row_of p s m ms ks) (view b) h) r.same;
          }

-- the distances of both candidates of a setting, from the lower one's
module _ {p : Plan} {s : Setting} {l : Low} (i : IsLow p s l) where
  pub low_gap : l.below.0 + l.above.0 ≡ gap (trial_of p s l.top.0).points p.target.0
  low_gap = sides_gap (trial_of p s l.top.0).points p.target.0 l.below.0 l.above.0 i.below i.above

  module _ (o : p.c < p.a) (h : l.top.0 < s.left.0) where
    pub low_next : l.above.0 + (p.a - p.c) - l.below.0 ≡ gap (trial_of p s (l.top.0 + 1)).points p.target.0
    low_next =
        next_gap p.a p.c p.target.0 s.left.0 s.points.0 _ o l.top.0 l.above.0 h i.above l.below.0 i.below
        (i.under h)

    pub low_fits : PointsFit p s → l.above.0 + (p.a - p.c) ≤ most32
    low_fits f =
        next_fits p.a p.c p.target.0 s.left.0 s.points.0 _ o l.top.0 l.above.0 h i.above most32 f

-- the running best n after the lower candidate of a setting
pub record Lower (p : Plan) (s : Setting) (b : BestCode) (lo : ℕ) (n : BestCode) : Type 0 where
  pub least : lo ≡ lowest p.a p.c p.target.0 s.left.0 s.points.0
  pub offered : view n ≡ offer p.target.0 (trial_of p s lo) (view b)
  pub going : over (view b) ≡ false

pub after_low
    : {p : Plan} {s : Setting} {b n : BestCode} {l : Low} {d : ℕ} → IsLow p s l → d ≡ l.below.0 + l.above.0
    → ((q : Plan) → d ≡ gap (trial_of q s l.top.0).points q.target.0 → view n ≡ offer q.target.0 (trial_of q s l.top.0) (view b))
    → over (view b) ≡ false → Lower p s b l.top.0 n
after_low {p} i e o g = record { least = i.top; offered = o p (e ∙ low_gap i); going = g }

module _ {p : Plan} {s : Setting} {b n : BestCode} {lo : ℕ} (f : Lower p s b lo n) where
  rest
      : settle p.target.0 (both_of p s) (view b)
      ≡ settle p.target.0 (cond (ltb lo s.left.0) (trial_of p s (suc lo) ∷ []) []) (view n)
  unfolding settings pair
  rest = rw (← f.least, f.offered) (settle_cons p.target.0 (trial_of p s lo) _ (view b) f.going)

  pub lower_over : {x : Bool} → x ≡ over (view n) → x ≡ true → view n ≡ settle p.target.0 (both_of p s) (view b)
  lower_over e t = sym (rest ∙ settle-over p.target.0 _ (view n) (sym e ∙ t))

  pub lower_end : {x : Bool} → x ≡ ltb lo s.left.0 → x ≡ false → view n ≡ settle p.target.0 (both_of p s) (view b)
  unfolding settle
  lower_end e t = sym (rest ∙ rw (sym e ∙ t))

  pub lower_tried : n.tried ≤ (settle p.target.0 (both_of p s) (view b)).tried
  lower_tried = rw rest (settle_mono p.target.0 _ (view n))

  pub lower_on
      : {x y : Bool} {hi : ℕ} {m : BestCode} → x ≡ over (view n) → x ≡ false → y ≡ ltb lo s.left.0 → y ≡ true → hi ≡ lo + 1
      → view m ≡ offer p.target.0 (trial_of p s hi) (view n) → view m ≡ settle p.target.0 (both_of p s) (view b)
  unfolding settle
  lower_on e t d u i o =
      sym (rest ∙ rw (sym d ∙ u) (settle_cons p.target.0 (trial_of p s (suc lo)) [] (view n) (sym e ∙ t) ∙ rw (o, i, add-one lo)))
