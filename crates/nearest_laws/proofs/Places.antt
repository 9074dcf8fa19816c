-- The walk with a place for each judgement is the walk of the missing weights, and its counts, put at their places, are the walk's
-- counts filled in.
use Prim.Native.Nat.{ℕ, suc, ◌<◌, ◌≤◌}
use mathlib.Core.Path.{◌≡◌, refl, sym, ap, ap₂, ◌∙◌, subst}
use mathlib.Core.Bool.{Bool, true, false, cond, ◌&&◌}
use mathlib.Core.List.{List, [], ◌∷◌, ◌++◌, head-eq_of_cons-eq, tail-eq_of_cons-eq}
use mathlib.Core.Option.{Option, none, some}
use lib.Dec.{ltb, eqb}
use lib.ListN.{length}
use native.Mathlib.Omega.{arith}
use borrow.Author.Tests.{ltb-true, lt-ltb, le-ltb, eq-eqb, ne_eqb}
use Rattle.score_state.specs.Given.{missing, fill}
use Rattle.nearest_laws.specs.Walk.{Middle, Best, stride, start, settle, settings, last_of, init_of, middles, middles_of, walk, Falling}
use Rattle.nearest_laws.specs.Places.{idle, slot_of, slots, Slot, place_of, places}
use Rattle.nearest_laws.proofs.Exchange.{stride_pos, stride-le, stride_two}
use Rattle.nearest_laws.proofs.Near.{last_lt, walk_split}
use Rattle.nearest_laws.proofs.Pad.{Pads, done, keep, skip, padded, spread, on_best, walk_padded, walk-places}

pub slot-heavy : (a c w : ℕ) → a ≤ w → slot_of a c w none ≡ idle
unfolding slot_of
slot-heavy a c w h = rw (le-ltb w a h)

pub slot-light : (a c w : ℕ) → w ≤ c → w < a → slot_of a c w none ≡ idle
unfolding slot_of
slot-light a c w h l = rw (lt-ltb w a l, le-ltb c w h)

pub slot_middle : (a c w : ℕ) → c < w → w < a → slot_of a c w none ≡ record { weight = w; q = stride a c w }
unfolding slot_of
slot_middle a c w h l = rw (lt-ltb w a l, lt-ltb c w h)

pub slot-good : (a c w : ℕ) (g : Option ℕ) → Slot a (slot_of a c w g)
unfolding slot_of
slot-good a c w (some n) = record { weight = omega arith; some = omega arith; few = omega arith }
slot-good a c w none = go (ltb w a) refl (ltb c w) refl
  where
    go
        : (x : Bool) → ltb w a ≡ x → (y : Bool) → ltb c w ≡ y
        → Slot a (cond (x && y) (record { weight = w; q = stride a c w }) idle)
    go true e true f =
        let h = ltb-true w a e in
        let l = ltb-true c w f in
        record { weight = omega arith; some = stride_pos a c w l h; few = omega (arith, stride-le a c w) }
    go true e false f = record { weight = omega arith; some = omega arith; few = omega arith }
    go false e true f = record { weight = omega arith; some = omega arith; few = omega arith }
    go false e false f = record { weight = omega arith; some = omega arith; few = omega arith }

-- a stride of 1 tells that there is no middle
pub slot_by_q : (a c w : ℕ) (g : Option ℕ) → record { weight = cond (eqb (slot_of a c w g).q 1) 0 w; q = (slot_of a c w g).q } ≡ slot_of a c w g
unfolding slot_of
slot_by_q a c w (some n) = refl
slot_by_q a c w none = go (ltb w a) refl (ltb c w) refl
  where
    at : Bool → Middle
    at b = cond b (record { weight = w; q = stride a c w }) idle

    go
        : (x : Bool) → ltb w a ≡ x → (y : Bool) → ltb c w ≡ y
        → record { weight = cond (eqb (at (x && y)).q 1) 0 w; q = (at (x && y)).q } ≡ at (x && y)
    go true e true f = rw (ne_eqb (stride a c w) 1 (λ z. omega (arith, stride_two a c w (ltb-true c w f) (ltb-true w a e))))
    go true e false f = refl
    go false e true f = refl
    go false e false f = refl

place_top : (a c top rest w m : ℕ) → w ≡ a → top ≡ place_of a c top rest w none m
unfolding place_of
place_top a c top rest w m e = rw (eq-eqb w a e)

place_rest : (a c top rest w m : ℕ) → w < a → w ≡ c → rest ≡ place_of a c top rest w none m
unfolding place_of
place_rest a c top rest w m l e = rw (ne_eqb w a (λ z. omega arith), eq-eqb w c e)

place_middle : (a c top rest w m : ℕ) → w < a → c < w → m ≡ place_of a c top rest w none m
unfolding place_of
place_middle a c top rest w m l h = rw (ne_eqb w a (λ z. omega arith), ne_eqb w c (λ z. omega arith))

-- With a and c. From some place on nothing is missing.
pub record Held (a c : ℕ) (ws : List ℕ) (gs : List (Option ℕ)) : Type 0 where
  pub ss : List Middle
  pub same : slots a c ws gs ≡ ss
  pub pads : Pads [] ss
  pub last : (y rest : ℕ) (ms : List ℕ) → length ms ≡ length ws → padded pads (y ∷ []) ≡ ms ++ (rest ∷ []) → y ≡ rest
  pub filled : (top rest : ℕ) (ms : List ℕ) → length ms ≡ length ws → fill gs [] ≡ places a c top rest ws gs ms

-- The missing weights from some place on, below a, are b and bs.
pub record Below (a c : ℕ) (ws : List ℕ) (gs : List (Option ℕ)) (b : ℕ) (bs : List ℕ) : Type 0 where
  pub ss : List Middle
  pub same : slots a c ws gs ≡ ss
  pub pads : Pads (middles a c (init_of b bs)) ss
  pub filled
      : (top rest : ℕ) (ms ys : List ℕ) → length ys ≡ suc (length bs) → length ms ≡ length ws
      → padded pads ys ≡ ms ++ (rest ∷ []) → fill gs ys ≡ places a c top rest ws gs ms

abbrev FromHere : ℕ → ℕ → List ℕ → List (Option ℕ) → List ℕ → Type 0
FromHere a c ws gs [] = Held a c ws gs
FromHere a c ws gs (b ∷ bs) = Falling a (b ∷ bs) → c ≡ last_of b bs → Below a c ws gs b bs

held_more : (a c w n : ℕ) (ws : List ℕ) (gs : List (Option ℕ)) → Held a c ws gs → Held a c (w ∷ ws) (some n ∷ gs)
unfolding slots slot_of padded fill places place_of
held_more a c w n ws gs h =
    record {
      ss = idle ∷ h.ss;
      same = ap (λ (l : List Middle). idle ∷ l) h.same;
      pads = skip h.pads;
      last = last;
      filled = filled;
    }
  where
    last : (y rest : ℕ) (ms : List ℕ) → length ms ≡ suc (length ws) → 0 ∷ padded h.pads (y ∷ []) ≡ ms ++ (rest ∷ []) → y ≡ rest
    last y rest [] l e = absurd (omega arith)
    last y rest (m ∷ ms) l e = h.last y rest ms (omega arith) (tail-eq_of_cons-eq e)

    filled : (top rest : ℕ) (ms : List ℕ) → length ms ≡ suc (length ws) → n ∷ fill gs [] ≡ places a c top rest (w ∷ ws) (some n ∷ gs) ms
    filled top rest [] l = absurd (omega arith)
    filled top rest (m ∷ ms) l = ap (λ (z : List ℕ). n ∷ z) (h.filled top rest ms (omega arith))

below-held
    : (a c w n b : ℕ) (ws bs : List ℕ) (gs : List (Option ℕ)) → Below a c ws gs b bs → Below a c (w ∷ ws) (some n ∷ gs) b bs
unfolding slots slot_of padded fill places place_of
below-held a c w n b ws bs gs h =
    record {
      ss = idle ∷ h.ss;
      same = ap (λ (l : List Middle). idle ∷ l) h.same;
      pads = skip h.pads;
      filled = filled;
    }
  where
    filled
        : (top rest : ℕ) (ms ys : List ℕ) → length ys ≡ suc (length bs) → length ms ≡ suc (length ws)
        → 0 ∷ padded h.pads ys ≡ ms ++ (rest ∷ []) → n ∷ fill gs ys ≡ places a c top rest (w ∷ ws) (some n ∷ gs) ms
    filled top rest [] ys k l e = absurd (omega arith)
    filled top rest (m ∷ ms) ys k l e = ap (λ (z : List ℕ). n ∷ z) (h.filled top rest ms ys k (omega arith) (tail-eq_of_cons-eq e))

-- the place of c: the last that is missing
below_last
    : (a c w : ℕ) (ws : List ℕ) (gs : List (Option ℕ)) → w < a → c ≡ w → Held a c ws gs → Below a c (w ∷ ws) (none ∷ gs) w []
unfolding slots padded fill places middles init_of
below_last a c w ws gs lt ec h =
    record {
      ss = idle ∷ h.ss;
      same = ap₂ (λ (x : Middle) (l : List Middle). x ∷ l) (slot-light a c w (omega arith) lt) h.same;
      pads = skip h.pads;
      filled = filled;
    }
  where
    filled
        : (top rest : ℕ) (ms ys : List ℕ) → length ys ≡ 1 → length ms ≡ suc (length ws)
        → 0 ∷ padded h.pads ys ≡ ms ++ (rest ∷ []) → fill (none ∷ gs) ys ≡ places a c top rest (w ∷ ws) (none ∷ gs) ms
    filled top rest [] ys k l e = absurd (omega arith)
    filled top rest (m ∷ ms) [] k l e = absurd (omega arith)
    filled top rest (m ∷ ms) (y ∷ (z ∷ zs)) k l e = absurd (omega arith)
    filled top rest (m ∷ ms) (y ∷ []) k l e =
        ap₂ (λ (x : ℕ) (t : List ℕ). x ∷ t)
        (h.last y rest ms (omega arith) (tail-eq_of_cons-eq e) ∙ place_rest a c top rest w m lt (sym ec))
        (h.filled top rest ms (omega arith))

-- the place of a middle
below_middle
    : (a c w b : ℕ) (ws bs : List ℕ) (gs : List (Option ℕ)) → w < a → c < w → Below a c ws gs b bs
    → Below a c (w ∷ ws) (none ∷ gs) w (b ∷ bs)
unfolding slots padded fill places middles init_of
below_middle a c w b ws bs gs lt lc h =
    record {
      ss = record { weight = w; q = stride a c w } ∷ h.ss;
      same = ap₂ (λ (x : Middle) (l : List Middle). x ∷ l) (slot_middle a c w lc lt) h.same;
      pads = keep h.pads;
      filled = filled;
    }
  where
    filled
        : (top rest : ℕ) (ms ys : List ℕ) → length ys ≡ suc (suc (length bs)) → length ms ≡ suc (length ws)
        → padded (keep {m = record { weight = w; q = stride a c w }} h.pads) ys ≡ ms ++ (rest ∷ [])
        → fill (none ∷ gs) ys ≡ places a c top rest (w ∷ ws) (none ∷ gs) ms
    filled top rest [] ys k l e = absurd (omega arith)
    filled top rest (m ∷ ms) [] k l e = absurd (omega arith)
    filled top rest (m ∷ ms) (y ∷ ys) k l e =
        ap₂ (λ (x : ℕ) (t : List ℕ). x ∷ t)
        (head-eq_of_cons-eq e ∙ place_middle a c top rest w m lt lc)
        (h.filled top rest ms ys (omega arith) (omega arith) (tail-eq_of_cons-eq e))

from_here : (a c : ℕ) (ws : List ℕ) (gs : List (Option ℕ)) → length ws ≡ length gs → FromHere a c ws gs (missing ws gs)
unfolding missing slots padded fill places last_of
from_here a c [] [] l = record { ss = []; same = refl; pads = done; last = last; filled = λ top rest ms k. refl }
  where
    last : (y rest : ℕ) (ms : List ℕ) → length ms ≡ 0 → y ∷ [] ≡ ms ++ (rest ∷ []) → y ≡ rest
    last y rest [] k e = head-eq_of_cons-eq e
    last y rest (m ∷ ms) k e = absurd (omega arith)
from_here a c [] (g ∷ gs) l = absurd (omega arith)
from_here a c (w ∷ ws) [] l = absurd (omega arith)
from_here a c (w ∷ ws) (some n ∷ gs) l = go (missing ws gs) (from_here a c ws gs (omega arith))
  where
    go : (us : List ℕ) → FromHere a c ws gs us → FromHere a c (w ∷ ws) (some n ∷ gs) us
    go [] h = held_more a c w n ws gs h
    go (b ∷ bs) h = λ f e. below-held a c w n b ws bs gs (h f e)
from_here a c (w ∷ ws) (none ∷ gs) l = go (missing ws gs) (from_here a c ws gs (omega arith))
  where
    go : (us : List ℕ) → FromHere a c ws gs us → FromHere a c (w ∷ ws) (none ∷ gs) (w ∷ us)
    go [] h = λ f e. below_last a c w ws gs f.0 e h
    go (b ∷ bs) h =
        λ f e.
        let lt : b < w = f.1.0 in
        let lc : last_of b bs < w = last_lt w b bs lt f.1.1 in
        below_middle a c w b ws bs gs f.0 (omega arith) (h (omega arith, f.1.1) e)

-- All places: the missing weights are a, b and bs.
pub record Whole (a c : ℕ) (ws : List ℕ) (gs : List (Option ℕ)) (b : ℕ) (bs : List ℕ) : Type 0 where
  pub ss : List Middle
  pub same : slots a c ws gs ≡ ss
  pub pads : Pads (middles a c (init_of b bs)) ss
  pub filled
      : (top rest : ℕ) (ms ys : List ℕ) → length ys ≡ suc (length bs) → length ms ≡ length ws
      → padded pads ys ≡ ms ++ (rest ∷ []) → fill gs (top ∷ ys) ≡ places a c top rest ws gs ms

-- One is missing: a. Its count is all that is to give.
pub record Single (a c : ℕ) (ws : List ℕ) (gs : List (Option ℕ)) : Type 0 where
  pub filled : (top rest : ℕ) (ms : List ℕ) → length ms ≡ length ws → fill gs (top ∷ []) ≡ places a c top rest ws gs ms

single_held : (a c w n : ℕ) (ws : List ℕ) (gs : List (Option ℕ)) → Single a c ws gs → Single a c (w ∷ ws) (some n ∷ gs)
unfolding fill places place_of
single_held a c w n ws gs h = record { filled = filled }
  where
    filled
        : (top rest : ℕ) (ms : List ℕ) → length ms ≡ suc (length ws)
        → n ∷ fill gs (top ∷ []) ≡ places a c top rest (w ∷ ws) (some n ∷ gs) ms
    filled top rest [] l = absurd (omega arith)
    filled top rest (m ∷ ms) l = ap (λ (z : List ℕ). n ∷ z) (h.filled top rest ms (omega arith))

single_first : (a c w : ℕ) (ws : List ℕ) (gs : List (Option ℕ)) → w ≡ a → Held a c ws gs → Single a c (w ∷ ws) (none ∷ gs)
unfolding fill places
single_first a c w ws gs ea h = record { filled = filled }
  where
    filled
        : (top rest : ℕ) (ms : List ℕ) → length ms ≡ suc (length ws)
        → top ∷ fill gs [] ≡ places a c top rest (w ∷ ws) (none ∷ gs) ms
    filled top rest [] l = absurd (omega arith)
    filled top rest (m ∷ ms) l =
        ap₂ (λ (x : ℕ) (t : List ℕ). x ∷ t) (place_top a c top rest w m ea) (h.filled top rest ms (omega arith))

abbrev FromStart : ℕ → ℕ → List ℕ → List (Option ℕ) → List ℕ → Type 0
FromStart a c ws gs [] = Held a c ws gs
FromStart a c ws gs (d ∷ []) = d ≡ a → Single a c ws gs
FromStart a c ws gs (d ∷ (b ∷ bs)) = d ≡ a → Falling a (b ∷ bs) → c ≡ last_of b bs → Whole a c ws gs b bs

whole_held
    : (a c w n b : ℕ) (ws bs : List ℕ) (gs : List (Option ℕ)) → Whole a c ws gs b bs → Whole a c (w ∷ ws) (some n ∷ gs) b bs
unfolding slots slot_of padded fill places place_of
whole_held a c w n b ws bs gs h =
    record {
      ss = idle ∷ h.ss;
      same = ap (λ (l : List Middle). idle ∷ l) h.same;
      pads = skip h.pads;
      filled = filled;
    }
  where
    filled
        : (top rest : ℕ) (ms ys : List ℕ) → length ys ≡ suc (length bs) → length ms ≡ suc (length ws)
        → 0 ∷ padded h.pads ys ≡ ms ++ (rest ∷ []) → n ∷ fill gs (top ∷ ys) ≡ places a c top rest (w ∷ ws) (some n ∷ gs) ms
    filled top rest [] ys k l e = absurd (omega arith)
    filled top rest (m ∷ ms) ys k l e = ap (λ (z : List ℕ). n ∷ z) (h.filled top rest ms ys k (omega arith) (tail-eq_of_cons-eq e))

-- the place of a: the first that is missing
whole_first
    : (a c w b : ℕ) (ws bs : List ℕ) (gs : List (Option ℕ)) → w ≡ a → Below a c ws gs b bs → Whole a c (w ∷ ws) (none ∷ gs) b bs
unfolding slots padded fill places
whole_first a c w b ws bs gs ea h =
    record {
      ss = idle ∷ h.ss;
      same = ap₂ (λ (x : Middle) (l : List Middle). x ∷ l) (slot-heavy a c w (omega arith)) h.same;
      pads = skip h.pads;
      filled = filled;
    }
  where
    filled
        : (top rest : ℕ) (ms ys : List ℕ) → length ys ≡ suc (length bs) → length ms ≡ suc (length ws)
        → 0 ∷ padded h.pads ys ≡ ms ++ (rest ∷ []) → top ∷ fill gs ys ≡ places a c top rest (w ∷ ws) (none ∷ gs) ms
    filled top rest [] ys k l e = absurd (omega arith)
    filled top rest (m ∷ ms) ys k l e =
        ap₂ (λ (x : ℕ) (t : List ℕ). x ∷ t)
        (place_top a c top rest w m ea)
        (h.filled top rest ms ys k (omega arith) (tail-eq_of_cons-eq e))

from_start : (a c : ℕ) (ws : List ℕ) (gs : List (Option ℕ)) → length ws ≡ length gs → FromStart a c ws gs (missing ws gs)
unfolding missing
from_start a c [] [] l = from_here a c [] [] l
from_start a c [] (g ∷ gs) l = absurd (omega arith)
from_start a c (w ∷ ws) [] l = absurd (omega arith)
from_start a c (w ∷ ws) (some n ∷ gs) l = go (missing ws gs) (from_start a c ws gs (omega arith))
  where
    go : (us : List ℕ) → FromStart a c ws gs us → FromStart a c (w ∷ ws) (some n ∷ gs) us
    go [] h = held_more a c w n ws gs h
    go (d ∷ []) h = λ e. single_held a c w n ws gs (h e)
    go (d ∷ (b ∷ bs)) h = λ e f g. whole_held a c w n b ws bs gs (h e f g)
from_start a c (w ∷ ws) (none ∷ gs) l = go (missing ws gs) (from_here a c ws gs (omega arith))
  where
    go : (us : List ℕ) → FromHere a c ws gs us → FromStart a c (w ∷ ws) (none ∷ gs) (w ∷ us)
    go [] h = λ e. single_first a c w ws gs e h
    go (b ∷ bs) h = λ e f g. whole_first a c w b ws bs gs e (h f g)

-- with none or one missing, put at the places
pub none_placed
    : (a c top rest : ℕ) (ms ws : List ℕ) (gs : List (Option ℕ)) → length ws ≡ length gs → length ms ≡ length ws → missing ws gs ≡ []
    → fill gs [] ≡ places a c top rest ws gs ms
none_placed a c top rest ms ws gs l k e =
    (subst (λ (us : List ℕ). FromStart a c ws gs us) e (from_start a c ws gs l)).filled top rest ms k

pub one_placed
    : (a c top rest : ℕ) (ms ws : List ℕ) (gs : List (Option ℕ)) → length ws ≡ length gs → length ms ≡ length ws → missing ws gs ≡ a ∷ []
    → fill gs (top ∷ []) ≡ places a c top rest ws gs ms
one_placed a c top rest ms ws gs l k e =
    (subst (λ (us : List ℕ). FromStart a c ws gs us) e (from_start a c ws gs l) refl).filled top rest ms k

-- the answer of the walk over all places, put at the places
whole_placed
    : (a c top rest b : ℕ) (ms xs ws bs : List ℕ) (gs : List (Option ℕ)) (h : Whole a c ws gs b bs)
    → length xs ≡ suc (suc (length bs)) → length ms ≡ length ws → spread h.pads xs ≡ top ∷ (ms ++ (rest ∷ []))
    → fill gs xs ≡ places a c top rest ws gs ms
unfolding spread
whole_placed a c top rest b ms [] ws bs gs h k l e = absurd (omega arith)
whole_placed a c top rest b ms (x ∷ ys) ws bs gs h k l e =
    ap (λ (z : ℕ). fill gs (z ∷ ys)) (head-eq_of_cons-eq e) ∙ h.filled top rest ms ys (omega arith) l (tail-eq_of_cons-eq e)

-- ---- The five judgements: the first and the last are never middles, so three loops serve.

first-idle : (a c w : ℕ) (g : Option ℕ) (ws us : List ℕ) (gs : List (Option ℕ)) → missing (w ∷ ws) (g ∷ gs) ≡ a ∷ us → slot_of a c w g ≡ idle
unfolding missing slot_of
first-idle a c w (some n) ws us gs e = refl
first-idle a c w none ws us gs e = let h : w ≡ a = head-eq_of_cons-eq e in rw (le-ltb w a (omega arith))

last_none : (d z : ℕ) (us : List ℕ) (gs : List (Option ℕ)) → length us ≡ length gs → last_of d (missing (us ++ (z ∷ [])) (gs ++ (none ∷ []))) ≡ z
unfolding missing last_of
last_none d z [] [] l = refl
last_none d z [] (g ∷ gs) l = absurd (omega arith)
last_none d z (u ∷ us) [] l = absurd (omega arith)
last_none d z (u ∷ us) (none ∷ gs) l = last_none u z us gs (omega arith)
last_none d z (u ∷ us) (some n ∷ gs) l = last_none d z us gs (omega arith)

last_two : (d a b : ℕ) (bs : List ℕ) → last_of d (a ∷ (b ∷ bs)) ≡ last_of b bs
unfolding last_of
last_two d a b bs = refl

given-idle : (a c w n : ℕ) → slot_of a c w (some n) ≡ idle
unfolding slot_of
given-idle a c w n = refl

module _ (w0 w1 w2 w3 w4 : ℕ) (h0 h1 h2 h3 h4 : Option ℕ) (a b : ℕ) (bs : List ℕ)
    (em : missing (w0 ∷ w1 ∷ w2 ∷ w3 ∷ w4 ∷ []) (h0 ∷ h1 ∷ h2 ∷ h3 ∷ h4 ∷ []) ≡ a ∷ (b ∷ bs)) (f : Falling a (b ∷ bs)) where
  last_idle : (c : ℕ) → c ≡ last_of b bs → slot_of a c w4 h4 ≡ idle
  last_idle c ec = go h4 em
    where
      go : (h : Option ℕ) → missing (w0 ∷ w1 ∷ w2 ∷ w3 ∷ w4 ∷ []) (h0 ∷ h1 ∷ h2 ∷ h3 ∷ h ∷ []) ≡ a ∷ (b ∷ bs) → slot_of a c w4 h ≡ idle
      go (some n) e = given-idle a c w4 n
      go none e =
          let z : last_of 0 (a ∷ (b ∷ bs)) ≡ w4 =
          ap (λ (l : List ℕ). last_of 0 l) (sym e) ∙ last_none 0 w4 (w0 ∷ w1 ∷ w2 ∷ w3 ∷ []) (h0 ∷ h1 ∷ h2 ∷ h3 ∷ []) refl in
          let y : c ≡ w4 = ec ∙ sym (last_two 0 a b bs) ∙ z in
          slot-light a c w4 (omega arith) (omega (arith, last_lt a b bs f.0 f.1))

  whole : Whole a (last_of b bs) (w0 ∷ w1 ∷ w2 ∷ w3 ∷ w4 ∷ []) (h0 ∷ h1 ∷ h2 ∷ h3 ∷ h4 ∷ []) b bs
  whole =
      let r = subst (λ (l : List ℕ). FromStart a (last_of b bs) (w0 ∷ w1 ∷ w2 ∷ w3 ∷ w4 ∷ []) (h0 ∷ h1 ∷ h2 ∷ h3 ∷ h4 ∷ []) l) em
      (from_start a (last_of b bs) (w0 ∷ w1 ∷ w2 ∷ w3 ∷ w4 ∷ []) (h0 ∷ h1 ∷ h2 ∷ h3 ∷ h4 ∷ []) refl) in
      r refl f refl

  module _ (T R g tried dist top m1 m2 m3 rest : ℕ) where
    -- what three loops over the places found is what the walk found
    same-walk
        : ◌≡◌ {A = Best} (record { tried = tried; dist = dist; counts = top ∷ m1 ∷ m2 ∷ m3 ∷ rest ∷ [] })
        (settle T (settings a (last_of b bs) T (slot_of a (last_of b bs) w1 h1 ∷ slot_of a (last_of b bs) w2 h2 ∷ slot_of a (last_of b bs) w3 h3 ∷ []) R g []) start)
        → ◌≡◌ {A = Best} (record { tried = tried; dist = dist; counts = top ∷ 0 ∷ m1 ∷ m2 ∷ m3 ∷ 0 ∷ rest ∷ [] })
        (on_best (spread whole.pads) (walk (a ∷ (b ∷ bs)) T R g))
    unfolding slots spread padded middles_of
    same-walk e =
        let c = last_of b bs in
        let three = slot_of a c w1 h1 ∷ slot_of a c w2 h2 ∷ slot_of a c w3 h3 ∷ [] in
        let d : Pads three (idle ∷ slot_of a c w1 h1 ∷ slot_of a c w2 h2 ∷ slot_of a c w3 h3 ∷ idle ∷ []) = skip (keep (keep (keep (skip done)))) in
        let i : slots a c (w0 ∷ w1 ∷ w2 ∷ w3 ∷ w4 ∷ []) (h0 ∷ h1 ∷ h2 ∷ h3 ∷ h4 ∷ []) ≡ idle ∷ slot_of a c w1 h1 ∷ slot_of a c w2 h2 ∷ slot_of a c w3 h3 ∷ idle ∷ [] =
        ap₂ (λ (x y : Middle). x ∷ slot_of a c w1 h1 ∷ slot_of a c w2 h2 ∷ slot_of a c w3 h3 ∷ y ∷ [])
        (first-idle a c w0 h0 (w1 ∷ w2 ∷ w3 ∷ w4 ∷ []) (b ∷ bs) (h1 ∷ h2 ∷ h3 ∷ h4 ∷ []) em) (last_idle c refl) in
        ap (λ (s : Best). on_best (spread d) s) e
        ∙ sym (walk_padded a c T d R g)
        ∙ ap (λ (l : List Middle). settle T (settings a c T l R g []) start) (sym i ∙ whole.same)
        ∙ walk-places a b bs T R g whole.pads

    pub five_placed
        : ◌≡◌ {A = Best} (record { tried = tried; dist = dist; counts = top ∷ m1 ∷ m2 ∷ m3 ∷ rest ∷ [] })
        (settle T (settings a (last_of b bs) T (slot_of a (last_of b bs) w1 h1 ∷ slot_of a (last_of b bs) w2 h2 ∷ slot_of a (last_of b bs) w3 h3 ∷ []) R g []) start)
        → (tried ≡ (walk (a ∷ (b ∷ bs)) T R g).tried)
        × (fill (h0 ∷ h1 ∷ h2 ∷ h3 ∷ h4 ∷ []) (walk (a ∷ (b ∷ bs)) T R g).counts
        ≡ places a (last_of b bs) top rest (w0 ∷ w1 ∷ w2 ∷ w3 ∷ w4 ∷ []) (h0 ∷ h1 ∷ h2 ∷ h3 ∷ h4 ∷ []) (0 ∷ m1 ∷ m2 ∷ m3 ∷ 0 ∷ []))
    five_placed e =
        let s = same-walk e in (
          ap (λ (z : Best). z.tried) s,
          whole_placed a (last_of b bs) top rest b (0 ∷ m1 ∷ m2 ∷ m3 ∷ 0 ∷ []) (walk (a ∷ (b ∷ bs)) T R g).counts
              (w0 ∷ w1 ∷ w2 ∷ w3 ∷ w4 ∷ []) bs (h0 ∷ h1 ∷ h2 ∷ h3 ∷ h4 ∷ []) whole (walk_split a (b ∷ bs) f T R g).long refl
              (sym (ap (λ (z : Best). z.counts) s)),
        )
