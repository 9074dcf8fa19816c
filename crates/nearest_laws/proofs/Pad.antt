-- A position that is no middle, walked with stride 1, changes nothing but a 0 among the counts.
use Prim.Native.Nat.{ℕ, zero, suc, ◌+◌, ◌-◌, ◌*◌, min}
use mathlib.Core.Path.{◌≡◌, refl, sym, ap, ap₂, ◌∙◌}
use mathlib.Core.Bool.{Bool, true, false, cond}
use mathlib.Core.List.{List, [], ◌∷◌, ◌++◌, map, append_assoc, append-nil}
use lib.Dec.{ltb}
use native.Mathlib.Nat.{zero-min, mul-zero, add-zero, sub-zero}
use Rattle.units.specs.Gap.{gap}
use Rattle.nearest_laws.specs.Walk.{Middle, Try, Best, start, over, better, offer, settle, rows, lowest, trial, pair, settings, last_of, middles_of, candidates, walk}

-- the second list is the first with positions put in that are no middles
pub data Pads : List Middle → List Middle → Type 0 where
  done : Pads [] []
  keep : {m : Middle} {ms ss : List Middle} → Pads ms ss → Pads (m ∷ ms) (m ∷ ss)
  skip : {ms ss : List Middle} → Pads ms ss → Pads ms (record { weight = 0; q = 1 } ∷ ss)

-- zeros at those positions; what follows the middles stays
unfoldable pub padded : {ms ss : List Middle} → Pads ms ss → List ℕ → List ℕ
padded done xs = xs
padded (keep p) [] = []
padded (keep p) (x ∷ xs) = x ∷ padded p xs
padded (skip p) xs = 0 ∷ padded p xs

unfoldable pub spread : {ms ss : List Middle} → Pads ms ss → List ℕ → List ℕ
spread p [] = []
spread p (x ∷ xs) = x ∷ padded p xs

module _ (φ : List ℕ → List ℕ) where
  abbrev pub on_try : Try → Try
  on_try t = record { counts = φ t.counts; points = t.points }

  abbrev pub on_best : Best → Best
  on_best s = record { tried = s.tried; dist = s.dist; counts = φ s.counts }

  offer-map : (T : ℕ) (t : Try) (s : Best) → offer T (on_try t) (on_best s) ≡ on_best (offer T t s)
  unfolding offer better
  offer-map T t s = go (better s (gap t.points T))
    where
      go
          : (b : Bool)
          → ◌≡◌ {A = Best}
          (record {
            tried = suc s.tried;
            dist = cond b (gap t.points T) s.dist;
            counts = cond b (φ t.counts) (φ s.counts);
          })
          (record {
            tried = suc s.tried;
            dist = cond b (gap t.points T) s.dist;
            counts = φ (cond b t.counts s.counts);
          })
      go true = refl
      go false = refl

  settle-map : (T : ℕ) (ts : List Try) (s : Best) → settle T (map on_try ts) (on_best s) ≡ on_best (settle T ts s)
  unfolding settle over
  settle-map T [] s = refl
  settle-map T (t ∷ ts) s = go (over s) (ap (λ (z : Best). settle T (map on_try ts) z) (offer-map T t s) ∙ settle-map T ts (offer T t s))
    where
      go
          : (b : Bool)
          → settle T (map on_try ts) (offer T (on_try t) (on_best s)) ≡ on_best (settle T ts (offer T t s))
          → cond b (on_best s) (settle T (map on_try ts) (offer T (on_try t) (on_best s))) ≡ on_best (cond b s (settle T ts (offer T t s)))
      go true i = refl
      go false i = i

  map-append : (xs ys : List Try) → map on_try (xs ++ ys) ≡ map on_try xs ++ map on_try ys
  map-append [] ys = refl
  map-append (x ∷ xs) ys = ap (λ (z : List Try). on_try x ∷ z) (map-append xs ys)

  rows-map : (n k : ℕ) (f g : ℕ → List Try) → ((j : ℕ) → g j ≡ map on_try (f j)) → rows n k g ≡ map on_try (rows n k f)
  unfolding rows
  rows-map zero k f g h = refl
  rows-map (suc n) k f g h =
      ap₂ (λ (x y : List Try). x ++ y) (h k) (rows-map n (suc k) f g h) ∙ sym (map-append (f k) (rows n (suc k) f))

  trial-map
      : (a c r p : ℕ) (ks ls : List ℕ) (j : ℕ) → ((x : ℕ) (xs : List ℕ) → φ (x ∷ (ks ++ xs)) ≡ x ∷ (ls ++ xs))
      → trial a c r p ls j ≡ on_try (trial a c r p ks j)
  unfolding trial
  trial-map a c r p ks ls j h = rw (h j ((r - j) ∷ []))

  pair-map
      : (a c T r p : ℕ) (ks ls : List ℕ) → ((x : ℕ) (xs : List ℕ) → φ (x ∷ (ks ++ xs)) ≡ x ∷ (ls ++ xs))
      → pair a c T r p ls ≡ map on_try (pair a c T r p ks)
  unfolding pair
  pair-map a c T r p ks ls h =
      ap₂ (λ (x : Try) (y : List Try). x ∷ y) (trial-map a c r p ks ls (lowest a c T r p) h) (go (ltb (lowest a c T r p) r))
    where
      go
          : (b : Bool)
          → cond b (trial a c r p ls (suc (lowest a c T r p)) ∷ []) []
          ≡ map on_try (cond b (trial a c r p ks (suc (lowest a c T r p)) ∷ []) [])
      go true = ap (λ (z : Try). z ∷ []) (trial-map a c r p ks ls (suc (lowest a c T r p)) h)
      go false = refl

  settings-map
      : (a c T : ℕ) {ms ss : List Middle} (d : Pads ms ss) (r p : ℕ) (ks ls : List ℕ)
      → ((x : ℕ) (xs : List ℕ) → φ (x ∷ (ks ++ xs)) ≡ x ∷ (ls ++ padded d xs))
      → settings a c T ss r p ls ≡ map on_try (settings a c T ms r p ks)
  unfolding settings padded rows
  settings-map a c T done r p ks ls h = pair-map a c T r p ks ls h
  settings-map a c T (keep {m = m} {ms = ms} {ss = ss} d) r p ks ls h =
      rows-map (suc (min (m.q - 1) r)) 0
      (λ k. settings a c T ms (r - k) (p + m.weight * k) (ks ++ (k ∷ [])))
      (λ k. settings a c T ss (r - k) (p + m.weight * k) (ls ++ (k ∷ [])))
      (λ k. settings-map a c T d (r - k) (p + m.weight * k) (ks ++ (k ∷ [])) (ls ++ (k ∷ []))
      (λ x xs. rw (append_assoc ks (k ∷ []) xs, append_assoc ls (k ∷ []) (padded d xs)) (h x (k ∷ xs))))
  settings-map a c T (skip {ms = ms} {ss = ss} d) r p ks ls h =
      rw (zero-min, append-nil, sub-zero, mul-zero, add-zero)
      (settings-map a c T d r p ks (ls ++ (0 ∷ [])) (λ x xs. rw (append_assoc ls (0 ∷ []) (padded d xs)) (h x xs)))

-- the walk with such positions finds the same, with zeros there
pub walk_padded
    : (a c T : ℕ) {ms ss : List Middle} (d : Pads ms ss) (r p : ℕ)
    → settle T (settings a c T ss r p []) start ≡ on_best (spread d) (settle T (settings a c T ms r p []) start)
unfolding start spread
walk_padded a c T {ms} {ss} d r p =
    ap (λ (z : List Try). settle T z start) (settings-map (spread d) a c T d r p [] [] (λ x xs. refl))
    ∙ settle-map (spread d) T (settings a c T ms r p []) start

-- so a walk of fixed places, with stride 1 where there is no middle, is the walk of the missing weights
pub walk-places
    : (a b : ℕ) (bs : List ℕ) (T R g : ℕ) {ss : List Middle} (d : Pads (middles_of (a ∷ (b ∷ bs))) ss)
    → settle T (settings a (last_of b bs) T ss R g []) start ≡ on_best (spread d) (walk (a ∷ (b ∷ bs)) T R g)
unfolding walk candidates
walk-places a b bs T R g d = walk_padded a (last_of b bs) T d R g
