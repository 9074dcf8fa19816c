-- Pieces one after the other: the same ones are the same list; and pieces of one length, w numbers each, written and found again.
-- Assumes nothing.
use mathlib.Core.Path.{◌≡◌, refl, ap, sym, ◌∙◌}
use mathlib.Core.List.{List, ◌++◌, append_assoc}
use mathlib.Core.Bool.{Bool, true, false}
use Prim.Native.Nat.{ℕ, zero, suc, ◌+◌, ◌*◌, ◌≤◌, ◌<◌}
use native.Mathlib.Nat.{mul-zero, mul-suc}
use native.Mathlib.Numerals.{add-one}
use native.Mathlib.Omega.{arith}
use lib.Dec.{ltb}
use borrow.Author.Tests.{ltb-true, ltb-false}
use lib.ListN.{length, get_or, take, drop, length-append}
use lib.Seq.{take_at, drop_at, drop-append-add, drop-drop, get_or-take, get_or-drop}
use Rattle.lists.specs.Lists.{put, joined}

pub same_pieces : (f g : ℕ → List ℕ) (n : ℕ) → ((k : ℕ) → k < n → f k ≡ g k) → joined f n ≡ joined g n
same_pieces f g zero h = refl
same_pieces f g (suc n) h = rw (same_pieces f g n (λ k l. h k (omega arith)), h n (omega arith))

-- ---- pieces of w numbers each
module _ (w : ℕ) (f : ℕ → List ℕ) (h : (i : ℕ) → length (f i) ≡ w) where
  pub length-joined : (n : ℕ) → length (joined f n) ≡ w * n
  length-joined zero = sym (mul-zero w)
  length-joined (suc n) =
      let e : length (joined f n) ≡ w * n = length-joined n in
      let g : length (f n) ≡ w = h n in
      let m : w * suc n ≡ w * n + w = mul-suc w n in
      length-append (joined f n) (f n) ∙ omega arith

  -- a piece more
  pub next_piece : (out : List ℕ) (i : ℕ) → put (joined f i ++ drop (w * i) out) (w * i) (f i) ≡ joined f (i + 1) ++ drop (w * (i + 1)) out
  unfolding put
  next_piece out i =
      let p = joined f i in
      let q = drop (w * i) out in
      let l : length p ≡ w * i = length-joined i in
      let g : length (f i) ≡ w = h i in
      let t : take (w * i) (p ++ q) ≡ p = take_at p q (w * i) l in
      let m : w * i + length (f i) ≡ length p + w = omega arith in
      let d : drop (w * i + length (f i)) (p ++ q) ≡ drop (w * suc i) out =
      rw m (drop-append-add p q w ∙ drop-drop w (w * i) out ∙ ap (λ (n : ℕ). drop n out) (sym (mul-suc w i))) in
      rw (add-one i, t, d)

  -- the piece i, whatever stands after all of them
  pub piece : (n i : ℕ) (rest : List ℕ) → i < n → take w (drop (w * i) (joined f n ++ rest)) ≡ f i
  piece zero i rest l = absurd (omega arith)
  piece (suc n) i rest l = go (ltb i n) refl (λ k. piece n i (f n ++ rest) k)
    where
      assoc : joined f n ++ f n ++ rest ≡ joined f n ++ (f n ++ rest)
      assoc = append_assoc (joined f n) (f n) rest

      go : (b : Bool) → ltb i n ≡ b → (i < n → take w (drop (w * i) (joined f n ++ (f n ++ rest))) ≡ f i) → take w (drop (w * i) (joined f n ++ f n ++ rest)) ≡ f i
      go true k before = rw assoc (before (ltb-true i n k))
      go false k before =
          let ge : n ≤ i = ltb-false i n k in
          let e : i ≡ n = omega arith in
          let l' : length (joined f n) ≡ w * i = length-joined n ∙ ap (λ (m : ℕ). w * m) (sym e) in
          rw (assoc, drop_at (joined f n) (f n ++ rest) (w * i) l', e) (take_at (f n) rest w (h n))

  -- the k-th number of piece i
  pub in_piece : (n i k : ℕ) (rest : List ℕ) → i < n → k < w → get_or (joined f n ++ rest) (w * i + k) 0 ≡ get_or (f i) k 0
  in_piece n i k rest l m =
      sym (get_or-drop (w * i) (joined f n ++ rest) k 0)
      ∙ sym (get_or-take w (drop (w * i) (joined f n ++ rest)) k 0 m)
      ∙ ap (λ (xs : List ℕ). get_or xs k 0) (piece n i rest l)
