-- Nothing put is nothing changed, two puts side by side are one, and a part written anew is a put.
-- Assumes nothing.
use mathlib.Core.Path.{◌≡◌, ap, sym, ◌∙◌, subst}
use mathlib.Core.List.{List, [], ◌++◌, append_assoc, append-nil}
use Prim.Native.Nat.{ℕ, ◌+◌, ◌≤◌}
use native.Mathlib.Nat.{add-zero}
use native.Mathlib.Omega.{arith}
use lib.ListN.{length, take, drop, length-append, take-append-drop}
use borrow.Rule.Slice.PartMut.{put_mid}
use lib.Seq.{take_at, drop-append-add, drop-drop, length-take-le}
use Rattle.lists.specs.Lists.{put}

pub put-none : (s : List ℕ) (i : ℕ) → put s i [] ≡ s
unfolding put
put-none s i = rw (append-nil, add-zero) (take-append-drop i s)

put-put : (s : List ℕ) (i : ℕ) (vs ws : List ℕ) → i + length vs + length ws ≤ length s → put (put s i vs) (i + length vs) ws ≡ put s i (vs ++ ws)
unfolding put
put-put s i vs ws h =
    let front : List ℕ = take i s ++ vs in
    let l : length front ≡ i + length vs = length-append (take i s) vs ∙ ap (λ (k : ℕ). k + length vs) (length-take-le i s (omega arith)) in
    let t : take (i + length vs) (put s i vs) ≡ front = take_at front (drop (i + length vs) s) (i + length vs) l in
    let e : length (vs ++ ws) ≡ length vs + length ws = length-append vs ws in
    let e2 : i + length vs + length ws ≡ i + length (vs ++ ws) = omega arith in
    let d : drop (i + length vs + length ws) (put s i vs) ≡ drop (i + length (vs ++ ws)) s =
    subst (λ (k : ℕ). drop (k + length ws) (front ++ drop (i + length vs) s) ≡ drop (length ws) (drop (i + length vs) s)) l (drop-append-add front (drop (i + length vs) s) (length ws))
    ∙ drop-drop (length ws) (i + length vs) s
    ∙ ap (λ (k : ℕ). drop k s) e2 in
    rw (t, d) (ap (λ (r : List ℕ). r ++ drop (i + length (vs ++ ws)) s) (append_assoc (take i s) vs ws))

-- a put at the end of a put
pub next : (s s1 s2 : List ℕ) (i k : ℕ) (vs ws : List ℕ) → k ≡ i + length vs → k + length ws ≤ length s → s1 ≡ put s i vs → s2 ≡ put s1 k ws → s2 ≡ put s i (vs ++ ws)
next s s1 s2 i k vs ws e h p q = q ∙ rw (p, e) (put-put s i vs ws (omega arith))

-- a part of a list that was written anew, as a slice's `copy_from_slice` leaves it, is a put
pub part_put : (i k : ℕ) (s part vs : List ℕ) → part ≡ vs → k ≡ length vs → put_mid i k s part ≡ put s i vs
unfolding put
part_put i k s part vs e h = rw (e, drop-drop k i s, h) (sym (append_assoc (take i s) vs (drop (i + length vs) s)))
