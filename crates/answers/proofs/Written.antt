-- `answer_bytes`: from the facts that the code has, and read back.
-- Assumes nothing.
use mathlib.Core.Path.{◌≡◌, refl, ap, sym, ◌∙◌}
use mathlib.Core.List.{List, [], ◌∷◌}
use Prim.Native.Nat.{ℕ, zero, suc, ◌+◌, ◌*◌, ◌<◌}
use native.Mathlib.Omega.{arith}
use lib.ListN.{length, get_or}
use Rattle.lists.specs.Lists.{put}
use Rattle.little_endian.specs.Bytes.{u32_at, bytes4}
use Rattle.little_endian.proofs.Put.{bytes4_back}
use Rattle.std.specs.Prelude.{Result, Ok, Err}
use Rattle.refusals.specs.declared.Refusal.{Refusal}
use Rattle.refusals.specs.Refusal.{number_of}
use Rattle.score_state.specs.Answer.{Answer, status_of}
use Rattle.points_left.specs.Left.{bits_of}
use Rattle.generated.specs.Generated.{generated_of}
use Rattle.generated.specs.declared.Generated.{Generated}
use Rattle.answers.specs.Answers.{field_bytes, answer_bytes, value, eight_at}

pub put-counts
    : (s : List ℕ) (at : ℕ) (r : Result Generated Refusal) (g : Generated) (bits : ℕ) (out : List ℕ) → r ≡ Ok g → bits ≡ bits_of g.left
    → out ≡ put s at (field_bytes 0 (g.counts.n320 ∷ g.counts.n300 ∷ g.counts.n200 ∷ g.counts.n100 ∷ g.counts.n50 ∷ g.counts.misses ∷ g.tried ∷ bits ∷ []))
    → out ≡ put s at (answer_bytes (generated_of r))
unfolding answer_bytes
put-counts s at r g bits out e eb p = p ∙ rw eb refl ∙ ap (λ (x : Result Generated Refusal). put s at (answer_bytes (generated_of x))) (sym e)

-- a refused answer has eight zeros
pub Put-refused
    : (s : List ℕ) (at : ℕ) (r : Result Generated Refusal) (f : Refusal) (n : ℕ) (out : List ℕ) → r ≡ Err f → n ≡ number_of f
    → out ≡ put s at (field_bytes n (0 ∷ 0 ∷ 0 ∷ 0 ∷ 0 ∷ 0 ∷ 0 ∷ 0 ∷ [])) → out ≡ put s at (answer_bytes (generated_of r))
unfolding answer_bytes field_bytes
Put-refused s at r f n out e en p = p ∙ rw en refl ∙ ap (λ (x : Result Generated Refusal). put s at (answer_bytes (generated_of x))) (sym e)

pub length-answer : (a : Answer (List ℕ)) → length (answer_bytes a) ≡ 36
unfolding answer_bytes field_bytes bytes4
length-answer a = refl

-- ---- the nine numbers of an answer's 36 bytes
pub status_back : (a : Answer (List ℕ)) → status_of a < 4294967296 → u32_at (answer_bytes a) 0 ≡ status_of a
unfolding answer_bytes field_bytes bytes4
status_back a h = bytes4_back (status_of a) h

value-at : (a : Answer (List ℕ)) (k : ℕ) → k < 8 → u32_at (answer_bytes a) (4 + 4 * k) ≡ u32_at (bytes4 (value a k)) 0
unfolding answer_bytes field_bytes bytes4
value-at a zero h = refl
value-at a (suc zero) h = refl
value-at a (suc (suc zero)) h = refl
value-at a (suc (suc (suc zero))) h = refl
value-at a (suc (suc (suc (suc zero)))) h = refl
value-at a (suc (suc (suc (suc (suc zero))))) h = refl
value-at a (suc (suc (suc (suc (suc (suc zero)))))) h = refl
value-at a (suc (suc (suc (suc (suc (suc (suc zero))))))) h = refl
value-at a (suc (suc (suc (suc (suc (suc (suc (suc k)))))))) h = absurd (omega arith)

pub value_back : (a : Answer (List ℕ)) (k : ℕ) → k < 8 → value a k < 4294967296 → u32_at (answer_bytes a) (4 + 4 * k) ≡ value a k
value_back a k m h = value-at a k m ∙ bytes4_back (value a k) h

-- ---- an answer that an output holds: the j-th of the eight numbers behind its status
pub eight-at : (out : List ℕ) (k j : ℕ) → j < 8 → get_or (eight_at out k) j 0 ≡ u32_at out (36 * k + (4 + 4 * j))
eight-at out k zero h = refl
eight-at out k (suc zero) h = refl
eight-at out k (suc (suc zero)) h = refl
eight-at out k (suc (suc (suc zero))) h = refl
eight-at out k (suc (suc (suc (suc zero)))) h = refl
eight-at out k (suc (suc (suc (suc (suc zero))))) h = refl
eight-at out k (suc (suc (suc (suc (suc (suc zero)))))) h = refl
eight-at out k (suc (suc (suc (suc (suc (suc (suc zero))))))) h = refl
eight-at out k (suc (suc (suc (suc (suc (suc (suc (suc j)))))))) h = absurd (omega arith)
