-- The words of numbers, decimal and hex, and of percentages are words, and are read as what they say.
-- Assumes nothing.
use mathlib.Core.Path.{◌≡◌, refl, sym, ap, ◌∙◌}
use mathlib.Core.List.{List, [], ◌∷◌, ◌++◌, append_assoc, append-nil}
use mathlib.Core.Bool.{Bool, true, false, cond}
use Prim.Native.Nat.{ℕ, zero, suc, ◌+◌, ◌-◌, ◌*◌, ◌/◌, ◌%◌, ◌^◌, ◌≤◌, ◌<◌}
use native.Mathlib.Nat.{pow-suc, mul_comm, mod-lt, div-one, div-div-eq-div-mul}
use native.Mathlib.Omega.{arith}
use lib.Dec.{ltb}
use lib.ListN.{length, get_or, length-append}
use borrow.Author.Tests.{lt-ltb, le-ltb, eq-eqb, ne_eqb, ltb-true, ltb-false}
use Rattle.text.specs.Text.{decimal_up_to, decimal_text}
use Rattle.words.specs.Words.{small}
use Rattle.words.specs.Values.{digits, number_of, hundredth, behind_point, before_point, percent_of, hex_digit, hex, hex_of}
use Rattle.std.specs.Prelude.{Result, Ok}
use Rattle.words.specs.declared.Fault.{Fault}
use Rattle.percent.proofs.Found.{Reads}
use Rattle.accuracy_text.specs.AccuracyText.{hex_letter, last_digits, hex_text, behind_text, percent_text}
use Rattle.accuracy_text.proofs.Pieces.{digits-length, before_small}
use Rattle.round_trip.proofs.Words.{all_plain, word, some_word, plain_at, plain_append}

-- ---- decimal
digit_in : (m v : ℕ) (cs : List ℕ) → v ≡ m / 10 → m ≤ 4294967295 → digits ((48 + m % 10) ∷ cs) v ≡ digits cs m
unfolding digits
digit_in m v cs e h =
    let k : 10 * v + (48 + m % 10 - 48) ≡ m = omega arith in
    rw (le-ltb (48 + m % 10) 48 (omega arith), le-ltb 57 (48 + m % 10) (omega arith), k, le-ltb 4294967295 m h)

point_in : (m v : ℕ) (cs : List ℕ) → v ≡ m / 10 → m ≤ 999 → before_point ((48 + m % 10) ∷ cs) v ≡ before_point cs m
unfolding before_point
point_in m v cs e h =
    let k : 10 * v + (48 + m % 10 - 48) ≡ m = omega arith in
    rw (ne_eqb (48 + m % 10) 46 (λ z. omega arith), le-ltb (48 + m % 10) 48 (omega arith), le-ltb 57 (48 + m % 10) (omega arith), k, le-ltb 999 m h)

-- what reads a digit behind those that gave v, up to a number, reads the digits of every number up to it
module _ (f : List ℕ → ℕ → Result ℕ Fault) (most : ℕ) (reads : (m v : ℕ) (cs : List ℕ) → v ≡ m / 10 → m ≤ most → f ((48 + m % 10) ∷ cs) v ≡ f cs m) where
  digit_one : (n : ℕ) (cs : List ℕ) → n < 10 → n ≤ most → f ((48 + n) ∷ cs) 0 ≡ f cs n
  digit_one n cs h l =
      let e : n % 10 ≡ n = omega arith in
      ap (λ (d : ℕ). f ((48 + d) ∷ cs) 0) (sym e) ∙ reads n 0 cs (omega arith) l

  up_to : (more n : ℕ) (ys : List ℕ) → n < 10 ^ suc more → n ≤ most → f (decimal_up_to more n ++ ys) 0 ≡ f ys n
  unfolding decimal_up_to
  up_to zero n ys h l = digit_one n ys h l
  up_to (suc more) n ys h l =
      let p : 10 ^ suc (suc more) ≡ 10 ^ suc more * 10 = pow-suc 10 (suc more) in
      go (ltb n 10) refl (up_to more (n / 10) ((48 + n % 10) ∷ ys) (omega arith) (omega arith))
    where
      go : (b : Bool) → ltb n 10 ≡ b → f (decimal_up_to more (n / 10) ++ (48 + n % 10) ∷ ys) 0 ≡ f ((48 + n % 10) ∷ ys) (n / 10)
          → f (cond b ((48 + n) ∷ []) (decimal_up_to more (n / 10) ++ ((48 + n % 10) ∷ [])) ++ ys) 0 ≡ f ys n
      go true e i = digit_one n ys (ltb-true n 10 e) l
      go false e i = rw (append_assoc (decimal_up_to more (n / 10)) ((48 + n % 10) ∷ []) ys) (i ∙ reads n (n / 10) ys refl l)

plain_digits : (more n : ℕ) → all_plain (decimal_up_to more n) ≡ true
unfolding decimal_up_to
plain_digits zero n = rw (plain_at (48 + n) (omega arith))
plain_digits (suc more) n = go (ltb n 10) (plain_digits more (n / 10))
  where
    go : (b : Bool) → all_plain (decimal_up_to more (n / 10)) ≡ true → all_plain (cond b ((48 + n) ∷ []) (decimal_up_to more (n / 10) ++ ((48 + n % 10) ∷ []))) ≡ true
    go true i = rw (plain_at (48 + n) (omega arith))
    go false i = plain_append (decimal_up_to more (n / 10)) ((48 + n % 10) ∷ []) i (rw (plain_at (48 + n % 10) (omega arith)))

some-digits : (more n : ℕ) → 0 < length (decimal_up_to more n)
unfolding decimal_up_to
some-digits zero n = omega arith
some-digits (suc more) n = go (ltb n 10)
  where
    go : (b : Bool) → 0 < length (cond b ((48 + n) ∷ []) (decimal_up_to more (n / 10) ++ ((48 + n % 10) ∷ [])))
    go true = omega arith
    go false = simp length-append (omega arith)

pub decimal_plain : (n : ℕ) → all_plain (decimal_text n) ≡ true
unfolding decimal_text
decimal_plain n = plain_digits 19 n

pub decimal_some : (n : ℕ) → 0 < length (decimal_text n)
unfolding decimal_text
decimal_some n = some-digits 19 n

pub decimal_word : (n : ℕ) → word (decimal_text n) ≡ true
decimal_word n = some_word (decimal_text n) (decimal_plain n) (decimal_some n)

pub decimal_back : (n : ℕ) → n ≤ 4294967295 → number_of (decimal_text n) ≡ Ok n
unfolding number_of decimal_text digits
decimal_back n h =
    let z : length (decimal_up_to 19 n) ≡ 0 → ⊥ = λ e. omega (arith, some-digits 19 n) in
    rw (ne_eqb (length (decimal_up_to 19 n)) 0 z) (ap (λ (w : List ℕ). digits w 0) (sym (append-nil (decimal_up_to 19 n))) ∙ up_to digits 4294967295 digit_in 19 n [] (omega arith) h)

-- ---- hex
letter_digit : (d : ℕ) (b : Bool) → ltb d 10 ≡ b → d < 16 → hex_digit (small (hex_letter d)) ≡ d
letter_digit d true e h =
    let l : d < 10 = ltb-true d 10 e in
    let z : 48 + d - 48 ≡ d = omega arith in
    rw (e, lt-ltb (48 + d) 65 (omega arith), le-ltb (48 + d) 48 (omega arith), lt-ltb (48 + d) 58 (omega arith)) z
letter_digit d false e h =
    let l : 10 ≤ d = ltb-false d 10 e in
    let z : 87 + d - 87 ≡ d = omega arith in
    rw (e, le-ltb (87 + d) 65 (omega arith), lt-ltb 90 (87 + d) (omega arith), le-ltb (87 + d) 48 (omega arith), le-ltb (87 + d) 58 (omega arith), le-ltb (87 + d) 97 (omega arith), lt-ltb (87 + d) 103 (omega arith)) z

hex_in : (m : ℕ) (cs : List ℕ) → hex (hex_letter (m % 16) ∷ cs) (m / 16) ≡ hex cs m
unfolding hex
hex_in m cs =
    let d : hex_digit (small (hex_letter (m % 16))) ≡ m % 16 = letter_digit (m % 16) (ltb (m % 16) 10) refl (omega arith) in
    let k : 16 * (m / 16) + m % 16 ≡ m = omega arith in
    rw (d, ne_eqb (m % 16) 16 (λ z. omega arith), k)

hex-to : (k n : ℕ) (w : List ℕ) → n < 16 ^ k → hex (last_digits 16 k n w) 0 ≡ hex w n
unfolding last_digits
hex-to zero n w h = let z : n ≡ 0 = omega arith in rw z
hex-to (suc k) n w h =
    let p : 16 ^ suc k ≡ 16 ^ k * 16 = pow-suc 16 k in
    let q : n / 16 < 16 ^ k = omega arith in
    hex-to k (n / 16) (hex_letter (n % 16) ∷ w) q ∙ hex_in n w

last_plain : (b k n : ℕ) (w : List ℕ) → 0 < b → b ≤ 16 → all_plain w ≡ true → all_plain (last_digits b k n w) ≡ true
unfolding last_digits
last_plain b zero n w p l h = h
last_plain b (suc k) n w p l h = last_plain b k (n / b) (hex_letter (n % b) ∷ w) p l (go (n % b) (ltb (n % b) 10) refl (omega (arith, mod-lt n p)))
  where
    go : (d : ℕ) (t : Bool) → ltb d 10 ≡ t → d < 16 → all_plain (hex_letter d ∷ w) ≡ true
    go d true e s = rw (e, plain_at (48 + d) (omega arith), h)
    go d false e s = rw (e, plain_at (87 + d) (omega arith), h)

hex_sixteen : (n : ℕ) → length (hex_text n) ≡ 16
unfolding hex_text
hex_sixteen n = digits-length 16 16 n []

hex-all : (n : ℕ) → all_plain (hex_text n) ≡ true
unfolding hex_text
hex-all n = last_plain 16 16 n [] (omega arith) (omega arith) refl

hex_read : (n : ℕ) → n < 18446744073709551616 → hex (hex_text n) 0 ≡ Ok n
unfolding hex_text hex
hex_read n h = hex-to 16 n [] h

pub hex_word : (n : ℕ) → word (hex_text n) ≡ true
hex_word n = some_word (hex_text n) (hex-all n) (let z = hex_sixteen n in omega arith)

pub hex_back : (n : ℕ) → n < 18446744073709551616 → hex_of (hex_text n) ≡ Ok n
unfolding hex_of
hex_back n h = rw (eq-eqb (length (hex_text n)) 16 (hex_sixteen n)) (hex_read n h)

-- ---- percentages
first_digit : (more n : ℕ) (ys : List ℕ) → 48 ≤ get_or (decimal_up_to more n ++ ys) 0 0
unfolding decimal_up_to
first_digit zero n ys = omega arith
first_digit (suc more) n ys = go (ltb n 10) (first_digit more (n / 10) ((48 + n % 10) ∷ ys))
  where
    go : (b : Bool) → 48 ≤ get_or (decimal_up_to more (n / 10) ++ ((48 + n % 10) ∷ ys)) 0 0
        → 48 ≤ get_or (cond b ((48 + n) ∷ []) (decimal_up_to more (n / 10) ++ ((48 + n % 10) ∷ [])) ++ ys) 0 0
    go true i = omega arith
    go false i = rw (append_assoc (decimal_up_to more (n / 10)) ((48 + n % 10) ∷ []) ys) i

-- a digit behind the point
behind_in : (m v k : ℕ) (cs : List ℕ) → v ≡ m / 10 → k < 12 → behind_point (hex_letter (m % 10) ∷ cs) v k ≡ behind_point cs m (k + 1)
unfolding behind_point
behind_in m v k cs e h =
    let d : m % 10 < 10 = omega arith in
    let j : 10 * v + (48 + m % 10 - 48) ≡ m = omega arith in
    rw (lt-ltb (m % 10) 10 d, le-ltb (48 + m % 10) 48 (omega arith), le-ltb 57 (48 + m % 10) (omega arith), lt-ltb k 12 h, j)

behind_to : (k n i : ℕ) (w : List ℕ) → i + k ≤ 12 → behind_point (last_digits 10 k n w) (n / 10 ^ k) i ≡ behind_point w n (i + k)
unfolding last_digits
behind_to zero n i w h = let z : i + 0 ≡ i = omega arith in rw (z, div-one n)
behind_to (suc k) n i w h =
    let e : n / 10 ^ suc k ≡ n / 10 / 10 ^ k = ap (λ (x : ℕ). n / x) (pow-suc 10 k ∙ mul_comm (10 ^ k) 10) ∙ sym (div-div-eq-div-mul n 10 (10 ^ k)) in
    let z : i + suc k ≡ i + k + 1 = omega arith in
    rw (e, z) (behind_to k (n / 10) i (hex_letter (n % 10) ∷ w) (omega arith) ∙ behind_in n (n / 10) (i + k) w refl (omega arith))

-- the point, if there is one, and what stands behind it
point_to : (k n : ℕ) → k ≤ 12 → before_point (behind_text k n) (n / 10 ^ k) ≡ Ok (hundredth n k)
unfolding behind_text before_point behind_point
point_to zero n h = rw (div-one n)
point_to (suc k) n h = behind_to (suc k) n 0 [] (omega arith) ∙ let z : 0 + suc k ≡ suc k = omega arith in rw z

behind_plain : (k n : ℕ) → all_plain (behind_text k n) ≡ true
unfolding behind_text
behind_plain zero n = refl
behind_plain (suc k) n = rw (last_plain 10 (suc k) n [] (omega arith) (omega arith) refl)

percent_long : (n k : ℕ) → 0 < length (percent_text n k)
unfolding percent_text
percent_long n k = simp length-append (omega (arith, decimal_some (n / 10 ^ k)))

pub percent_word : (n k : ℕ) → word (percent_text n k) ≡ true
unfolding percent_text
percent_word n k = some_word (percent_text n k) (plain_append (decimal_text (n / 10 ^ k)) (behind_text k n) (decimal_plain (n / 10 ^ k)) (behind_plain k n)) (percent_long n k)

pub percent_back : {bits n k : ℕ} → Reads bits n k → percent_of (percent_text n k) ≡ Ok bits
unfolding percent_of percent_text decimal_text
percent_back {bits} {n} {k} r =
    let m = n / 10 ^ k in
    let w = percent_text n k in
    let l : length w ≡ 0 → ⊥ = λ z. omega (arith, percent_long n k) in
    let f : get_or w 0 0 ≡ 46 → ⊥ = λ z. omega (arith, first_digit 19 m (behind_text k n)) in
    let s : m < 1000 = before_small n k (10 ^ k) refl r.small in
    rw (ne_eqb (length w) 0 l, ne_eqb (get_or w 0 0) 46 f)
    (up_to before_point 999 point_in 19 m (behind_text k n) (omega arith) (omega arith) ∙ point_to k n r.few ∙ ap Ok r.same)
