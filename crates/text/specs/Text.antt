-- Document 01, Records: "Figures are decimal". A number as text, and the line of a refusal.
use Rattle.std.specs.Prelude.{cond, List, [], ◌∷◌, ◌++◌, ℕ, zero, suc, ◌+◌, ◌-◌, ◌/◌, ◌%◌, ltb}

-- the digits of n, the most significant first, where there are at most 1 + more of them
unfoldable pub decimal_up_to : ℕ → ℕ → List ℕ
decimal_up_to zero n = (48 + n) ∷ []
decimal_up_to (suc more) n = cond (ltb n 10) ((48 + n) ∷ []) (decimal_up_to more (n / 10) ++ ((48 + n % 10) ∷ []))

-- n in decimal, in ASCII, with no zero in front: every n below 10 ^ 20, which a u64 is
unfoldable pub decimal_text : ℕ → List ℕ
decimal_text n = decimal_up_to 19 n

-- the signed number that a word of 32 bits stands for, a minus sign before a negative one
unfoldable pub signed_text : ℕ → List ℕ
signed_text w = cond (ltb w 2147483648) (decimal_text w) (45 ∷ decimal_text (4294967296 - w))

-- "refused ", 8 bytes
unfoldable pub refused_word : List ℕ
refused_word = 114 ∷ 101 ∷ 102 ∷ 117 ∷ 115 ∷ 101 ∷ 100 ∷ 32 ∷ []

-- `refused N`, of document 01's program and document 02's
unfoldable pub refused_text : ℕ → List ℕ
refused_text n = refused_word ++ decimal_text n ++ (10 ∷ [])
