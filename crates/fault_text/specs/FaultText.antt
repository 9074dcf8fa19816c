-- The page 'A typed sheet' of docs/RULES.md: how a fault is told, "`line 3: n300 is given twice` and a newline. Of WORD at most 40 bytes are
-- shown, then `..` if it has more; a byte below 33 or over 126 is shown as `?`"; and the third column of its table.
use Rattle.std.specs.Prelude.{List, [], ◌∷◌, ◌++◌, cond, ℕ, eqb, ltb, length, take}
use Rattle.text.specs.Text.{decimal_text}

-- a byte of a word, or ? (63)
abbrev pub shown_byte : ℕ → ℕ
shown_byte b = cond (ltb b 33) 63 (cond (ltb 126 b) 63 b)

unfoldable pub shown : List ℕ → List ℕ
shown [] = []
shown (b ∷ w) = shown_byte b ∷ shown w

-- `..` is 46 46
unfoldable pub shown_word : List ℕ → List ℕ
unfolding shown
shown_word w = cond (ltb 40 (length w)) (shown (take 40 w) ++ (46 ∷ 46 ∷ [])) (shown w)

-- " begins no line"
unfoldable pub begins_no_line : List ℕ
begins_no_line = 32 ∷ 98 ∷ 101 ∷ 103 ∷ 105 ∷ 110 ∷ 115 ∷ 32 ∷ 110 ∷ 111 ∷ 32 ∷ 108 ∷ 105 ∷ 110 ∷ 101 ∷ []

-- " is one too many"
unfoldable pub one_too_many : List ℕ
one_too_many = 32 ∷ 105 ∷ 115 ∷ 32 ∷ 111 ∷ 110 ∷ 101 ∷ 32 ∷ 116 ∷ 111 ∷ 111 ∷ 32 ∷ 109 ∷ 97 ∷ 110 ∷ 121 ∷ []

-- " is no option"
unfoldable pub no_option : List ℕ
no_option = 32 ∷ 105 ∷ 115 ∷ 32 ∷ 110 ∷ 111 ∷ 32 ∷ 111 ∷ 112 ∷ 116 ∷ 105 ∷ 111 ∷ 110 ∷ []

-- " is given twice"
unfoldable pub given_twice : List ℕ
given_twice = 32 ∷ 105 ∷ 115 ∷ 32 ∷ 103 ∷ 105 ∷ 118 ∷ 101 ∷ 110 ∷ 32 ∷ 116 ∷ 119 ∷ 105 ∷ 99 ∷ 101 ∷ []

-- " is no whole number"
unfoldable pub no_whole_number : List ℕ
no_whole_number = 32 ∷ 105 ∷ 115 ∷ 32 ∷ 110 ∷ 111 ∷ 32 ∷ 119 ∷ 104 ∷ 111 ∷ 108 ∷ 101 ∷ 32 ∷ 110 ∷ 117 ∷ 109 ∷ 98 ∷ 101 ∷ 114 ∷ []

-- " is too large"
unfoldable pub too_large : List ℕ
too_large = 32 ∷ 105 ∷ 115 ∷ 32 ∷ 116 ∷ 111 ∷ 111 ∷ 32 ∷ 108 ∷ 97 ∷ 114 ∷ 103 ∷ 101 ∷ []

-- " is no percentage"
unfoldable pub no_percentage : List ℕ
no_percentage = 32 ∷ 105 ∷ 115 ∷ 32 ∷ 110 ∷ 111 ∷ 32 ∷ 112 ∷ 101 ∷ 114 ∷ 99 ∷ 101 ∷ 110 ∷ 116 ∷ 97 ∷ 103 ∷ 101 ∷ []

-- " is not sixteen hex digits"
unfoldable pub not_hex : List ℕ
not_hex = 32 ∷ 105 ∷ 115 ∷ 32 ∷ 110 ∷ 111 ∷ 116 ∷ 32 ∷ 115 ∷ 105 ∷ 120 ∷ 116 ∷ 101 ∷ 101 ∷ 110 ∷ 32 ∷ 104 ∷ 101 ∷ 120 ∷ 32 ∷ 100 ∷ 105 ∷ 103 ∷ 105 ∷ 116 ∷ 115 ∷ []

-- " is no method"
unfoldable pub no_method : List ℕ
no_method = 32 ∷ 105 ∷ 115 ∷ 32 ∷ 110 ∷ 111 ∷ 32 ∷ 109 ∷ 101 ∷ 116 ∷ 104 ∷ 111 ∷ 100 ∷ []

-- " is one line too many"
unfoldable pub one_line_too_many : List ℕ
one_line_too_many = 32 ∷ 105 ∷ 115 ∷ 32 ∷ 111 ∷ 110 ∷ 101 ∷ 32 ∷ 108 ∷ 105 ∷ 110 ∷ 101 ∷ 32 ∷ 116 ∷ 111 ∷ 111 ∷ 32 ∷ 109 ∷ 97 ∷ 110 ∷ 121 ∷ []

-- "a value is missing after "
unfoldable pub value_missing : List ℕ
value_missing = 97 ∷ 32 ∷ 118 ∷ 97 ∷ 108 ∷ 117 ∷ 101 ∷ 32 ∷ 105 ∷ 115 ∷ 32 ∷ 109 ∷ 105 ∷ 115 ∷ 115 ∷ 105 ∷ 110 ∷ 103 ∷ 32 ∷ 97 ∷ 102 ∷ 116 ∷ 101 ∷ 114 ∷ 32 ∷ []

-- "line "
unfoldable pub line_word : List ℕ
line_word = 108 ∷ 105 ∷ 110 ∷ 101 ∷ 32 ∷ []

-- what stands behind WORD, by the fault's number; 12, 13 and 14 are told alike
unfoldable pub later_phrase : ℕ → List ℕ
later_phrase n =
    cond (eqb n 7) too_large
    (cond (eqb n 8) no_percentage
    (cond (eqb n 9) not_hex
    (cond (eqb n 10) no_method
    (cond (eqb n 11) too_large
    one_line_too_many))))

unfoldable pub phrase_of : ℕ → List ℕ
unfolding later_phrase
phrase_of n =
    cond (eqb n 1) begins_no_line
    (cond (eqb n 2) one_too_many
    (cond (eqb n 3) no_option
    (cond (eqb n 4) given_twice
    (cond (eqb n 6) no_whole_number
    (later_phrase n)))))

-- only 5 has the word last
unfoldable pub sentence_of : ℕ → List ℕ → List ℕ
unfolding phrase_of shown_word
sentence_of n w = cond (eqb n 5) (value_missing ++ shown_word w) (shown_word w ++ phrase_of n)

-- `: ` is 58 32
unfoldable pub fault_text : ℕ → ℕ → List ℕ → List ℕ
unfolding decimal_text sentence_of
fault_text line number w = line_word ++ decimal_text line ++ (58 ∷ 32 ∷ []) ++ sentence_of number w ++ (10 ∷ [])
