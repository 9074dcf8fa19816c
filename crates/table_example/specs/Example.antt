-- Document 01, Program `sheet`: "One chart, query 0 as E with method 3, query 1 method 3 with presence 0", and the three lines that it
-- prints: E is "n320 = n300 = 0, acc 1" of a chart of 20 objects. Each line ends with left (document 02, L1); between charts and queries
-- stands the count of own weights (L4); after the rows comes the line of sums (L10).
use Rattle.std.specs.Prelude.{List, [], ◌∷◌, ℕ}

unfoldable pub sheet : List ℕ
sheet =
    -- one chart: 20 objects, no hold notes
    1 ∷ 0 ∷ 0 ∷ 0 ∷ 20 ∷ 0 ∷ 0 ∷ 0 ∷ 0 ∷ 0 ∷ 0 ∷ 0 ∷
    -- no own weights
    0 ∷ 0 ∷ 0 ∷ 0 ∷
    -- two queries
    2 ∷ 0 ∷ 0 ∷ 0 ∷
    -- method 3, presence 67 (n320, n300, acc), acc 1.0
    0 ∷ 0 ∷ 3 ∷ 0 ∷ 0 ∷ 67 ∷ 0 ∷ 0 ∷ 0 ∷ 0 ∷ 0 ∷ 0 ∷ 0 ∷ 0 ∷ 0 ∷ 0 ∷ 0 ∷ 0 ∷ 0 ∷ 0 ∷ 0 ∷ 0 ∷ 0 ∷ 0 ∷ 0 ∷ 0 ∷ 0 ∷ 0 ∷ 0 ∷ 0 ∷ 0 ∷ 0 ∷ 0 ∷ 0 ∷ 0 ∷ 0 ∷ 0 ∷ 0 ∷ 0 ∷ 0 ∷ 0 ∷ 0 ∷ 240 ∷ 63 ∷ 0 ∷ 0 ∷ 0 ∷ 0 ∷
    -- method 3, presence 0
    0 ∷ 0 ∷ 3 ∷ 0 ∷ 0 ∷ 0 ∷ 0 ∷ 0 ∷ 0 ∷ 0 ∷ 0 ∷ 0 ∷ 0 ∷ 0 ∷ 0 ∷ 0 ∷ 0 ∷ 0 ∷ 0 ∷ 0 ∷ 0 ∷ 0 ∷ 0 ∷ 0 ∷ 0 ∷ 0 ∷ 0 ∷ 0 ∷ 0 ∷ 0 ∷ 0 ∷ 0 ∷ 0 ∷ 0 ∷ 0 ∷ 0 ∷ 0 ∷ 0 ∷ 0 ∷ 0 ∷ 0 ∷ 0 ∷ 0 ∷ 0 ∷ 0 ∷ 0 ∷ 0 ∷ 0 ∷
    []

unfoldable pub shown : List ℕ
shown =
    -- query status n320 n300 n200 n100 n50 misses tried left
    113 ∷ 117 ∷ 101 ∷ 114 ∷ 121 ∷ 32 ∷ 115 ∷ 116 ∷ 97 ∷ 116 ∷ 117 ∷ 115 ∷ 32 ∷ 110 ∷ 51 ∷ 50 ∷ 48 ∷ 32 ∷ 110 ∷ 51 ∷ 48 ∷ 48 ∷ 32 ∷ 110 ∷ 50 ∷ 48 ∷ 48 ∷ 32 ∷ 110 ∷ 49 ∷ 48 ∷ 48 ∷ 32 ∷ 110 ∷ 53 ∷ 48 ∷ 32 ∷ 109 ∷ 105 ∷ 115 ∷ 115 ∷ 101 ∷ 115 ∷ 32 ∷ 116 ∷ 114 ∷ 105 ∷ 101 ∷ 100 ∷ 32 ∷ 108 ∷ 101 ∷ 102 ∷ 116 ∷ 10 ∷
    -- 0 0 0 0 20 0 0 0 3 420
    48 ∷ 32 ∷ 48 ∷ 32 ∷ 48 ∷ 32 ∷ 48 ∷ 32 ∷ 50 ∷ 48 ∷ 32 ∷ 48 ∷ 32 ∷ 48 ∷ 32 ∷ 48 ∷ 32 ∷ 51 ∷ 32 ∷ 52 ∷ 50 ∷ 48 ∷ 10 ∷
    -- 1 13 0 0 0 0 0 0 0 0
    49 ∷ 32 ∷ 49 ∷ 51 ∷ 32 ∷ 48 ∷ 32 ∷ 48 ∷ 32 ∷ 48 ∷ 32 ∷ 48 ∷ 32 ∷ 48 ∷ 32 ∷ 48 ∷ 32 ∷ 48 ∷ 32 ∷ 48 ∷ 10 ∷
    -- total 1 0 0 20 0 0 0
    116 ∷ 111 ∷ 116 ∷ 97 ∷ 108 ∷ 32 ∷ 49 ∷ 32 ∷ 48 ∷ 32 ∷ 48 ∷ 32 ∷ 50 ∷ 48 ∷ 32 ∷ 48 ∷ 32 ∷ 48 ∷ 32 ∷ 48 ∷ 10 ∷
    []
