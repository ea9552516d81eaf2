-- 01, section 3: how a row is written. One row a line, fields parted by one tab, each line closed by a line feed.
use Rattle.std.specs.Prelude.{ℕ, ◌+◌, ◌/◌, ◌%◌, ◌<◌, ◌≤◌, cond, List, [], ◌∷◌, ◌++◌, ltb}
use Rattle.table.specs.declared.Row.{Row}
use Rattle.table.specs.declared.Row.TheVariants.{Yes, No, Is, Isnot, Any, All, Go, Stop}

abbrev pub tab : ℕ
tab = 9

abbrev pub line_feed : ℕ
line_feed = 10

-- The kind words are fixed byte strings.
abbrev pub word : Row → List ℕ
word Yes = 121 ∷ 101 ∷ 115 ∷ []
word No = 110 ∷ 111 ∷ []
word (Is n) = 105 ∷ 115 ∷ []
word (Isnot n) = 105 ∷ 115 ∷ 110 ∷ 111 ∷ 116 ∷ []
word (Any i j) = 97 ∷ 110 ∷ 121 ∷ []
word (All i j) = 97 ∷ 108 ∷ 108 ∷ []
word (Go d i) = 103 ∷ 111 ∷ []
word (Stop d) = 115 ∷ 116 ∷ 111 ∷ 112 ∷ []

-- The numbers of a row, in their order.
abbrev pub fields : Row → List ℕ
fields Yes = []
fields No = []
fields (Is n) = n ∷ []
fields (Isnot n) = n ∷ []
fields (Any i j) = i ∷ j ∷ []
fields (All i j) = i ∷ j ∷ []
fields (Go d i) = d ∷ i ∷ []
fields (Stop d) = d ∷ []

-- Numbers are decimal, one or two digits, no leading zero.
unfoldable pub decimal : ℕ → List ℕ
decimal n = cond (ltb n 10) ((48 + n) ∷ []) ((48 + n / 10) ∷ ((48 + n % 10) ∷ []))

unfoldable pub written_fields : List ℕ → List ℕ
written_fields [] = line_feed ∷ []
written_fields (n ∷ ns) = tab ∷ (decimal n ++ written_fields ns)

-- The line of a row, with its line feed.
abbrev pub written : Row → List ℕ
written r = word r ++ written_fields (fields r)

unfoldable pub written_rows : List Row → List ℕ
written_rows [] = []
written_rows (r ∷ rs) = written r ++ written_rows rs

-- A row that can be written: its numbers have at most two digits.
abbrev pub TwoDigits : List ℕ → Type 0
TwoDigits [] = Unit {0}
TwoDigits (n ∷ ns) = (n < 100) × TwoDigits ns

abbrev pub Writable : Row → Type 0
Writable r = TwoDigits (fields r)

-- Section 6, refusal 4: names are 0 to 15 and directions 1 to 4.
abbrev pub Direction : ℕ → Type 0
Direction d = (1 ≤ d) × (d ≤ 4)

abbrev pub Exists : Row → Type 0
Exists Yes = Unit {0}
Exists No = Unit {0}
Exists (Is n) = n ≤ 15
Exists (Isnot n) = n ≤ 15
Exists (Any i j) = Unit {0}
Exists (All i j) = Unit {0}
Exists (Go d i) = Direction d
Exists (Stop d) = Direction d
