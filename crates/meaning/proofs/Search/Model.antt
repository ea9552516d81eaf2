-- The search as a function that computes: it decides every notion of codes and rounds, finds the outcome that an accepted table has, and
-- settles the small proved table. The number m of each function is 2 to the look rows, worked out once.
use Prim.Native.Nat.{ℕ, zero, suc, ◌^◌, ◌/◌, ◌%◌}
use mathlib.Core.Bool.{Bool, true, false, not, ◌&&◌, ◌||◌}
use mathlib.Core.List.{List, [], ◌∷◌}
use mathlib.Core.Option.{Option, none, some}
use lib.Dec.{eqb}
use lib.ListN.{take, length}
use Rattle.meaning.specs.Code.{worth, codes}
use Rattle.meaning.specs.Outcome.{absent, Verdict, sat, unsat}
use Rattle.meaning.specs.Table.{Side, first, next, Dir, down, up, Table, Row, yes_row, no_row, is_row, isnot_row, any_row, all_row, go_row, stop_row, row_at, asked, looks}
use Rattle.meaning.proofs.Tests.{same, implies}

-- The binary digit of c that is worth w; a flag; the bit of row i.
abbrev pub bit : ℕ → ℕ → Bool
bit c w = eqb (c / w % 2) 1

abbrev pub flag_b : ℕ → ℕ → Dir → Bool
flag_b m c d = bit (c / m) (worth d)

abbrev pub bit_b : Table → ℕ → ℕ → Bool
bit_b rows c i = bit c (2 ^ looks (take i rows))

-- Truth in a code, through at most k references.
abbrev pub eval_row : Table → ℕ → ℕ → (ℕ → Bool) → ℕ → Row → Bool
eval_row rows m c rec i yes_row = true
eval_row rows m c rec i no_row = false
eval_row rows m c rec i (is_row n) = eqb (c / m / 16) n
eval_row rows m c rec i (isnot_row n) = not (eqb (c / m / 16) n)
eval_row rows m c rec i (any_row j k) = rec j || rec k
eval_row rows m c rec i (all_row j k) = rec j && rec k
eval_row rows m c rec i (go_row d j) = bit_b rows c i
eval_row rows m c rec i (stop_row d) = not (flag_b m c d)

abbrev pub eval : Table → ℕ → ℕ → ℕ → ℕ → Bool
eval rows m c zero i = false
eval rows m c (suc k) i = eval_row rows m c (eval rows m c k) i (row_at rows i)

-- A test of every row with its number, and one of the `go` rows alone.
abbrev pub all_rows : (ℕ → Row → Bool) → ℕ → List Row → Bool
all_rows f i [] = true
all_rows f i (r ∷ rs) = f i r && all_rows f (suc i) rs

abbrev pub on_go : (Dir → ℕ → Bool) → Row → Bool
on_go f yes_row = true
on_go f no_row = true
on_go f (is_row n) = true
on_go f (isnot_row n) = true
on_go f (any_row j k) = true
on_go f (all_row j k) = true
on_go f (go_row d j) = f d j
on_go f (stop_row d) = true

abbrev pub same_side : Side → Side → Bool
same_side first first = true
same_side first next = false
same_side next first = false
same_side next next = true

abbrev pub link_b : Table → ℕ → ℕ → ℕ → ℕ → ℕ → Bool
link_b rows m t u i j = same (bit_b rows t i) (eval rows m u (length rows) j)

abbrev pub link_go : Table → ℕ → Side → ℕ → ℕ → ℕ → Dir → ℕ → Bool
link_go rows m s t u i (down z) j = implies (same_side s z) (link_b rows m t u i j)
link_go rows m s t u i (up z) j = implies (same_side s z) (link_b rows m u t i j)

-- t has the flag of s already
abbrev pub takes_b : Table → ℕ → Side → ℕ → ℕ → Bool
takes_b rows m s t u = elim (flag_b m u (up s)) [ true ↦ all_rows (λ i r. on_go (link_go rows m s t u i) r) 0 rows | false ↦ false ]

abbrev pub proper_b : Table → ℕ → ℕ → Bool
proper_b rows m c = not (flag_b m c (up first) && flag_b m c (up next)) && all_rows (λ i r. on_go (λ d j. implies (bit_b rows c i) (flag_b m c d)) r) 0 rows

abbrev pub good_b : Table → ℕ → ℕ → Bool
good_b rows m c = elim (flag_b m c (up first) || flag_b m c (up next)) [ true ↦ false | false ↦ eval rows m c (length rows) (asked rows) ]

-- The codes of the first k rounds, in rising order.
abbrev pub exists : (ℕ → Bool) → List ℕ → Bool
exists f [] = false
exists f (u ∷ us) = elim (f u) [ true ↦ true | false ↦ exists f us ]

abbrev pub kid_b : Table → ℕ → List ℕ → ℕ → Side → Bool
kid_b rows m l c s = implies (flag_b m c (down s)) (exists (takes_b rows m s c) l)

abbrev pub ok_b : Table → ℕ → List ℕ → ℕ → Bool
ok_b rows m l c = elim (proper_b rows m c) [
  | false ↦ false
  | true ↦ elim (kid_b rows m l c first) [ false ↦ false | true ↦ kid_b rows m l c next ]
]

abbrev pub keep : (ℕ → Bool) → ℕ → List ℕ → List ℕ
keep f zero l = l
keep f (suc n) l = keep f n (elim (f n) [ true ↦ n ∷ l | false ↦ l ])

abbrev pub level : Table → ℕ → ℕ → ℕ → List ℕ
level rows m n zero = []
level rows m n (suc k) = let l = level rows m n k in keep (ok_b rows m l) n []

-- The smallest that passes, of a list in rising order.
abbrev pub least : (ℕ → Bool) → List ℕ → Option ℕ
least f [] = none
least f (u ∷ us) = elim (f u) [ true ↦ some u | false ↦ least f us ]

-- The neighbour recorded for a code of round k + 1.
abbrev pub neighbour_b : Table → ℕ → ℕ → Side → ℕ → ℕ
neighbour_b rows m k s c = elim (flag_b m c (down s)) [
  | false ↦ absent
  | true ↦ elim (least (takes_b rows m s c) (level rows m (codes rows) k)) [ none ↦ absent | some u ↦ u ]
]

abbrev pub same_list : List ℕ → List ℕ → Bool
same_list [] [] = true
same_list [] (v ∷ vs) = false
same_list (u ∷ us) [] = false
same_list (u ∷ us) (v ∷ vs) = elim (eqb u v) [ true ↦ same_list us vs | false ↦ false ]

-- Round after round, until one enters a good code or enters nothing; `none` if they were more than allowed.
abbrev pub search_from : Table → ℕ → ℕ → ℕ → List ℕ → ℕ → Option Verdict
search_from rows m n zero old k = none
search_from rows m n (suc f) old k =
    let new = keep (ok_b rows m old) n [] in
    elim (least (good_b rows m) new) [
      | some c ↦ some (sat (suc k) c)
      | none ↦ elim (same_list new old) [ true ↦ some (unsat k) | false ↦ search_from rows m n f new (suc k) ]
    ]

abbrev pub search : Table → Option Verdict
search rows = search_from rows (2 ^ looks rows) (codes rows) (suc (codes rows)) [] 0
