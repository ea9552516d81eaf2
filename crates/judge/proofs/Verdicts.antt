-- The length of what is written, and its digits.
use Prim.Native.Nat.{ℕ, zero, suc, ◌+◌, ◌-◌, ◌*◌, ◌/◌, ◌%◌, ◌<◌, ◌≤◌}
use mathlib.Core.Bool.{Bool, true, false, cond}
use mathlib.Core.List.{List, [], ◌∷◌, ◌++◌}
use mathlib.Core.Path.{◌≡◌, refl, ap}
use native.Mathlib.Omega.{arith}
use borrow.Author.Tests.{leb-true, leb-false, lt-leb, ltb-true, ltb-false, lt-ltb, le-ltb}
use lib.Dec.{leb, ltb}
use lib.ListN.{length, get_or, length-append}
use Rattle.table.specs.Written.{tab, line_feed, decimal}
use Rattle.sheets.specs.Written.{numeral}
use Rattle.sheets.proofs.Numerals.{two_digits}
use Rattle.truths.specs.Cells.{found}
use Rattle.judge.specs.Output.{verdict_line, verdict_lines}
use Rattle.judge.specs.Writing.{digits_of, digit_from}

pub decimal_one : (n : ℕ) → n < 10 → decimal n ≡ (48 + n) ∷ []
unfolding decimal
decimal_one n h = rw (lt-ltb n 10 h)

pub decimal_two : (n : ℕ) → 10 ≤ n → decimal n ≡ (48 + n / 10) ∷ ((48 + n % 10) ∷ [])
unfolding decimal
decimal_two n h = rw (le-ltb n 10 h)

pub numeral_three : (n : ℕ) → 100 ≤ n → numeral n ≡ (48 + n / 100) ∷ ((48 + n / 10 % 10) ∷ ((48 + n % 10) ∷ []))
unfolding numeral
numeral_three n h = rw (le-ltb n 100 h)

pub numeral_digits : (n : ℕ) → n < 1000 → numeral n ≡ digit_from 100 n ++ (digit_from 10 n ++ ((48 + n % 10) ∷ []))
numeral_digits n small = at (leb 10 n) refl (leb 100 n) refl
  where
    at : (b : Bool) → leb 10 n ≡ b → (d : Bool) → leb 100 n ≡ d → numeral n ≡ digit_from 100 n ++ (digit_from 10 n ++ ((48 + n % 10) ∷ []))
    at false e d g =
        let h : n < 10 = leb-false 10 n e in
        let m : n % 10 ≡ n = omega arith in
        let l : leb 100 n ≡ false = lt-leb 100 n (omega arith) in
        rw (two_digits n (omega arith), decimal_one n h, l, e, m)
    at true e false g =
        let h : 10 ≤ n = leb-true 10 n e in
        let l : n < 100 = leb-false 100 n g in
        let m : n / 10 % 10 ≡ n / 10 = omega arith in
        rw (two_digits n l, decimal_two n h, g, e, m)
    at true e true g =
        let m : n / 100 % 10 ≡ n / 100 = omega arith in
        rw (numeral_three n (leb-true 100 n g), g, e, m)

pub numeral_room : (n : ℕ) → n < 1000 → length (numeral n) ≡ length (digit_from 100 n) + (length (digit_from 10 n) + 1)
numeral_room n small = rw (numeral_digits n small, length-append, length-append) refl

-- What the numbers of n lines have beyond one byte each: one more from line 10 on and again one more from line 100 on.
longer : ℕ → ℕ
longer n = (n - 10) + (n - 100)

numeral_length : (n : ℕ) → length (numeral n) + longer n ≡ 1 + longer (suc n)
unfolding longer
numeral_length n = at (ltb n 10) refl (ltb n 100) refl
  where
    at : (b : Bool) → ltb n 10 ≡ b → (d : Bool) → ltb n 100 ≡ d → length (numeral n) + longer n ≡ 1 + longer (suc n)
    at true e d g =
        let h : n < 10 = ltb-true n 10 e in
        omega (arith, ap length (two_digits n (omega arith)), ap length (decimal_one n h))
    at false e true g =
        let h : 10 ≤ n = ltb-false n 10 e in
        let l : n < 100 = ltb-true n 100 g in
        omega (arith, ap length (two_digits n l), ap length (decimal_two n h))
    at false e false g = let h : 100 ≤ n = ltb-false n 100 g in omega (arith, ap length (numeral_three n h))

pub line_length : (i digit : ℕ) → length (verdict_line i digit) ≡ length (numeral i) + 3
line_length i digit = length-append (numeral i) (tab ∷ ((48 + digit) ∷ (line_feed ∷ [])))

length_from : (i : ℕ) (bs : List ℕ) → length (verdict_lines i bs) + longer i ≡ 4 * length bs + longer (i + length bs)
unfolding verdict_lines
length_from i [] = let e : i + 0 ≡ i = omega arith in rw e
length_from i (b ∷ bs) =
    let e : i + suc (length bs) ≡ suc i + length bs = omega arith in
    omega (arith, ap longer e, length_from (suc i) bs, numeral_length i, length-append (verdict_line i b) (verdict_lines (suc i) bs), line_length i b)

pub output_length_lem : (bs : List ℕ) → length (verdict_lines 0 bs) ≡ 4 * length bs + (length bs - 10) + (length bs - 100)
unfolding longer
output_length_lem bs = omega (arith, length_from 0 bs)

pub length_digits : (truth : List (List Bool)) (i k : ℕ) → length (digits_of truth i k) ≡ k
unfolding digits_of
length_digits truth i zero = refl
length_digits truth i (suc k) = ap suc (length_digits truth (suc i) k)

digit_later : (truth : List (List Bool)) (j k i : ℕ) → i < k → get_or (digits_of truth j k) i 0 ≡ cond (found truth (j + i) 0) 1 0
unfolding digits_of
digit_later truth j zero i h = absurd (omega arith)
digit_later truth j (suc k) zero h = let e : j + 0 ≡ j = omega arith in rw e
digit_later truth j (suc k) (suc i) h =
    let e : j + suc i ≡ suc j + i = omega arith in
    rw e (digit_later truth (suc j) k i (omega arith))

pub digit_at : (truth : List (List Bool)) (i k : ℕ) → i < k → get_or (digits_of truth 0 k) i 0 ≡ cond (found truth i 0) 1 0
digit_at truth i k h = let e : 0 + i ≡ i = omega arith in rw e at (digit_later truth 0 k i h)
