-- Every name, set of flags and set of bits has a code.
use Prim.Native.Nat.{ℕ, zero, suc, ◌+◌, ◌*◌, ◌^◌, ◌/◌, ◌%◌, ◌<◌, ◌≤◌}
use native.Mathlib.Omega.{arith}
use native.Mathlib.Nat.{zero-add, add-zero, div-one}
use mathlib.Core.List.{[], ◌∷◌}
use mathlib.Core.Logic.{◌↔◌}
use mathlib.Core.Path.{◌≡◌, sym, ◌∙◌, ap}
use lib.ListN.{take}
use lib.Pow.{shr-shr}
use Rattle.meaning.specs.Code.{name_in, worth, HasFlag, HasBit}
use Rattle.meaning.specs.Table.{first, next, Dir, down, up, Table, Row, row_at, yes_row, no_row, is_row, isnot_row, any_row, all_row, go_row, stop_row, look, looks}

-- one more bit at the low end, for a `go` row
shift : ℕ → ℕ → ℕ → ℕ
shift zero b y = y
shift (suc l) b y = y * 2 + b

shift_high : (l b y n : ℕ) → l ≤ 1 → b < 2 → shift l b y / 2 ^ (l + n) ≡ y / 2 ^ n
unfolding shift
shift_high zero b y n h k = rw zero-add
shift_high (suc zero) b y n h k = rw (← (shr-shr (y * 2 + b) 1 n)) (ap (λ (z : ℕ). z / 2 ^ n) (omega arith))
shift_high (suc (suc l)) b y n h k = absurd (omega arith)

shift_low : (l b y : ℕ) → l ≡ 1 → b < 2 → shift l b y / 1 % 2 ≡ b
unfolding shift
shift_low zero b y h k = absurd (omega arith)
shift_low (suc l) b y h k = omega arith

look_le : (r : Row) → look r ≤ 1
look_le yes_row = omega arith
look_le no_row = omega arith
look_le (is_row n) = omega arith
look_le (isnot_row n) = omega arith
look_le (any_row i j) = omega arith
look_le (all_row i j) = omega arith
look_le (go_row d i) = omega arith
look_le (stop_row d) = omega arith

module _ (B : ℕ → ℕ) (small : (i : ℕ) → B i < 2) where
  -- the bits of the `go` rows, of which the first has number i, below x
  pack : Table → ℕ → ℕ → ℕ
  pack [] i x = x
  pack (r ∷ rows) i x = shift (look r) (B i) (pack rows (suc i) x)

  pack_high : (rows : Table) (i x : ℕ) → pack rows i x / 2 ^ looks rows ≡ x
  unfolding pack looks
  pack_high [] i x = div-one x
  pack_high (r ∷ rows) i x = shift_high (look r) (B i) (pack rows (suc i) x) (looks rows) (look_le r) (small i) ∙ pack_high rows (suc i) x

  pack_bit : (rows : Table) (i x k : ℕ) → look (row_at rows k) ≡ 1 → pack rows i x / 2 ^ looks (take k rows) % 2 ≡ B (i + k)
  unfolding pack looks
  pack_bit [] i x k h = absurd (omega arith)
  pack_bit (r ∷ rows) i x zero h = rw add-zero (shift_low (look r) (B i) (pack rows (suc i) x) h (small i))
  pack_bit (r ∷ rows) i x (suc k) h =
      ap (λ (z : ℕ). z % 2) (shift_high (look r) (B i) (pack rows (suc i) x) (looks (take k rows)) (look_le r) (small i))
      ∙ pack_bit rows (suc i) x k h
      ∙ ap B (omega arith)

-- what the code of a name n, flags F and bits B is
pub record Codes (rows : Table) (n : ℕ) (F : Dir → ℕ) (B : ℕ → ℕ) (c : ℕ) : Type 0 where
  pub name : name_in rows c ≡ n
  pub flag : (d : Dir) → HasFlag rows c d ↔ (F d ≡ 1)
  pub bit : (i : ℕ) → look (row_at rows i) ≡ 1 → HasBit rows c i ↔ (B i ≡ 1)

flags : (Dir → ℕ) → ℕ
flags F = F (down first) + F (down next) * 2 + F (up first) * 4 + F (up next) * 8

flags_name : (n : ℕ) (F : Dir → ℕ) → ((d : Dir) → F d < 2) → (n * 16 + flags F) / 16 ≡ n
unfolding flags
flags_name n F h = omega (arith, h (down first), h (down next), h (up first), h (up next))

flags_flag : (n : ℕ) (F : Dir → ℕ) → ((d : Dir) → F d < 2) → (d : Dir) → (n * 16 + flags F) / worth d % 2 ≡ F d
unfolding flags
flags_flag n F h (down first) = omega (arith, h (down first), h (down next), h (up first), h (up next))
flags_flag n F h (down next) = omega (arith, h (down first), h (down next), h (up first), h (up next))
flags_flag n F h (up first) = omega (arith, h (down first), h (down next), h (up first), h (up next))
flags_flag n F h (up next) = omega (arith, h (down first), h (down next), h (up first), h (up next))

pub code_for : (rows : Table) (n : ℕ) (F : Dir → ℕ) (B : ℕ → ℕ) → ((d : Dir) → F d < 2) → ((i : ℕ) → B i < 2) → (c : ℕ) × Codes rows n F B c
unfolding name_in HasFlag HasBit
code_for rows n F B f b =
    let x = n * 16 + flags F in
    let c = pack B b rows 0 x in
    let high : c / 2 ^ looks rows ≡ x = pack_high B b rows 0 x in
    let flag_is : (d : Dir) → c / 2 ^ looks rows / worth d % 2 ≡ F d = λ d. ap (λ (z : ℕ). z / worth d % 2) high ∙ flags_flag n F f d in
    let bit_is : (i : ℕ) → look (row_at rows i) ≡ 1 → c / 2 ^ looks (take i rows) % 2 ≡ B i = λ i h. pack_bit B b rows 0 x i h ∙ ap B (omega arith) in (
      c,
      record {
        name = ap (λ (z : ℕ). z / 16) high ∙ flags_name n F f;
        flag = λ d. (λ h. sym (flag_is d) ∙ h, λ h. flag_is d ∙ h);
        bit = λ i h. (λ k. sym (bit_is i h) ∙ k, λ k. bit_is i h ∙ k);
      },
    )
