-- Truths as the bits of a number: each is read back, and the number is small.
use Prim.Native.Nat.{ℕ, zero, suc, ◌+◌, ◌-◌, ◌*◌, ◌^◌, ◌/◌, ◌%◌, ◌<◌, ◌≤◌}
use native.Mathlib.Omega.{arith}
use native.Mathlib.Nat.{div-div-eq-div-mul, pow-succ'}
use mathlib.Core.Bool.{Bool, true, false, cond}
use mathlib.Core.Path.{◌≡◌, refl, sym, ap, ◌∙◌}
use borrow.Author.Tests.{eq-eqb, ne_eqb}
use lib.Dec.{eqb}
use lib.Pow.{pow_mono}
use Rattle.std.specs.Int.{from_bool}
use Rattle.codes.specs.Parts.{bit_by}
use Rattle.codes.specs.Sights.{packed}

-- a truth as a number
pub byte_is : (b : Bool) → from_bool b ≡ cond b 1 0
byte_is true = refl
byte_is false = refl

pub bit_most : (b : Bool) → cond b 1 0 ≤ 1
bit_most true = omega arith
bit_most false = omega arith

low : (p : ℕ) (b : Bool) → bit_by (p * 2 + cond b 1 0) 0 ≡ b
low p true = eq-eqb ((p * 2 + 1) / 1 % 2) 1 (omega arith)
low p false = ne_eqb ((p * 2 + 0) / 1 % 2) 1 (λ e. omega arith)

high : (p j : ℕ) (b : Bool) → bit_by (p * 2 + cond b 1 0) (suc j) ≡ bit_by p j
high p j b =
    let x = p * 2 + cond b 1 0 in
    let half : x / 2 ≡ p = omega (arith, bit_most b) in
    ap
    (λ (z : ℕ). eqb (z % 2) 1)
    (ap (λ (z : ℕ). x / z) (pow-succ' 2 j) ∙ sym (div-div-eq-div-mul x 2 (2 ^ j)) ∙ ap (λ (z : ℕ). z / 2 ^ j) half)

module _ (test : ℕ → Bool) where
  pub packed_bit : (k u j : ℕ) → j < k → bit_by (packed test k u) j ≡ test (u + j)
  unfolding packed
  packed_bit zero u j h = absurd (omega arith)
  packed_bit (suc k) u zero h =
      let e : u ≡ u + 0 = omega arith in
      low (packed test k (suc u)) (test u) ∙ ap test e
  packed_bit (suc k) u (suc j) h =
      let e : suc u + j ≡ u + suc j = omega arith in
      high (packed test k (suc u)) j (test u) ∙ packed_bit k (suc u) j (omega arith) ∙ ap test e

  packed_less : (k u : ℕ) → packed test k u < 2 ^ k
  unfolding packed
  packed_less zero u = omega arith
  packed_less (suc k) u = omega (arith, packed_less k (suc u), bit_most (test u), pow-succ' 2 k)

  pub packed_small : (k u s : ℕ) → k ≤ 13 → s ≡ packed test k u → s < 8192
  packed_small k u s few e =
      let h : 2 ^ k ≤ 2 ^ 13 = pow_mono few in
      omega (arith, packed_less k u)

-- packing the bits up to m downwards: those above j are packed
module _ (test : ℕ → Bool) (m : ℕ) where
  pub packed_none : (j u : ℕ) → m ≤ j → 0 ≡ packed test (m - j) u
  unfolding packed
  packed_none j u h = let e : m - j ≡ 0 = omega arith in rw e

  packed_down : (j s b : ℕ) → s ≡ packed test (m - j) (suc j) → b ≡ from_bool (test j) → s * 2 + b ≡ packed test (suc (m - j)) j
  unfolding packed
  packed_down j s b p q = rw (p, q, byte_is (test j))

  pub packed_on : (j s b : ℕ) → 0 < j → j ≤ m → s ≡ packed test (m - j) (suc j) → b ≡ from_bool (test j) → s * 2 + b ≡ packed test (m - (j - 1)) (suc (j - 1))
  packed_on j s b low high p q =
      let e : m - (j - 1) ≡ suc (m - j) = omega arith in
      let f : suc (j - 1) ≡ j = omega arith in
      rw (e, f) (packed_down j s b p q)

  pub packed_last : (j s b : ℕ) → j ≡ 0 → s ≡ packed test (m - j) (suc j) → b ≡ from_bool (test j) → s * 2 + b ≡ packed test (suc m) 0
  packed_last j s b z p q =
      let e : m - 0 ≡ m = omega arith in
      rw (z, e) at (packed_down j s b p q)
