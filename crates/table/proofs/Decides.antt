-- Tests put together decide the statements put together.
use Prim.Native.Nat.{ℕ}
use native.Mathlib.Omega.{arith}
use mathlib.Core.Bool.{Bool, true, false, not, ◌&&◌, ◌||◌, beq}
use mathlib.Core.Logic.{◌↔◌, ◌⊎◌, inl, inr}
use mathlib.Core.Path.{◌≡◌, refl}
use borrow.Author.Tests.{eqb-true, eq-eqb, not-false}
use lib.Dec.{eqb}
use Rattle.table.specs.Decides.{Decides}

false_true : {A : Type 0} → ◌≡◌ {A = Bool} false true → A
false_true e = absurd (let z : ◌≡◌ {A = ℕ} 0 1 = cc in omega arith)

pub is_number : (a b : ℕ) → Decides (eqb a b) (a ≡ b)
is_number a b = record { sound = eqb-true a b; complete = eq-eqb a b }

module _ {P : Type 0} where
  pub always : P → Decides true P
  always p = record { sound = λ e. p; complete = λ q. refl }

  pub never : (P → ⊥) → Decides false P
  never n = record { sound = λ e. false_true e; complete = λ q. absurd (n q) }

  pub refuted : {b : Bool} → Decides b P → b ≡ false → P → ⊥
  refuted d e p = false_true (cc (d.complete p))

  pub negated : (b : Bool) → Decides b P → Decides (not b) (P → ⊥)
  negated true d = record { sound = λ e. false_true e; complete = λ n. absurd (n (d.sound refl)) }
  negated false d = record { sound = λ e p. false_true (d.complete p); complete = λ n. refl }

  pub same_as : {Q : Type 0} {b : Bool} → P ↔ Q → Decides b P → Decides b Q
  same_as f d = record { sound = λ e. f.0 (d.sound e); complete = λ q. d.complete (f.1 q) }

-- `||` and `&&`, which look at the second test only where the first leaves it open
module _ {P Q : Type 0} {a : Bool} (d : Decides a P) where
  pub either_left : a ≡ true → Decides a (P ⊎ Q)
  either_left e = record { sound = λ t. inl (d.sound t); complete = λ h. e }

  pub either_right : {b : Bool} → a ≡ false → Decides b Q → Decides b (P ⊎ Q)
  either_right e f = record { sound = λ t. inr (f.sound t); complete = elim [ inl p ↦ absurd (refuted d e p) | inr q ↦ f.complete q ] }

  pub both_left : a ≡ false → Decides a (P × Q)
  both_left e = record { sound = λ t. false_true (cc); complete = λ h. d.complete h.0 }

  pub both_right : {b : Bool} → a ≡ true → Decides b Q → Decides b (P × Q)
  both_right e f = record { sound = λ t. (d.sound e, f.sound t); complete = λ h. f.complete h.1 }

-- the same as functions of both
pub either : {P Q : Type 0} (a b : Bool) → Decides a P → Decides b Q → Decides (a || b) (P ⊎ Q)
either true b d e = either_left d refl
either false b d e = either_right d refl e

pub both : {P Q : Type 0} (a b : Bool) → Decides a P → Decides b Q → Decides (a && b) (P × Q)
both true b d e = both_right d refl e
both false b d e = both_left d refl

-- `!a || b`
module _ {P Q : Type 0} (a : Bool) (d : Decides a P) where
  pub implied_left : not a ≡ true → Decides (not a) (P → Q)
  implied_left e = record { sound = λ t p. absurd ((negated a d).sound t p); complete = λ f. e }

  pub implied_right : {b : Bool} → not a ≡ false → Decides b Q → Decides b (P → Q)
  implied_right e f = record { sound = λ t p. f.sound t; complete = λ g. f.complete (g (d.sound (not-false a e))) }

pub alike : {P Q : Type 0} (a b : Bool) → Decides a P → Decides b Q → Decides (beq a b) (P ↔ Q)
alike true true d e = always (λ p. e.sound refl, λ q. d.sound refl)
alike true false d e = never (λ h. refuted e refl (h.0 (d.sound refl)))
alike false true d e = never (λ h. refuted d refl (h.1 (e.sound refl)))
alike false false d e = always (λ p. absurd (refuted d refl p), λ q. absurd (refuted e refl q))
