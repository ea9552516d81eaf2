-- Tests as truth values, and the statements that they decide: one lemma for each way in which the search puts tests together.
use Prim.Native.Nat.{ℕ}
use native.Mathlib.Omega.{arith}
use mathlib.Core.Bool.{Bool, true, false, not, ◌&&◌, ◌||◌}
use mathlib.Core.Logic.{◌↔◌, ◌⊎◌, inl, inr}
use mathlib.Core.Path.{◌≡◌, refl}
use borrow.Author.Tests.{eqb-true, eq-eqb}
use lib.Dec.{eqb}

abbrev pub Is : Bool → Type 0
Is b = b ≡ true

abbrev pub same : Bool → Bool → Bool
same true b = b
same false b = not b

abbrev pub implies : Bool → Bool → Bool
implies true b = b
implies false b = true

pub false≢true : {A : Type 0} → Is false → A
false≢true e = absurd (let z : ◌≡◌ {A = ℕ} 0 1 = cc in omega arith)

pub or_iff : (a b : Bool) → Is (a || b) ↔ (Is a ⊎ Is b)
or_iff true b = (λ h. inl refl, λ h. refl)
or_iff false b = (λ h. inr h, elim [ inl h ↦ false≢true h | inr h ↦ h ])

pub and_iff : (a b : Bool) → Is (a && b) ↔ (Is a × Is b)
and_iff true b = (λ h. (refl, h), λ h. h.1)
and_iff false b = (λ h. false≢true h, λ h. h.0)

pub not_iff : (a : Bool) → Is (not a) ↔ (Is a → ⊥)
not_iff true = (λ h. false≢true h, λ h. absurd (h refl))
not_iff false = (λ h k. false≢true k, λ h. refl)

pub implies_iff : (a b : Bool) → Is (implies a b) ↔ (Is a → Is b)
implies_iff true b = (λ h k. h, λ h. h refl)
implies_iff false b = (λ h k. false≢true k, λ h. refl)

pub same_iff : (a b : Bool) → Is (same a b) ↔ (Is a ↔ Is b)
same_iff true b = (λ h. (λ k. h, λ k. refl), λ h. h.0 refl)
same_iff false true = (λ h. false≢true h, λ h. false≢true (h.1 refl))
same_iff false false = (λ h. (λ k. k, λ k. k), λ h. refl)

pub eqb_iff : (a b : ℕ) → Is (eqb a b) ↔ (a ≡ b)
eqb_iff a b = (eqb-true a b, eq-eqb a b)

-- The same with a second test that is not looked at in vain.
pub guard_iff : (a b : Bool) → Is (elim a [ true ↦ b | false ↦ false ]) ↔ (Is a × Is b)
guard_iff true b = (λ h. (refl, h), λ h. h.1)
guard_iff false b = (λ h. false≢true h, λ h. h.0)

pub bar_iff : (a b : Bool) → Is (elim a [ true ↦ false | false ↦ b ]) ↔ ((Is a → ⊥) × Is b)
bar_iff true b = (λ h. false≢true h, λ h. absurd (h.0 refl))
bar_iff false b = (λ h. (λ k. false≢true k, h), λ h. h.1)

pub pick_iff : (a b : Bool) → Is (elim a [ true ↦ true | false ↦ b ]) ↔ (Is a ⊎ Is b)
pick_iff true b = (λ h. inl refl, λ h. refl)
pick_iff false b = (λ h. inr h, elim [ inl h ↦ false≢true h | inr h ↦ h ])

-- Decided statements.
pub is_dec : (b : Bool) → Dec (Is b)
is_dec true = yes refl
is_dec false = no (λ h. false≢true h)

module _ {A B : Type 0} where
  pub or_dec : Dec A → Dec B → Dec (A ⊎ B)
  or_dec (yes a) d = yes (inl a)
  or_dec (no a) (yes b) = yes (inr b)
  or_dec (no a) (no b) = no (elim [ inl h ↦ a h | inr h ↦ b h ])

  pub iff_both : {C D : Type 0} → A ↔ C → B ↔ D → (A ↔ B) ↔ (C ↔ D)
  iff_both f g = (λ h. (λ c. g.0 (h.0 (f.1 c)), λ d. f.0 (h.1 (g.1 d))), λ h. (λ a. g.1 (h.0 (f.0 a)), λ b. f.1 (h.1 (g.0 b))))
