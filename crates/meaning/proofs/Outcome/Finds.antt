-- What the computed search finds: the verdict with its numbers as the rounds have it, or too many rounds.
use Prim.Native.Nat.{ℕ, zero, suc, ◌+◌, ◌<◌, ◌≤◌}
use native.Mathlib.Omega.{arith}
use native.Mathlib.Decide.{ℕ_discrete, dec_le}
use mathlib.Core.Bool.{Bool, true, false}
use mathlib.Core.List.{List, Memᴰ}
use mathlib.Core.Logic.{◌⊎◌, inl, inr}
use mathlib.Core.Option.{Option, none, some}
use mathlib.Core.Path.{◌≡◌, refl, sym, ◌∙◌, subst}
use lib.ListN.{length}
use Rattle.meaning.specs.Code.{codes, Good}
use Rattle.meaning.specs.Loop.{LoopFree}
use Rattle.meaning.specs.Marked.{Within, Enters}
use Rattle.meaning.specs.Outcome.{Verdict, sat, unsat}
use Rattle.meaning.specs.Table.{Table, InRange}
use Rattle.meaning.proofs.Rounds.Heights.{later}
use Rattle.meaning.proofs.Search.Agrees.{good_iff}
use Rattle.meaning.proofs.Search.Levels.{lv, lv_asc, level_iff}
use Rattle.meaning.proofs.Search.Lists.{least_none, least_some, same_list_lem, same_self, asc_same, extra}
use Rattle.meaning.proofs.Search.Model.{good_b, least, same_list, search_from, search}
use Rattle.meaning.proofs.Tests.{Is, false≢true}
use Rattle.meaning.proofs.Search.Truth.{m}

-- Each round up to n enters a code; none up to n has a good one.
pub record Each (rows : Table) (n : ℕ) : Type 0 where
  pub at : (k : ℕ) → 0 < k → k ≤ n → (c : ℕ) × Enters rows k c

pub record NoneGood (rows : Table) (n : ℕ) : Type 0 where
  pub at : (k c : ℕ) → k ≤ n → Within rows k c → Good rows c → ⊥

-- What is found within n rounds.
pub data Finds (rows : Table) (n : ℕ) : Option Verdict → Type 0 where
  finds_sat : {h top : ℕ} → Within rows (suc h) top → Good rows top → ((u : ℕ) → Within rows (suc h) u → Good rows u → top ≤ u) → NoneGood rows h
      → Finds rows n (some (sat (suc h) top))
  finds_unsat : {r : ℕ} → Each rows r → NoneGood rows r → ((c : ℕ) → Enters rows (suc r) c → ⊥) → Finds rows n (some (unsat r))
  too_many : Each rows n → Finds rows n none

module _ {rows : Table} (range : InRange rows) (free : LoopFree rows) (some_row : 0 < length rows) where
  fresh : (k : ℕ) → same_list (lv rows (suc k)) (lv rows k) ≡ false → (c : ℕ) × Enters rows (suc k) c
  fresh k q = at (extra (lv rows (suc k)) (lv rows k))
    where
      at : ((c : ℕ) × Memᴰ c (lv rows (suc k)) × (Memᴰ c (lv rows k) → ⊥)) ⊎ ((c : ℕ) → Memᴰ c (lv rows (suc k)) → Memᴰ c (lv rows k)) → (c : ℕ) × Enters rows (suc k) c
      at (inl x) = (x.0, ((level_iff range free (suc k) x.0).0 x.1, λ w. x.2 ((level_iff range free k x.0).1 w)))
      at (inr f) =
          let e : lv rows (suc k) ≡ lv rows k = asc_same (lv_asc rows (suc k)) (lv_asc rows k) f (λ u h. (level_iff range free (suc k) u).1 (later rows k u ((level_iff range free k u).0 h))) in
          false≢true (sym q ∙ subst (λ (z : List ℕ). Is (same_list (lv rows (suc k)) z)) e (same_self (lv rows (suc k))))

  nothing_new : (k : ℕ) → Is (same_list (lv rows (suc k)) (lv rows k)) → (c : ℕ) → Enters rows (suc k) c → ⊥
  nothing_new k q c e = e.1 ((level_iff range free k c).0 (subst (λ (z : List ℕ). Memᴰ c z) (same_list_lem (lv rows (suc k)) (lv rows k) q) ((level_iff range free (suc k) c).1 e.0)))

  one_more : {k : ℕ} → Each rows k → (c : ℕ) × Enters rows (suc k) c → Each rows (suc k)
  one_more {k} f x = record { at = λ j p l. on j p l (ℕ_discrete j (suc k)) }
    where
      on : (j : ℕ) → 0 < j → j ≤ suc k → Dec (j ≡ suc k) → (c : ℕ) × Enters rows j c
      on j p l (yes e) = subst (λ (z : ℕ). (c : ℕ) × Enters rows z c) (sym e) x
      on j p l (no e) = f.at j p (omega arith)

  none_more : {k : ℕ} → NoneGood rows k → least (good_b rows (m rows)) (lv rows (suc k)) ≡ none → NoneGood rows (suc k)
  none_more {k} f e = record { at = λ j u l w g. on j u l w g (dec_le j k) }
    where
      on : (j u : ℕ) → j ≤ suc k → Within rows j u → Good rows u → Dec (j ≤ k) → ⊥
      on j u l w g (yes h) = f.at j u h w g
      on j u l w g (no h) =
          let j-is : j ≡ suc k = omega arith in
          least_none (good_b rows (m rows)) ((level_iff range free (suc k) u).1 (subst (λ (z : ℕ). Within rows z u) j-is w)) e ((good_iff range free some_row u).1 g)

  searched : (n f k : ℕ) → f + k ≡ n → Each rows k → NoneGood rows k → Finds rows n (search_from rows (m rows) (codes rows) f (lv rows k) k)
  searched n zero k s each none_yet = too_many (let e : k ≡ n = omega arith in subst (λ (z : ℕ). Each rows z) e each)
  searched n (suc f) k s each none_yet = at (least (good_b rows (m rows)) (lv rows (suc k))) refl (λ x y. searched n f (suc k) (omega arith) x y)
    where
      Rest : Type 0
      Rest = Each rows (suc k) → NoneGood rows (suc k) → Finds rows n (search_from rows (m rows) (codes rows) f (lv rows (suc k)) (suc k))

      finish : Rest → NoneGood rows (suc k) → (b : Bool) → same_list (lv rows (suc k)) (lv rows k) ≡ b
          → Finds rows n (elim b [ true ↦ some (unsat k) | false ↦ search_from rows (m rows) (codes rows) f (lv rows (suc k)) (suc k) ])
      finish rest g true q = finds_unsat each none_yet (nothing_new k q)
      finish rest g false q = rest (one_more each (fresh k q)) g

      at : (o : Option ℕ) → least (good_b rows (m rows)) (lv rows (suc k)) ≡ o → Rest → Finds rows n (elim o [
        | some c ↦ some (sat (suc k) c)
        | none ↦ elim (same_list (lv rows (suc k)) (lv rows k)) [ true ↦ some (unsat k) | false ↦ search_from rows (m rows) (codes rows) f (lv rows (suc k)) (suc k) ]
      ])
      at (some c) e rest =
          let x = least_some (good_b rows (m rows)) 0 c (lv rows (suc k)) (lv_asc rows (suc k)) e in
          finds_sat
          ((level_iff range free (suc k) c).0 x.0)
          ((good_iff range free some_row c).0 x.1)
          (λ u w g. x.2 u ((level_iff range free (suc k) u).1 w) ((good_iff range free some_row u).1 g))
          none_yet
      at none e rest = finish rest (none_more none_yet e) (same_list (lv rows (suc k)) (lv rows k)) refl

  pub finds : Finds rows (suc (codes rows)) (search rows)
  finds = searched (suc (codes rows)) (suc (codes rows)) 0 (omega arith) (record { at = λ k p l. absurd (omega arith) }) (record { at = λ k c l w g. nothing_yet k c l w })
    where
      nothing_yet : (k c : ℕ) → k ≤ 0 → Within rows k c → ⊥
      nothing_yet zero c l w = w
      nothing_yet (suc k) c l w = omega arith
