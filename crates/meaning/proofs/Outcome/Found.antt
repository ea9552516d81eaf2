-- The least height of a tree that satisfies is the first round with a good code: a good code's smallest marked tree satisfies, and a tree that
-- satisfies is no lower than the smallest marked tree of the good code that it has at its top.
use Prim.Native.Nat.{ℕ, ◌<◌, ◌≤◌}
use native.Mathlib.Omega.{arith}
use native.Mathlib.Decide.{dec_lt}
use mathlib.Core.Logic.{◌↔◌}
use mathlib.Core.Path.{◌≡◌, subst}
use Rattle.meaning.specs.Code.{Good}
use Rattle.meaning.specs.Marked.{Smallest, Enters}
use Rattle.meaning.specs.Outcome.{Accepted}
use Rattle.meaning.specs.Table.{Table}
use Rattle.meaning.specs.Theorems.{FirstGood, LeastHeight}
use Rattle.meaning.specs.Tree.{Tree, height}
use Rattle.meaning.specs.Truth.{Satisfies}
use Rattle.meaning.proofs.Answers.Complete.{complete}
use Rattle.meaning.proofs.Answers.Sound.{sound}
use Rattle.meaning.proofs.Rounds.Entry.{entry}
use Rattle.meaning.proofs.Rounds.Heights.{enter}
use Rattle.meaning.proofs.Rounds.Smallest.{enters_smallest}

-- a good code whose smallest marked tree is at most n high
pub record GoodWithin (rows : Table) (n : ℕ) : Type 0 where
  pub code : ℕ
  pub round : ℕ
  pub low : round ≤ n
  pub small : Smallest rows code round
  pub good : Good rows code

module _ {rows : Table} (a : Accepted rows) where
  pub shows : {c k : ℕ} (x : Smallest rows c k) → Good rows c → Satisfies rows x.tree
  shows {c} x g = sound a.in_range a.loop_free a.some_row x.tree c x.marked g

  pub good_within : (t : Tree) → Satisfies rows t → GoodWithin rows (height t)
  good_within t s =
      let m = complete a.in_range a.loop_free t s in
      let e = entry a.in_range a.loop_free (height t) m.0 (enter rows (height t) m.0 m.1 (omega arith)) in
      record { code = m.0; round = e.0; low = e.1; small = e.2; good = m.2 }

  to_round : (h : ℕ) → LeastHeight rows h → FirstGood rows h
  to_round h x =
      let g = good_within x.tree x.satisfies in
      let e : g.round ≡ h = omega (arith, x.least g.small.tree (shows g.small g.good), g.small.high, g.low, x.high) in
      record {
        good = (g.code, (enters_smallest h g.code).1 (subst (λ (z : ℕ). Smallest rows g.code z) e g.small), g.good);
        none_before = λ j c l w k. let y = (enters_smallest j c).0 w in omega (arith, x.least y.tree (shows y k), y.high);
      }

  to_height : (h : ℕ) → FirstGood rows h → LeastHeight rows h
  to_height h x =
      let y = (enters_smallest h x.good.0).0 x.good.1 in
      record { tree = y.tree; satisfies = shows y x.good.2; high = y.high; least = λ t s. at t (good_within t s) }
    where
      at : (t : Tree) → GoodWithin rows (height t) → h ≤ height t
      at t g = on (dec_lt g.round h)
        where
          on : Dec (g.round < h) → h ≤ height t
          on (yes l) = absurd (x.none_before g.round g.code l ((enters_smallest g.round g.code).1 g.small) g.good)
          on (no l) = omega (arith, g.low)

  pub height_is_round : (h : ℕ) → LeastHeight rows h ↔ FirstGood rows h
  height_is_round h = (to_round h, to_height h)

  pub none_found : ((k c : ℕ) → Enters rows k c → Good rows c → ⊥) ↔ ((t : Tree) → Satisfies rows t → ⊥)
  none_found = (
    λ f t s. let g = good_within t s in f g.round g.code ((enters_smallest g.round g.code).1 g.small) g.good,
    λ f k c e g. let y = (enters_smallest k c).0 e in f y.tree (shows y g),
  )
