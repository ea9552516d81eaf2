-- Rounds are heights: a code is entered by round k exactly if some marked tree of height at most k has it at its top.
use Prim.Native.Nat.{ℕ, zero, suc, ◌≤◌}
use native.Mathlib.Omega.{arith}
use mathlib.Core.Logic.{◌↔◌}
use mathlib.Core.Option.{Option, none, some}
use Rattle.meaning.specs.Code.{name_in, HasFlag, Takes}
use Rattle.meaning.specs.Marked.{Fits, Marked, no_mark, mark, Within}
use Rattle.meaning.specs.Table.{Side, first, next, down, Table}
use Rattle.meaning.specs.Tree.{Tree, nothing, node, height}
use Rattle.meaning.proofs.Sides.{sides}
use Rattle.meaning.proofs.Codes.Names.{counted_lt, counted_self, name_lt, code_lt, flag_dec}

-- some marked tree of height at most k has the code c at its top
pub record MarkedWithin (rows : Table) (k c : ℕ) : Type 0 where
  pub tree : Tree
  pub marked : Marked rows tree (some c)
  pub low : height tree ≤ k

module _ (rows : Table) where
  kid_in : (s : Side) (k c : ℕ) {a : Tree} (o : Option ℕ) → Fits rows s c o → Marked rows a o → ((u : ℕ) → Marked rows a (some u) → Within rows k u) → HasFlag rows c (down s) → (u : ℕ) × Within rows k u × Takes rows s c u
  kid_in s k c none f m ih h = absurd (f h)
  kid_in s k c (some u) f m ih h = (u, ih u m, f)

  pub enter : (k c : ℕ) {t : Tree} → Marked rows t (some c) → height t ≤ k → Within rows k c
  enter zero c (mark n p f h g l) le = absurd (omega arith)
  enter (suc k) c (mark {n = n'} {x = x} {y = y} n p f h g l) le = (
    p,
    code_lt rows c (rw n (counted_lt rows n')),
    sides _ (kid_in first k c x f h (λ u m. enter k u m (omega arith))) (kid_in next k c y g l (λ u m. enter k u m (omega arith))),
  )

  -- a child, or none
  record Kid (s : Side) (k c : ℕ) : Type 0 where
    tree : Tree
    code : Option ℕ
    fits : Fits rows s c code
    marked : Marked rows tree code
    low : height tree ≤ k

  kid : (s : Side) (k c : ℕ) → Dec (HasFlag rows c (down s)) → (HasFlag rows c (down s) → (u : ℕ) × MarkedWithin rows k u × Takes rows s c u) → Kid s k c
  kid s k c (no h) f = record { tree = nothing; code = none; fits = h; marked = no_mark; low = omega arith }
  kid s k c (yes h) f = let x = f h in record { tree = x.1.tree; code = some x.0; fits = x.2; marked = x.1.marked; low = x.1.low }

  pub grow : (k c : ℕ) → Within rows k c → MarkedWithin rows k c
  grow zero c h = absurd h
  grow (suc k) c h =
      let on : (s : Side) → Kid s k c = λ s. kid s k c (flag_dec rows c (down s)) (λ f. let x = h.2 s f in (x.0, grow k x.0 x.1, x.2)) in
      let a = on first in
      let b = on next in
      record {
        tree = node (name_in rows c) a.tree b.tree;
        marked = mark (counted_self rows (name_in rows c) (name_lt rows c h.1)) h.0 a.fits a.marked b.fits b.marked;
        low = omega (arith, a.low, b.low);
      }

  pub rounds : (k c : ℕ) → Within rows k c ↔ MarkedWithin rows k c
  rounds k c = (grow k c, λ x. enter k c x.marked x.low)

  pub later : (k c : ℕ) → Within rows k c → Within rows (suc k) c
  later k c w = let x = grow k c w in enter (suc k) c x.marked (omega (arith, x.low))

  -- a round that enters nothing is the last
  pub settled : (k : ℕ) → ((c : ℕ) → Within rows (suc k) c → Within rows k c) → (j c : ℕ) → Within rows j c → Within rows k c
  settled k h zero c w = absurd w
  settled k h (suc j) c w = h c (w.0, w.1, λ s f. let x = w.2 s f in (x.0, settled k h j x.0 x.1, x.2))
