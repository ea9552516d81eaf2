-- A closed walk in a tree has directions that cancel. Every walk of rows and places goes up by a list of sides, down by another, and is level between.
use Prim.Native.Nat.{ℕ}
use mathlib.Core.List.{List, [], ◌∷◌, ◌++◌, append_assoc, append_cancel_right}
use mathlib.Core.Option.{some, none-ne-some, some-injective}
use mathlib.Core.Path.{◌≡◌, refl, sym, ◌∙◌, ap}
use Rattle.meaning.specs.Loop.{Stretch}
use Rattle.meaning.specs.Table.{Side, first, next, Dir, down, up, Table, row_at, go_row, Refers}
use Rattle.meaning.specs.Tree.{Tree, Place, nothing, node, below, present, neighbour}
use Rattle.meaning.proofs.Loops.Level.{Level, stay, along, flat_stretch, go_back, stretch_then, level_then}
use Rattle.meaning.proofs.Solution.Finite.{Reach, here, step}

-- `Needs rows t i p j q`: what row i says at p depends on row j at q
pub data Needs (rows : Table) (t : Tree) : ℕ → Place → ℕ → Place → Type 0 where
  needs_flat : {i j : ℕ} {p : Place} → Refers rows i j → Needs rows t i p j p
  needs_look : {i j : ℕ} {p q : Place} (d : Dir) → row_at rows i ≡ go_row d j → neighbour t d p ≡ some q → Needs rows t i p j q

pub data Moved : Dir → Place → Place → Type 0 where
  went_down : {s : Side} {p : Place} → Moved (down s) p (s ∷ p)
  went_up : {s : Side} {p : Place} → Moved (up s) (s ∷ p) p

moved_present : (t : Tree) (s : Side) (p q : Place) → present t (s ∷ p) ≡ some q → Moved (down s) p q
moved_present nothing s p q e = absurd (none-ne-some q e)
moved_present (node n a b) s p q e = rw (← (some-injective (s ∷ p) q e)) went_down

pub moved : (t : Tree) (d : Dir) (p q : Place) → neighbour t d p ≡ some q → Moved d p q
moved t (down s) p q e = moved_present (below t (s ∷ p)) s p q e
moved t (up s) [] q e = absurd (none-ne-some q e)
moved t (up first) (first ∷ p) q e = rw (← (some-injective p q e)) went_up
moved t (up first) (next ∷ p) q e = absurd (none-ne-some q e)
moved t (up next) (first ∷ p) q e = absurd (none-ne-some q e)
moved t (up next) (next ∷ p) q e = rw (← (some-injective p q e)) went_up

data Climb (rows : Table) : List Side → ℕ → ℕ → Type 0 where
  top : {i j : ℕ} → Level rows i j → Climb rows [] i j
  climb : {s : Side} {a : List Side} {i j k l : ℕ} → Level rows i j → row_at rows j ≡ go_row (up s) k → Climb rows a k l → Climb rows (s ∷ a) i l

data Fall (rows : Table) : List Side → ℕ → ℕ → Type 0 where
  bottom : {i j : ℕ} → Level rows i j → Fall rows [] i j
  fall : {s : Side} {a : List Side} {i j k l : ℕ} → Fall rows a i j → row_at rows j ≡ go_row (down s) k → Level rows k l → Fall rows (s ∷ a) i l

module _ {rows : Table} where
  climb_after : {a : List Side} {i j k : ℕ} → Stretch rows i j → Climb rows a j k → Climb rows a i k
  climb_after s (top u) = top (along (stretch_then s u))
  climb_after s (climb u e c) = climb (along (stretch_then s u)) e c

  fall_first : {a : List Side} (s : Side) (i : ℕ) {j k l : ℕ} → row_at rows i ≡ go_row (down s) j → Level rows j k → Fall rows a k l → Fall rows (a ++ (s ∷ [])) i l
  fall_first s i e u (bottom v) = fall (bottom stay) e (level_then u v)
  fall_first s i e u (fall f g v) = fall (fall_first s i e u f) g v

  meet : {a : List Side} {i j k : ℕ} → Climb rows a i j → Fall rows a j k → Level rows i k
  meet (top u) (bottom v) = level_then u v
  meet (climb {j = j} u e c) (fall {j = k} f g v) = level_then u (along (stretch_then (go_back j k e (meet c f) g) v))

record Spread (rows : Table) (i : ℕ) (p : Place) (j : ℕ) (q : Place) : Type 0 where
  a : List Side
  b : List Side
  r : Place
  k : ℕ
  starts : p ≡ a ++ r
  ends : q ≡ b ++ r
  rises : Climb rows a i k
  falls : Fall rows b k j

module _ {rows : Table} where
  step_up : {i j k : ℕ} {p q : Place} (s : Side) → row_at rows i ≡ go_row (up s) j → Spread rows j p k q → Spread rows i (s ∷ p) k q
  step_up s e x = record { a = s ∷ x.a; b = x.b; r = x.r; k = x.k; starts = ap (s ∷◌) x.starts; ends = x.ends; rises = climb stay e x.rises; falls = x.falls }

  step_down : {i j k : ℕ} {p q : Place} (s : Side) → row_at rows i ≡ go_row (down s) j → Spread rows j (s ∷ p) k q → Spread rows i p k q
  step_down {i} {j} {k} {p} {q} s e x = from x.a x.starts x.rises
    where
      from : (a : List Side) → s ∷ p ≡ a ++ x.r → Climb rows a j x.k → Spread rows i p k q
      from [] h (top u) = record { a = []; b = x.b ++ (s ∷ []); r = p; k = i; starts = refl; ends = rw (append_assoc, h) x.ends; rises = top stay; falls = fall_first s i e u x.falls }
      from (s' ∷ a) h (climb {j = l} u f c) = record { a = a; b = x.b; r = x.r; k = x.k; starts = (cc); ends = x.ends; rises = climb_after (go_back i l e u (rw same f)) c; falls = x.falls }
        where
          same : s ≡ s'
          same = cc

  step_by : {i j k : ℕ} {d : Dir} {p q r : Place} → row_at rows i ≡ go_row d j → Moved d p q → Spread rows j q k r → Spread rows i p k r
  step_by e (went_down {s}) x = step_down s e x
  step_by e (went_up {s}) x = step_up s e x

module _ {rows : Table} {t : Tree} where
  spread_step : {i j k : ℕ} {p q r : Place} → Needs rows t i p j q → Spread rows j q k r → Spread rows i p k r
  spread_step (needs_flat f) x = record { a = x.a; b = x.b; r = x.r; k = x.k; starts = x.starts; ends = x.ends; rises = climb_after (flat_stretch f) x.rises; falls = x.falls }
  spread_step (needs_look {p = p} {q = q} d e n) x = step_by e (moved t d p q n) x

module _ {rows : Table} where
  down_again : {i j k : ℕ} {b : List Side} (s : Side) → row_at rows i ≡ go_row (down s) j → Climb rows (s ∷ b) j k → Fall rows b k i → Stretch rows i i
  down_again {i} s e (climb {j = l} u f c) g = stretch_then (go_back i l e u f) (meet c g)

  up_again : {i j k : ℕ} {a : List Side} (s : Side) → row_at rows i ≡ go_row (up s) j → Climb rows a j k → Fall rows (s ∷ a) k i → Stretch rows i i
  up_again {i} s e c (fall {j = l} f g v) = stretch_then (go_back i l e (meet c f) g) v

  closed_by : {i j : ℕ} {d : Dir} {p q : Place} → row_at rows i ≡ go_row d j → Moved d p q → Spread rows j q i p → Stretch rows i i
  closed_by {i} {j} e (went_down {s}) x = down_again s e (rw (append_cancel_right x.a (s ∷ x.b) x.r (sym x.starts ∙ ap (s ∷◌) x.ends)) at x.rises) x.falls
  closed_by e (went_up {s}) x = up_again s e x.rises (rw (append_cancel_right x.b (s ∷ x.a) x.r (sym x.ends ∙ ap (s ∷◌) x.starts)) at x.falls)

  -- a closed walk's row is on a loop
  closed_spread : {t : Tree} {i j : ℕ} {p q : Place} → Needs rows t i p j q → Spread rows j q i p → Stretch rows i i
  closed_spread (needs_flat f) x = stretch_then (flat_stretch f) (meet (rw (append_cancel_right x.a x.b x.r (sym x.starts ∙ x.ends)) at x.rises) x.falls)
  closed_spread {t = t} (needs_look {p = p} {q = q} d e n) x = closed_by e (moved t d p q n) x

-- a row at a place, and what it needs: `needs rows t y x` reads `x needs y`
abbrev pub Spot : Type 0
Spot = ℕ × Place

abbrev pub needs : Table → Tree → Spot → Spot → Type 0
needs rows t y x = Needs rows t x.0 x.1 y.0 y.1

module _ {rows : Table} {t : Tree} where
  spread : {x y : Spot} → Reach (needs rows t) x y → Spread rows x.0 x.1 y.0 y.1
  spread (here {x}) = record { a = []; b = []; r = x.1; k = x.0; starts = refl; ends = refl; rises = top stay; falls = bottom stay }
  spread (step n r) = spread_step n (spread r)

  -- a row that is on a closed walk in a tree is on a loop
  pub closed_walk : (x y : Spot) → needs rows t y x → Reach (needs rows t) y x → Stretch rows x.0 x.0
  closed_walk x y n r = closed_spread n (spread r)
