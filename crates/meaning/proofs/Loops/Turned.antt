-- A turned loop is a loop: a cancelling word begins with a d whose converse comes after a cancelling stretch and before another, so the d may
-- as well stand at the end.
use Prim.Native.Nat.{ℕ}
use mathlib.Core.List.{List, [], ◌∷◌, ◌++◌, append_assoc, append-nil, nil≢cons, head-eq_of_cons-eq, tail-eq_of_cons-eq}
use mathlib.Core.Logic.{◌↔◌}
use mathlib.Core.Path.{◌≡◌, refl, sym, ◌∙◌, ap, subst}
use Rattle.meaning.specs.Loop.{Cancels, empty, wrapped, joined, Loop, OnLoop, starts, comes_by}
use Rattle.meaning.specs.Table.{Dir, down, up, converse, Table}
use Rattle.meaning.proofs.Loops.Level.{walk_append}

-- what follows a d in a cancelling word
record Answered (d : Dir) (w : List Dir) : Type 0 where
  inner : List Dir
  outer : List Dir
  parts : w ≡ inner ++ (converse d ∷ outer)
  inner_cancels : Cancels inner
  outer_cancels : Cancels outer

answered : {u : List Dir} (d : Dir) (w : List Dir) → Cancels u → u ≡ d ∷ w → Answered d w
answered d w empty e = absurd (nil≢cons e)
answered d w (wrapped {w = u} f c) e =
    let same : f ≡ d = head-eq_of_cons-eq e in
    record { inner = u; outer = []; parts = sym (tail-eq_of_cons-eq e) ∙ ap (λ (z : Dir). u ++ (converse z ∷ [])) same; inner_cancels = c; outer_cancels = empty }
answered d w (joined {v = []} a b) e = answered d w b e
answered d w (joined {v = f ∷ v} {w = v'} a b) e =
    let same : f ≡ d = head-eq_of_cons-eq e in
    let x = answered d v a (ap (◌∷ v) same) in
    record {
      inner = x.inner;
      outer = x.outer ++ v';
      parts = sym (tail-eq_of_cons-eq e) ∙ ap (◌++ v') x.parts ∙ append_assoc x.inner (converse d ∷ x.outer) v';
      inner_cancels = x.inner_cancels;
      outer_cancels = joined x.outer_cancels b;
    }

twice : (d : Dir) → converse (converse d) ≡ d
twice (down s) = refl
twice (up s) = refl

first_last : (d : Dir) (w : List Dir) → Cancels (d ∷ w) → Cancels (w ++ (d ∷ []))
first_last d w c =
    let x = answered d w c refl in
    let h : Cancels (converse d ∷ (x.outer ++ (d ∷ []))) = subst (λ (z : Dir). Cancels (converse d ∷ (x.outer ++ (z ∷ [])))) (twice d) (wrapped (converse d) x.outer_cancels) in
    rw (x.parts, append_assoc) (joined x.inner_cancels h)

pub turn : (v w : List Dir) → Cancels (v ++ w) → Cancels (w ++ v)
turn [] w c = rw append-nil c
turn (d ∷ v) w c = rw append_assoc at (turn v (w ++ (d ∷ [])) (rw append_assoc at (first_last d (v ++ w) c)))

pub turned : (rows : Table) (i : ℕ) → OnLoop rows i ↔ Loop rows i
turned rows i = (to, starts)
  where
    to : OnLoop rows i → Loop rows i
    to (starts l) = l
    to (comes_by {v = v} {w = w} a b c) = record { word = w ++ v; walk = walk_append b a; cancels = turn v w c }
