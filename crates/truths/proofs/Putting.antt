-- One cell more: there is room for it in the queue, it is found, and what was found stays.
use Rattle.std.proofs.Common.{ℕ, zero, suc, ⊎_elim, ◌+◌, ◌*◌, ◌<◌, ◌≤◌, Bool, true, false, List, [], ◌∷◌, ◌++◌, ◌≡◌, refl, sym, ◌∙◌, ◌-◌, length, get_or, set, replicate, take, ◌⊎◌, inl, inr, arith}
use Rattle.std.proofs.Math.Logic.{∥∥₁_map}
use Rattle.std.proofs.Math.Decide.{ℕ_discrete}
use Rattle.std.proofs.Math.Nat.{eq-or-lt_of_le}
use Rattle.std.proofs.lemmas.List.{length-set, length-replicate, get_or-set_same, get_or-set_other, get_or-take, get_or_append_left, get_or-append_right, length-take-le}
use Rattle.std.proofs.lemmas.List.Sums.{sum_by-cons, sum_by-le, count_by-le-length}
use Rattle.std.proofs.lemmas.List.Elements.{All-from_get_or}
use Rattle.std.specs.Prelude.{count_by}
use Rattle.std.proofs.lemmas.Grind.{common_steps}
use Rattle.meaning.specs.Table.{row_limit}
use Rattle.loops.specs.Closing.{pairs}
use Rattle.loops.proofs.Marking.{marked_none, marked_new, pairs_more}
use Rattle.sheets.specs.Lines.{line_limit}
use Rattle.table.specs.Listed.{More}
use Rattle.truths.specs.Cells.{found}
use Rattle.truths.specs.Found.{FoundAt, Grid, with_found, many_found, Queued, Entered, no_cell}
use Rattle.truths.specs.declared.cell.Cell.{Cell}

abbrev pub blank : List (List Bool)
blank = replicate line_limit (replicate row_limit false)

none_counted : (n w : ℕ) → many_found (replicate n (replicate w false)) ≡ 0
unfolding many_found
none_counted zero w = refl
none_counted (suc n) w = omega (arith, none w, none_counted n w, sum_by-cons (λ (l : List Bool). count_by (λ found. found) l) (replicate w false) (replicate n (replicate w false)))
  where
    none : (w : ℕ) → count_by (λ (found : Bool). found) (replicate w false) ≡ 0
    none zero = refl
    none (suc w) = none w

pub none_found : (p i : ℕ) → FoundAt blank p i → ⊥
none_found p i f = cc (marked_none line_limit row_limit p i, f)

pub blank_grid : Grid blank
blank_grid = record { high = length-replicate line_limit (replicate row_limit false); wide = λ p h. wide line_limit p h }
  where
    wide : (n p : ℕ) → p < n → length (get_or (replicate n (replicate row_limit false)) p []) ≡ row_limit
    wide zero p h = absurd (omega arith)
    wide (suc n) zero h = length-replicate row_limit false
    wide (suc n) (suc p) h = wide n p (omega arith)

pub nothing_found : (queue : List Cell) → Queued blank queue 0
nothing_found queue = record {
  counted = none_counted line_limit row_limit;
  few = omega arith;
  entered = λ k h. absurd (omega arith);
  queued = λ p i f. absurd (none_found p i f);
}

pub found_most : (truth : List (List Bool)) → Grid truth → many_found truth ≤ line_limit * row_limit
unfolding many_found
found_most truth g =
    rw g.high at (sum_by-le (λ (l : List Bool). count_by (λ b. b) l) row_limit truth (All-from_get_or (λ (l : List Bool). count_by (λ b. b) l ≤ row_limit) truth [] (λ i h. omega (arith, g.wide i (omega (arith, g.high)), count_by-le-length (λ (b : Bool). b) (get_or truth i [])))))

module _ (truth : List (List Bool)) (c : Cell) (g : Grid truth) (line : c.line < line_limit) (low : c.row < row_limit) where
  there : c.line < length truth
  there = omega (arith, g.high)

  inside : c.row < length (get_or truth c.line [])
  inside = omega (arith, g.wide c.line line)

  pub grid_more : Grid (with_found truth c.line c.row)
  grid_more = record { high = length-set truth c.line (set (get_or truth c.line []) c.row true) ∙ g.high; wide = λ p h. at p h (ℕ_discrete p c.line) }
    where
      at : (p : ℕ) → p < line_limit → Dec (p ≡ c.line) → length (get_or (with_found truth c.line c.row) p []) ≡ row_limit
      at p h (yes q) = rw (q, get_or-set_same truth c.line (set (get_or truth c.line []) c.row true) [] there) (length-set (get_or truth c.line []) c.row true ∙ g.wide c.line line)
      at p h (no n) = rw (get_or-set_other truth c.line p (set (get_or truth c.line []) c.row true) [] n) (g.wide p h)

  marked : FoundAt (with_found truth c.line c.row) c.line c.row
  marked = rw (get_or-set_same truth c.line (set (get_or truth c.line []) c.row true) [] there) (get_or-set_same (get_or truth c.line []) c.row true false inside)

  pub found_then : (p i : ℕ) → FoundAt (with_found truth c.line c.row) p i → FoundAt truth p i ⊎ ((p ≡ c.line) × (i ≡ c.row))
  found_then = marked_new truth c.line c.row there inside (λ p i. FoundAt truth p i ⊎ ((p ≡ c.line) × (i ≡ c.row))) (inr (refl, refl)) (λ p i f. inl f)

  pub found_still : (p i : ℕ) → FoundAt truth p i → FoundAt (with_found truth c.line c.row) p i
  found_still p i f = at (ℕ_discrete p c.line) (ℕ_discrete i c.row)
    where
      at : Dec (p ≡ c.line) → Dec (i ≡ c.row) → FoundAt (with_found truth c.line c.row) p i
      at (no n) d = rw (get_or-set_other truth c.line p (set (get_or truth c.line []) c.row true) [] n) f
      at (yes q) (yes r) = rw (q, r) marked
      at (yes q) (no n) = rw (q, get_or-set_same truth c.line (set (get_or truth c.line []) c.row true) [] there, get_or-set_other (get_or truth c.line []) c.row i true false n) (rw q at f)

  module _ (queue : List Cell) (tail : ℕ) (now : Queued truth queue tail) (unfound : FoundAt truth c.line c.row → ⊥) where
    one_more : many_found (with_found truth c.line c.row) ≡ tail + 1
    unfolding many_found pairs
    one_more =
        let was : found truth c.line c.row ≡ false = grind (arith, common_steps) in
        pairs_more truth c.line c.row there inside was ∙ omega (arith, now.counted)

    pub room_left : tail < line_limit * row_limit
    room_left = omega (arith, one_more, found_most (with_found truth c.line c.row) grid_more)

    module _ {queue' : List Cell} {tail' : ℕ} (long : length queue ≡ line_limit * row_limit) (more : More (line_limit * row_limit) queue tail c queue' tail') where
      pushed : (take tail' queue' ≡ take tail queue ++ (c ∷ [])) × (tail' ≡ tail + 1)
      pushed = more.more room_left

      pub before : (k : ℕ) → k < tail → get_or queue' k no_cell ≡ get_or queue k no_cell
      before k h =
          let a = get_or-take tail' queue' k no_cell (omega (arith, pushed.1)) in
          let b = get_or_append_left (take tail queue) (c ∷ []) no_cell k (omega (arith, length-take-le tail queue (omega (arith, room_left)))) in
          let d = get_or-take tail queue k no_cell h in
          sym a ∙ rw (pushed.0) (b ∙ d)

      last : get_or queue' tail no_cell ≡ c
      last =
          let a = get_or-take tail' queue' tail no_cell (omega (arith, pushed.1)) in
          let b = get_or-append_right (take tail queue) (c ∷ []) tail tail no_cell (length-take-le tail queue (omega (arith, room_left))) (omega arith) in
          let z : tail - tail ≡ 0 = omega arith in
          sym a ∙ rw (pushed.0) (rw z at b)

      pub put : Queued (with_found truth c.line c.row) queue' tail'
      put = record {
        counted = omega (arith, one_more, pushed.1);
        few = omega (arith, room_left, pushed.1);
        entered = λ k h. ⊎_elim
            (λ (e : k ≡ tail). rw (e, last) marked)
            (λ (l : k < tail). rw (before k l) (found_still _ _ (now.entered k l)))
            (eq-or-lt_of_le (let m : k ≤ tail = omega (arith, pushed.1) in m));
        queued = λ p i f. ⊎_elim
            (λ x. ∥∥₁_map (now.queued p i x) (λ x. (x.0, omega (arith, x.1, pushed.1), before x.0 x.1 ∙ x.2)))
            (λ e. ∣ (tail, omega (arith, pushed.1), rw (e.0, e.1) last) ∣₁)
            (found_then p i f);
      }

      pub entered : Entered c truth queue tail (with_found truth c.line c.row) queue' tail'
      entered = record {
        here = λ h l. marked;
        grown = record { longer = omega (arith, pushed.1); kept = before; still = found_still };
        only = found_then;
      }
