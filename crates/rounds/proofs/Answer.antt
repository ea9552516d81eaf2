-- From the rounds to the answer: the cleared slices are those before round 1, and what the rounds and the marks leave is the outcome.
use Prim.Native.Nat.{ℕ, ◌<◌, ◌≤◌}
use native.Mathlib.Omega.{arith}
use mathlib.Core.List.{List}
use mathlib.Core.Path.{◌≡◌, refl, sym, subst}
use lib.ListN.{get_or, length}
use Rattle.meaning.specs.Code.{codes}
use Rattle.meaning.specs.Outcome.{Slices, recorded, absent, Accepted, Searched, is_sat, is_unsat}
use Rattle.meaning.specs.Table.{Side, first, next, Table}
use Rattle.meaning.proofs.Outcome.Conclude.{conclude_sat, conclude_unsat}
use Rattle.meaning.proofs.Sides.{sides}
use Rattle.rounds.specs.Ended.{Before, EndsAs, Ended}
use Rattle.rounds.specs.Found.{Answered}
use Rattle.rounds.specs.Kept.{lent, Kept, KeptAll, Cleared}
use Rattle.rounds.specs.Room.{Room}
use Rattle.rounds.specs.Round.{running, run}
use Rattle.rounds.specs.Used.{Linked, Used}
use Rattle.rounds.specs.declared.Found.{Found}
use Rattle.rounds.specs.declared.lent.Lent.{Lent}
use Rattle.rounds.specs.declared.Found.TheVariants.{Sat, Unsat}
use Rattle.rounds.proofs.Marks.{used_same, linked}
use Rattle.rounds.proofs.Places.{cleared-below, kept_cleared, kept_same, all_kept, all_then}
use Rattle.rounds.proofs.Whole.{start}

-- first and next do not depend on used
same_beside : (r f n u : List ℕ) (s : Side) → recorded (running r f n) s ≡ recorded (lent r f n u) s
same_beside r f n u first = refl
same_beside r f n u next = refl

with_used : {rows : Table} {k : ℕ} {r f n u : List ℕ} → Searched rows k (running r f n) → Searched rows k (lent r f n u)
with_used {u = u} s = record { rounds = s.rounds; neighbours = sides _ (s.neighbours first) (s.neighbours next) }

-- slices lent, and cleared
module _ {c : ℕ} {r f n u r₁ f₁ n₁ u₁ : List ℕ} (d : Cleared c (lent r f n u) (lent r₁ f₁ n₁ u₁)) where
  pub before_one : {rows : Table} → c ≡ codes rows → Before rows 1 (running r₁ f₁ n₁)
  before_one e = start
      (λ i l. rw d.no_round (cleared-below 0 c r i (rw e l)))
      (sides _ (λ i l. rw d.no_first (cleared-below absent c f i (rw e l))) (λ i l. rw d.no_next (cleared-below absent c n i (rw e l))))

  pub none_used : (i : ℕ) → i < c → get_or u₁ i 0 ≡ 0
  none_used i l = rw d.no_used (cleared-below 0 c u i l)

  module _ (room : Room c r f n) (room_used : c ≤ length u) where
    all_cleared : KeptAll c (lent r f n u) (lent r₁ f₁ n₁ u₁)
    all_cleared = all_kept
        (kept_cleared 0 d.no_round room.room_round)
        (kept_cleared absent d.no_first room.room_first)
        (kept_cleared absent d.no_next room.room_next)
        (kept_cleared 0 d.no_used room_used)

    -- what the rounds and the marks leave
    module _ {rows : Table} (a : Accepted rows) (count : c ≡ codes rows) {found : Found} {r₂ f₂ n₂ : List ℕ} (e : Ended rows found (running r₁ f₁ n₁) (running r₂ f₂ n₂)) where
      all_kept_by : {u₂ : List ℕ} → Kept c u₁ u₂ → KeptAll c (lent r f n u) (lent r₂ f₂ n₂ u₂)
      all_kept_by k =
          let w = rw (sym count) at e.kept in
          all_then all_cleared (all_kept w.kept_round w.kept_first w.kept_next k)

      ended_as : (v : Found) → found ≡ v → EndsAs rows v (running r₂ f₂ n₂)
      ended_as v i = subst (λ (z : Found). EndsAs rows z (running r₂ f₂ n₂)) i e.ends

      -- what the marks ask for
      pub marks_from : {h top : ℕ} → found ≡ Sat h top → (Linked c (running r₂ f₂ n₂) × ((top < c) × (get_or r₂ top 0 ≡ h) × (0 < h) × ((t : ℕ) → t < c → get_or u₁ t 0 ≡ 0)))
      marks_from {h} {top} i = let w = ended_as (Sat h top) i in
          (rw count (linked w.searched), (rw count w.is_code, w.in_round, w.counted, none_used))

      pub answers_sat : {h top : ℕ} {u₂ : List ℕ} → found ≡ Sat h top → Used c (running r₂ f₂ n₂) top u₁ u₂ → Answered rows (Sat h top) (lent r f n u) (lent r₂ f₂ n₂ u₂)
      answers_sat {h} {top} {u₂} i m = let w = ended_as (Sat h top) i in record {
        outcome = is_sat (conclude_sat a (lent r₂ f₂ n₂ u₂) h top (with_used w.searched) w.counted w.is_code w.good w.in_round w.smallest_good w.none_before
            (λ t l. used_same (same_beside r₂ f₂ n₂ u₂) (m.is_used t (rw count l))));
        kept = rw count at (all_kept_by m.kept);
      }

      pub answers_unsat : {k : ℕ} → found ≡ Unsat k → Answered rows found (lent r f n u) (lent r₂ f₂ n₂ u₁)
      answers_unsat {k} i = let w = ended_as (Unsat k) i in rw i (record {
        outcome = is_unsat (conclude_unsat a (lent r₂ f₂ n₂ u₁) k (with_used w.searched) (with_used w.ended) (λ t l p g. omega (arith, w.none_good t l g)) w.each_round (λ t l. none_used t (rw count l)));
        kept = rw count at (all_kept_by kept_same);
      })

-- the lent slices hold what the rounds left in them
module _ {r f n : List ℕ} (m : Lent) (a : r ≡ m.round.now) (b : f ≡ m.first.now) (d : n ≡ m.next.now) where
  pub linked_here : {c : ℕ} → Linked c (run m) → Linked c (running r f n)
  linked_here x = rw (a, b, d) x

  pub used_here : {c top : ℕ} {old new : List ℕ} → Used c (running r f n) top old new → Used c (run m) top old new
  used_here x = rw (a, b, d) at x

  pub answers_here : {rows : Table} {found : Found} {old : Slices} {u : List ℕ} → Answered rows found old (lent m.round.now m.first.now m.next.now u) → Answered rows found old (lent r f n u)
  answers_here x = rw (a, b, d) x
