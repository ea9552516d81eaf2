-- From what a search can see in its slices to what the outcome says of trees. Whoever fills the slices, a proof of existence or a program, shows
-- what stands in them and cites one of these two.
use Prim.Native.Nat.{ℕ, zero, suc, ◌<◌, ◌≤◌}
use native.Mathlib.Omega.{arith}
use native.Mathlib.Decide.{dec_lt}
use mathlib.Core.Path.{◌≡◌, ◌∙◌, subst}
use lib.ListN.{get_or}
use Rattle.meaning.specs.Code.{codes, Good}
use Rattle.meaning.specs.Marked.{Smallest}
use Rattle.meaning.specs.Outcome.{Accepted, Slices, entered, UsedIs, Searched, Bounded, Sat, Unsat}
use Rattle.meaning.specs.Table.{Table}
use Rattle.meaning.specs.Tree.{Tree, height}
use Rattle.meaning.proofs.Answers.Sound.{sound}
use Rattle.meaning.proofs.Outcome.Bound.{bound}
use Rattle.meaning.proofs.Outcome.Found.{GoodWithin, good_within}
use Rattle.meaning.proofs.Rounds.Entry.{last_round}
use Rattle.meaning.proofs.Rounds.Grown.{grown}
use Rattle.meaning.proofs.Rounds.Places.{round_unique, was_entered}
use Rattle.meaning.proofs.Rounds.Smallest.{enters_smallest, smallest_within, within_smallest, smallest_code, smallest_pos}

-- the round slice holds the round of a code that was entered in time
pub round_of : {rows : Table} {last : ℕ} {x : Slices} {c k : ℕ} → Searched rows last x → Smallest rows c k → k ≤ last → get_or x.round c 0 ≡ k
round_of {c = c} y s l = round_unique (y.rounds c (smallest_code s).0) (entered s l)

module _ {rows : Table} (a : Accepted rows) (x : Slices) where
  pub conclude_sat : (h top : ℕ) → Searched rows h x → 0 < h → top < codes rows → Good rows top → get_or x.round top 0 ≡ h
      → ((c : ℕ) → c < codes rows → Good rows c → get_or x.round c 0 ≡ h → top ≤ c)
      → ((c : ℕ) → c < codes rows → Good rows c → 0 < get_or x.round c 0 → h ≤ get_or x.round c 0)
      → ((c : ℕ) → c < codes rows → UsedIs x top c (get_or x.used c 0)) → Sat rows h top x
  conclude_sat h top y p l g e smallest first used =
      let t = grown a.room y top l (omega arith) in
      record {
        searched = y;
        bounded = bound a.in_range a.loop_free (subst (λ (z : ℕ). Smallest rows top z) e (was_entered (y.rounds top l) (omega arith)).0);
        shown = t.tree;
        unfolds = t.unfolds;
        satisfies = sound a.in_range a.loop_free a.some_row t.tree top t.marked g;
        high = t.high ∙ e;
        least = λ s k. let w = good_within a s k in lowest s w (dec_lt w.round h);
        is_code = l;
        good = g;
        in_round = e;
        smallest_good = smallest;
        used_is = used;
      }
    where
      lowest : (s : Tree) (w : GoodWithin rows (height s)) → Dec (w.round < h) → h ≤ height s
      lowest s w (no k) = omega (arith, w.low)
      lowest s w (yes k) =
          let q = round_of y w.small (omega arith) in
          omega (arith, w.low, first w.code (smallest_code w.small).0 w.good (omega (arith, smallest_pos w.small)))

  pub conclude_unsat : (r : ℕ) → Searched rows r x → Searched rows (suc r) x
      → ((c : ℕ) → c < codes rows → 0 < get_or x.round c 0 → Good rows c → ⊥)
      → ((k : ℕ) → 0 < k → k ≤ r → (c : ℕ) × (c < codes rows) × (get_or x.round c 0 ≡ k))
      → ((c : ℕ) → c < codes rows → get_or x.used c 0 ≡ 0) → Unsat rows r x
  conclude_unsat r y z none each unused = record {
    searched = y;
    bounded = at_most r each_small;
    none_satisfies = λ t s. let w = good_within a t s in none w.code (smallest_code w.small).0 (omega (arith, smallest_pos w.small, round_of y w.small (no_more w.code w.round w.small))) w.good;
    each_round = each_small;
    no_round_more = no_more;
    unused = unused;
  }
    where
      each_small : (k : ℕ) → 0 < k → k ≤ r → (c : ℕ) × (c < codes rows) × Smallest rows c k
      each_small k p l = let w = each k p l in (w.0, w.1, subst (λ (j : ℕ). Smallest rows w.0 j) w.2 (was_entered (y.rounds w.0 w.1) (omega (arith, w.2))).0)

      -- the slice is the same after one round more, so that round entered nothing
      not_next : (c : ℕ) → Smallest rows c (suc r) → ⊥
      not_next c s =
          let e = round_of z s (omega arith) in
          omega (arith, (was_entered (y.rounds c (smallest_code s).0) (omega arith)).1)

      no_more : (c k : ℕ) → Smallest rows c k → k ≤ r
      no_more c k s = within_smallest r s (last_round a.in_range a.loop_free r (λ u e. not_next u ((enters_smallest (suc r) u).0 e)) k c (smallest_within k s (omega arith)))

      at_most : (n : ℕ) → ((k : ℕ) → 0 < k → k ≤ n → (c : ℕ) × (c < codes rows) × Smallest rows c k) → Bounded rows n
      at_most zero f = omega arith
      at_most (suc n) f = bound a.in_range a.loop_free (f (suc n) (omega arith) (omega arith)).2
