-- Whole rounds: how they start, how one is under way, and how they end.
use Prim.Native.Nat.{ℕ, suc, ◌+◌, ◌-◌, ◌<◌, ◌≤◌}
use native.Mathlib.Omega.{arith}
use native.Mathlib.Decide.{ℕ_discrete, dec_lt}
use mathlib.Core.Bool.{Bool, true, false}
use mathlib.Core.Path.{◌≡◌}
use lib.ListN.{get_or}
use Rattle.std.specs.Prelude.{Some, None}
use Rattle.meaning.specs.Code.{codes, Good}
use Rattle.meaning.specs.Marked.{Smallest}
use Rattle.meaning.specs.Outcome.{Slices, recorded, absent, Accepted, not_entered, left_out, Searched}
use Rattle.meaning.specs.Table.{Side, Table}
use Rattle.meaning.proofs.Outcome.Bound.{bound}
use Rattle.meaning.proofs.Outcome.Conclude.{round_of}
use Rattle.meaning.proofs.Rounds.Places.{was_entered, round_le}
use Rattle.meaning.proofs.Rounds.Smallest.{smallest_code, smallest_pos}
use Rattle.rounds.specs.Ended.{GoodIn, TopIs, Before, Reached, Exhausted}
use Rattle.rounds.specs.Kept.{KeptAll}
use Rattle.rounds.specs.Round.{Halfway}

module _ {rows : Table} where
  -- nothing is entered before round 1
  pub start : {x : Slices} → ((c : ℕ) → c < codes rows → get_or x.round c 0 ≡ 0) → ((s : Side) (c : ℕ) → c < codes rows → get_or (recorded x s) c 0 ≡ absent) → Before rows 1 x
  start r n = record {
    counted = omega arith;
    searched = record { rounds = λ c l. rw (r c l) (not_entered (λ j y. smallest_pos y)); neighbours = λ s c l. rw (n s c l) (left_out (r c l)) };
    each_round = λ j p l. absurd (omega arith);
    none_good = λ c l g. r c l;
  }

module _ {rows : Table} (a : Accepted rows) {k : ℕ} {x : Slices} (b : Before rows k x) where
  -- round numbers fit: the limit is 12 × 4,096
  pub few : k < 49154
  few = at (dec_lt 1 k)
    where
      at : Dec (1 < k) → k < 49154
      at (yes l) = let y = b.each_round (k - 1) (omega arith) (omega (arith, b.counted)) in omega (arith, bound a.in_range a.loop_free y.1, a.room)
      at (no l) = omega arith

  module _ {y : Slices} (o : Searched rows k y) where
    -- a good code was not entered before
    new_good : (c : ℕ) → c < codes rows → Good rows c → 0 < get_or y.round c 0 → k ≤ get_or y.round c 0
    new_good c l g p = at (dec_lt (get_or y.round c 0) k)
      where
        at : Dec (get_or y.round c 0 < k) → k ≤ get_or y.round c 0
        at (no n) = omega arith
        at (yes q) =
            let z = was_entered (o.rounds c l) p in
            let e = round_of b.searched z.0 (omega arith) in
            absurd (omega (arith, b.none_good c l g))

    still_none : (c : ℕ) → c < codes rows → Good rows c → (get_or y.round c 0 ≡ k → ⊥) → get_or y.round c 0 ≡ 0
    still_none c l g n = at (dec_lt 0 (get_or y.round c 0))
      where
        at : Dec (0 < get_or y.round c 0) → get_or y.round c 0 ≡ 0
        at (no q) = omega arith
        at (yes q) = absurd (n (omega (arith, new_good c l g q, (was_entered (o.rounds c l) q).1)))

    pub reached : {top : ℕ} → GoodIn rows (codes rows) y.round k top → ((c : ℕ) → GoodIn rows (codes rows) y.round k c → top ≤ c) → Reached rows k top y
    reached g m = record {
      counted = b.counted;
      searched = o;
      is_code = g.is_code;
      good = g.good;
      in_round = g.in_round;
      smallest_good = λ c l h e. m c (record { is_code = l; good = h; in_round = e });
      none_before = new_good;
    }

    pub next_round : (c : ℕ) × Smallest rows c k → ((c : ℕ) → GoodIn rows (codes rows) y.round k c → ⊥) → Before rows (k + 1) y
    next_round w n = record {
      counted = omega arith;
      searched = let e : k + 1 - 1 ≡ k = omega arith in rw e o;
      each_round = λ j p l. each j p (ℕ_discrete j k) l;
      none_good = λ c l g. still_none c l g (λ e. n c (record { is_code = l; good = g; in_round = e }));
    }
      where
        each : (j : ℕ) → 0 < j → Dec (j ≡ k) → j < k + 1 → (c : ℕ) × Smallest rows c j
        each j p (yes e) l = rw e w
        each j p (no e) l = b.each_round j p (omega arith)

    -- by what the scan for a top says
    module _ {c : ℕ} (count : c ≡ codes rows) where
      pub ends : {u : ℕ} → TopIs rows c y.round k (Some u) → Reached rows k u y
      ends t = let g = rw count at t in reached g.0 g.1

      pub goes_on : (w : ℕ) × Smallest rows w k → TopIs rows c y.round k None → Before rows (k + 1) y
      goes_on w t = next_round w (rw count at t)

    pub exhausted : Searched rows (k - 1) y → Exhausted rows (k - 1) y
    exhausted s = record {
      searched = s;
      ended = let e : suc (k - 1) ≡ k = omega (arith, b.counted) in rw e o;
      none_good = λ c l g. still_none c l g (λ e. omega (arith, b.counted, round_le (s.rounds c l)));
      each_round = λ j p l. let z = b.each_round j p (omega (arith, b.counted)) in (z.0, (smallest_code z.1).0, round_of s z.1 l);
    }

-- round k as its loop sees it: the codes below t are visited, and `some` says whether one was entered
pub record Going (rows : Table) (k t : ℕ) (some : Bool) (old x : Slices) : Type 0 where
  pub halfway : Halfway rows k t x
  pub enters : some ≡ true → (c : ℕ) × Smallest rows c k
  pub idle : some ≡ false → x.round ≡ old.round
  pub kept : KeptAll (codes rows) old x
