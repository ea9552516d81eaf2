-- A visit as the code makes it, from what each of its tests tells: code t was entered before, is not proper, is stuck at a side, or goes in.
use Prim.Native.Nat.{ℕ, ◌+◌, ◌<◌}
use native.Mathlib.Omega.{arith}
use mathlib.Core.Bool.{true, false}
use mathlib.Core.List.{List}
use mathlib.Core.Logic.{◌≢◌}
use mathlib.Core.Path.{◌≡◌, refl}
use lib.ListN.{get_or, length, set}
use lib.Seq.{get_or-set_same, get_or-set_other}
use Rattle.meaning.specs.Code.{codes, Proper}
use Rattle.meaning.specs.Outcome.{recorded, absent, Accepted}
use Rattle.meaning.specs.Table.{Side, first, next, Table}
use Rattle.rounds.specs.Room.{Room}
use Rattle.rounds.specs.Round.{running, Settles, Stuck, Halfway, Visited}
use Rattle.rounds.proofs.Halfway.{not_absent, was_there, improper, stuck, enters_here, enter}
use Rattle.rounds.proofs.Places.{all_same, all_kept, kept_same, kept_store}

module _ {rows : Table} (a : Accepted rows) {c k t : ℕ} (count : c ≡ codes rows) {r f n : List ℕ} (room : Room c r f n) (l : t < c) (h : Halfway rows k t (running r f n)) where
  is_code : t < codes rows
  is_code = rw count at l

  pub none_absent : (u : ℕ) → u < c → 0 < get_or r u 0 → u ≢ absent
  none_absent u b = not_absent a h u (rw count at b)

  left_alone : Halfway rows k (t + 1) (running r f n) → Visited rows k t false (running r f n) (running r f n)
  left_alone y = record { halfway = y; enters = λ e. cc; idle = λ e. refl; kept = all_same }

  pub entered_before : get_or r t 0 ≢ 0 → Visited rows k t false (running r f n) (running r f n)
  entered_before d = left_alone (was_there a h is_code d)

  module _ (e : get_or r t 0 ≡ 0) where
    pub not_proper : (Proper rows t → ⊥) → Visited rows k t false (running r f n) (running r f n)
    not_proper d = left_alone (improper a h is_code e d)

    pub stuck_there : {s : Side} → Stuck rows r k s t → Visited rows k t false (running r f n) (running r f n)
    stuck_there y = left_alone (stuck a h is_code e y)

    module _ (p : Proper rows t) {v w : ℕ} (one : Settles rows r k first t v) (two : Settles rows r k next t w) where
      value : Side → ℕ
      value first = v
      value next = w

      settled : (s : Side) → Settles rows r k s t (value s)
      unfolding value
      settled first = one
      settled next = two

      at_t : (s : Side) → get_or (recorded (running (set r t k) (set f t v) (set n t w)) s) t 0 ≡ value s
      unfolding value
      at_t first = let z : t < length f = omega (arith, room.room_first) in get_or-set_same f t v 0 z
      at_t next = let z : t < length n = omega (arith, room.room_next) in get_or-set_same n t w 0 z

      elsewhere : (s : Side) (i : ℕ) → i ≢ t → get_or (recorded (running (set r t k) (set f t v) (set n t w)) s) i 0 ≡ get_or (recorded (running r f n) s) i 0
      elsewhere first i d = get_or-set_other f t i v 0 d
      elsewhere next i d = get_or-set_other n t i w 0 d

      pub goes_in : Visited rows k t true (running r f n) (running (set r t k) (set f t v) (set n t w))
      goes_in = record {
        halfway = enter a h is_code e p value settled _ (let w : t < length r = omega (arith, room.room_round) in get_or-set_same r t k 0 w) (λ u d. get_or-set_other r t u k 0 d) at_t elsewhere;
        enters = λ w. enters_here a h is_code e p value settled;
        idle = λ w. cc;
        kept = all_kept (kept_store r t k is_code) (kept_store f t v is_code) (kept_store n t w is_code) kept_same;
      }
