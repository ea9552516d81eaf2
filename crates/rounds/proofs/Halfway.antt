-- One visit in a round under way: the codes of the rounds before it are exactly those within that many rounds; a code that is entered, or
-- passed over, is then as the round leaves it, and no other code's neighbours change.
use Prim.Native.Nat.{ℕ, zero, suc, ◌+◌, ◌-◌, ◌<◌, ◌≤◌}
use native.Mathlib.Omega.{arith}
use native.Mathlib.Decide.{ℕ_discrete, dec_lt}
use mathlib.Core.Logic.{◌↔◌, ◌≢◌}
use mathlib.Core.Path.{◌≡◌, refl, sym, ◌∙◌}
use lib.ListN.{get_or}
use Rattle.meaning.specs.Code.{codes, HasFlag, Proper, Takes}
use Rattle.meaning.specs.Marked.{Smallest, Within}
use Rattle.meaning.specs.Outcome.{Slices, recorded, Accepted, RoundIs, absent, entered, not_entered, Earlier, NeighbourIs, smallest, no_child, left_out}
use Rattle.meaning.specs.Table.{Side, down, Table}
use Rattle.meaning.proofs.Codes.Absent.{never}
use Rattle.meaning.proofs.Rounds.Entry.{entry}
use Rattle.meaning.proofs.Rounds.Places.{round_unique, was_entered}
use Rattle.meaning.proofs.Rounds.Smallest.{smallest_from, smallest_within, smallest_code, smallest_pos}
use Rattle.rounds.specs.Round.{Taken, Settles, child, childless, Stuck, Halfway}

-- A code with its neighbours among those within k - 1 rounds is within k rounds, and there is no other way in.
abbrev Ready : Table → ℕ → ℕ → Type 0
Ready rows k c = Proper rows c × (c < codes rows) × ((s : Side) → HasFlag rows c (down s) → (u : ℕ) × Within rows k u × Takes rows s c u)

module _ (rows : Table) where
  ready_within : (k c : ℕ) → 0 < k → Within rows k c ↔ Ready rows (k - 1) c
  ready_within zero c p = absurd (omega arith)
  ready_within (suc k) c p = let e : suc k - 1 ≡ k = omega arith in rw e (λ w. w, λ w. w)

  enters_now : (k c : ℕ) → 0 < k → Within rows k c → (Within rows (k - 1) c → ⊥) → Smallest rows c k
  enters_now zero c p w n = absurd w
  enters_now (suc k) c p w n = let e : suc k - 1 ≡ k = omega arith in smallest_from w (λ v. n (rw e v))

module _ {rows : Table} (a : Accepted rows) {k t : ℕ} {x : Slices} (h : Halfway rows k t x) where
  -- what stands in the round slice, whether visited or not
  entered_there : (u : ℕ) → u < codes rows → 0 < get_or x.round u 0 → Smallest rows u (get_or x.round u 0) × (get_or x.round u 0 ≤ k)
  entered_there u l p = at (dec_lt u t)
    where
      at : Dec (u < t) → Smallest rows u (get_or x.round u 0) × (get_or x.round u 0 ≤ k)
      at (yes b) = was_entered (h.visited u l b) p
      at (no b) = let y = was_entered (h.waiting u l (omega arith)) p in (y.0, omega (arith, y.1))

  round_of : {u j : ℕ} → u < codes rows → Smallest rows u j → j < k → get_or x.round u 0 ≡ j
  round_of {u} {j} l y b = at (dec_lt u t)
    where
      at : Dec (u < t) → get_or x.round u 0 ≡ j
      at (yes q) = round_unique (h.visited u l q) (entered y (omega arith))
      at (no q) = round_unique (h.waiting u l (omega arith)) (entered y (omega arith))

  -- 65,535 is never entered
  pub not_absent : (u : ℕ) → u < codes rows → 0 < get_or x.round u 0 → u ≢ absent
  not_absent u l p = never rows a.room u l (smallest_code (entered_there u l p).0).1

  pub earlier_within : (u : ℕ) → u < codes rows → 0 < get_or x.round u 0 → get_or x.round u 0 < k → Within rows (k - 1) u
  earlier_within u l p b = smallest_within (k - 1) (entered_there u l p).0 (omega arith)

  pub within_earlier : (u : ℕ) → Within rows (k - 1) u → (u < codes rows) × (0 < get_or x.round u 0) × (get_or x.round u 0 < k)
  within_earlier u w =
      let y = entry a.in_range a.loop_free (k - 1) u w in
      let l = (smallest_code y.2).0 in
      let q : y.0 < k = omega (arith, y.1, h.running) in
      let e = round_of l y.2 q in
      (l, omega (arith, smallest_pos y.2), omega arith)

  -- a visit that enters nothing
  module _ (l : t < codes rows) where
    move_on : RoundIs rows k t (get_or x.round t 0) → Halfway rows k (t + 1) x
    move_on r = record {
      running = h.running;
      visited = λ c b q. at c b (ℕ_discrete c t) q;
      waiting = λ c b q. h.waiting c b (omega arith);
      neighbours = h.neighbours;
    }
      where
        at : (c : ℕ) → c < codes rows → Dec (c ≡ t) → c < t + 1 → RoundIs rows k c (get_or x.round c 0)
        at c b (yes e) q = rw e r
        at c b (no e) q = h.visited c b (omega arith)

    pub was_there : get_or x.round t 0 ≢ 0 → Halfway rows k (t + 1) x
    was_there n = let y = was_entered (h.waiting t l (omega arith)) (omega arith) in move_on (entered y.0 (omega (arith, y.1)))

    -- not in round k, if not ready for it
    passed : get_or x.round t 0 ≡ 0 → (Ready rows (k - 1) t → ⊥) → Halfway rows k (t + 1) x
    passed e n = move_on (rw e (not_entered (λ j y. above j y (dec_lt k j))))
      where
        above : (j : ℕ) → Smallest rows t j → Dec (k < j) → k < j
        above j y (yes b) = b
        above j y (no b) = absurd (n ((ready_within rows k t h.running).0 (smallest_within k y (omega arith))))

    pub improper : get_or x.round t 0 ≡ 0 → (Proper rows t → ⊥) → Halfway rows k (t + 1) x
    improper e n = passed e (λ w. n w.0)

    pub stuck : {s : Side} → get_or x.round t 0 ≡ 0 → Stuck rows x.round k s t → Halfway rows k (t + 1) x
    stuck {s} e n = passed e (λ w. let y = w.2 s n.flagged in let z = within_earlier y.0 y.1 in n.none_taken y.0 (record { is_code = z.0; entered = z.1; before = z.2; takes = y.2 }))

    -- a visit that enters
    module _ (e : get_or x.round t 0 ≡ 0) (p : Proper rows t) (v : Side → ℕ) (r : (s : Side) → Settles rows x.round k s t (v s)) where
      ready : Ready rows (k - 1) t
      ready = (p, l, λ s f. at s f (r s))
        where
          at : (s : Side) → HasFlag rows t (down s) → {u : ℕ} → Settles rows x.round k s t u → (u : ℕ) × Within rows (k - 1) u × Takes rows s t u
          at s f (child {u} y m) = (u, earlier_within u y.is_code y.entered y.before, y.takes)
          at s f (childless n) = absurd (n f)

      pub enters_here : Smallest rows t k
      enters_here = enters_now rows k t h.running ((ready_within rows k t h.running).1 ready) (λ w. omega (arith, (within_earlier t w).1))

      -- the slices with code t entered
      module _ (y : Slices) (at_t : get_or y.round t 0 ≡ k) (elsewhere : (c : ℕ) → c ≢ t → get_or y.round c 0 ≡ get_or x.round c 0)
          (beside-t : (s : Side) → get_or (recorded y s) t 0 ≡ v s) (beside : (s : Side) (c : ℕ) → c ≢ t → get_or (recorded y s) c 0 ≡ get_or (recorded x s) c 0) where
        -- what is entered now is of no earlier round than anything
        still_earlier : {c w : ℕ} → c ≢ t → Earlier rows x.round c w → Earlier rows y.round c w
        still_earlier {c} {w} n q =
            let b : w ≢ t = λ i. let z : get_or x.round w 0 ≡ 0 = rw i e in omega (arith, q.1) in
            (q.0, rw (elsewhere w b) q.1, rw (elsewhere w b, elsewhere c n) q.2)

        was_earlier : {c w : ℕ} → c < codes rows → c ≢ t → Earlier rows y.round c w → Earlier rows x.round c w
        was_earlier {c} {w} b n q = at (ℕ_discrete w t)
          where
            at : Dec (w ≡ t) → Earlier rows x.round c w
            at (no m) = (q.0, rw (elsewhere w m) at q.1, rw (elsewhere w m, elsewhere c n) at q.2)
            at (yes i) =
                let z : get_or y.round w 0 ≡ k = rw i at_t in
                let m : get_or x.round c 0 ≡ get_or y.round c 0 = sym (elsewhere c n) in
                absurd (omega (arith, q.1, q.2, (entered_there c b (omega (arith, q.2))).1))

        carry : {s : Side} {c u : ℕ} → c < codes rows → c ≢ t → NeighbourIs rows x.round s c u → NeighbourIs rows y.round s c u
        carry b n (smallest q g m) = smallest (still_earlier n q) g (λ w o. m w (was_earlier b n o))
        carry b n (no_child m) = no_child m
        carry {c = c} b n (left_out m) = left_out (elsewhere c n ∙ m)

        now_earlier : {s : Side} {w : ℕ} → Taken rows x.round k s t w → Earlier rows y.round t w
        now_earlier {w = w} z =
            let b : w ≢ t = λ i. let o : get_or x.round w 0 ≡ 0 = rw i e in omega (arith, z.entered) in
            (z.is_code, rw (elsewhere w b) z.entered, rw (elsewhere w b, at_t) z.before)

        now_taken : {s : Side} {w : ℕ} → Earlier rows y.round t w → Takes rows s t w → Taken rows x.round k s t w
        now_taken {w = w} q g =
            let b : w ≢ t = λ i. let o : get_or y.round w 0 ≡ get_or y.round t 0 = rw i refl in omega (arith, q.2) in
            record { is_code = q.0; entered = rw (elsewhere w b) at q.1; before = rw (elsewhere w b, at_t) at q.2; takes = g }

        settled_now : {s : Side} {u : ℕ} → Settles rows x.round k s t u → NeighbourIs rows y.round s t u
        settled_now (child z m) = smallest (now_earlier z) z.takes (λ w o g. m w (now_taken o g))
        settled_now (childless n) = no_child n

        pub enter : Halfway rows k (t + 1) y
        enter = record {
          running = h.running;
          visited = λ c b q. round_at c b (ℕ_discrete c t) q;
          waiting = λ c b q. rw (elsewhere c (omega arith)) (h.waiting c b (omega arith));
          neighbours = λ s c b. neighbour_at s c b (ℕ_discrete c t);
        }
          where
            round_at : (c : ℕ) → c < codes rows → Dec (c ≡ t) → c < t + 1 → RoundIs rows k c (get_or y.round c 0)
            round_at c b (yes i) q = rw (i, at_t) (entered enters_here (omega arith))
            round_at c b (no n) q = rw (elsewhere c n) (h.visited c b (omega arith))

            neighbour_at : (s : Side) (c : ℕ) → c < codes rows → Dec (c ≡ t) → NeighbourIs rows y.round s c (get_or (recorded y s) c 0)
            neighbour_at s c b (yes i) = rw (i, beside-t s) (settled_now (r s))
            neighbour_at s c b (no n) = rw (beside s c n) (carry b n (h.neighbours s c b))
