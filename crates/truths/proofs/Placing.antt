-- The spots while they are filled, one field of one line after another.
use Rattle.std.proofs.Common.{ℕ, ◌+◌, ◌*◌, ◌<◌, ◌≤◌, List, Option, Some, None, ⊎_elim, ◌≡◌, refl, ap, sym, ◌∙◌, length, set, replicate, take, arith}
use Rattle.std.proofs.Math.Decide.{dec_lt}
use Rattle.std.proofs.Math.Nat.{eq-or-lt_of_le}
use Rattle.std.proofs.lemmas.List.{length-set, length-replicate, length-take-le, get_or-take, get_or_past}
use Rattle.meaning.specs.Table.{Side, first, next, Dir, down, up, Table, counted, names}
use Rattle.sheets.specs.Lines.{line_limit, link, line_at}
use Rattle.sheets.specs.Links.{Names, FaultFree}
use Rattle.sheets.specs.Tree.{Near, below_it, above_it}
use Rattle.sheets.specs.declared.Line.{Line}
use Rattle.sheets.proofs.Tree.Naming.{namer_there}
use Rattle.truths.specs.Spots.{alone, spot_at, near, near_at, NearIs, there, nowhere, Spots}
use Rattle.truths.specs.Placing.{Within, with_name, joined, linked, placed}
use Rattle.truths.specs.declared.spots.Spot.{Spot}
use Rattle.truths.proofs.Inside.{near_inside}
use Rattle.truths.proofs.Stores.{Stored, here, elsewhere, store, names_stay, named, named_other, nears_stay}
use Rattle.truths.proofs.Same.{all_same}

-- the fields are numbered from 1 in the order of storing, two for each line
abbrev turn : Side → ℕ → ℕ
turn first p = p * 2 + 1
turn next p = p * 2 + 2

-- the field that a step from p to q goes by
abbrev by : Dir → ℕ → ℕ → ℕ
by (down s) p q = turn s p
by (up s) p q = turn s q

-- `NearIs`, of the first f fields alone
pub data NearSoFar (lines : List Line) (f : ℕ) (d : Dir) (p : ℕ) : Option ℕ → Type 0 where
  so_near : {q : ℕ} → Near lines d p q → by d p q ≤ f → NearSoFar lines f d p (Some q)
  so_none : ((q : ℕ) → Near lines d p q → by d p q ≤ f → ⊥) → NearSoFar lines f d p None

pub record Placing (rows : Table) (lines : List Line) (u f : ℕ) (spots : List Spot) : Type 0 where
  pub long : length spots ≡ line_limit
  pub names : (p : ℕ) → p < u → (spot_at spots p).name ≡ counted rows (line_at lines p).name
  pub nears : (d : Dir) (p : ℕ) → NearSoFar lines f d p (near_at spots d p)

same_turn : (r s : Side) (p u : ℕ) → turn r p ≡ turn s u → (r ≡ s) × (p ≡ u)
same_turn first first p u e = (refl, omega arith)
same_turn first next p u e = absurd (omega arith)
same_turn next first p u e = absurd (omega arith)
same_turn next next p u e = (refl, omega arith)

turned : (s : Side) (p : ℕ) → (p * 2 < turn s p) × (turn s p ≤ p * 2 + 2)
turned first p = (omega arith, omega arith)
turned next p = (omega arith, omega arith)

-- every step is by a field of a line that is there
by_there : {lines : List Line} {d : Dir} {p q : ℕ} → Near lines d p q → (0 < by d p q) × (by d p q ≤ length lines * 2)
by_there (below_it {s = s} {i = i} n) = (omega (arith, turned s i), omega (arith, turned s i, namer_there n))
by_there (above_it {s = s} {j = j} n) = (omega (arith, turned s j), omega (arith, turned s j, namer_there n))

alone_none : (d : Dir) → near alone d ≡ None
alone_none (down first) = refl
alone_none (down next) = refl
alone_none (up first) = refl
alone_none (up next) = refl

module _ {rows : Table} {lines : List Line} where
  pub placing_none : Placing rows lines 0 0 (replicate line_limit alone)
  placing_none = record {
    long = length-replicate line_limit alone;
    names = λ p h. absurd (omega arith);
    nears = λ d p. rw (ap (λ s. near s d) (all_same line_limit p alone) ∙ alone_none d) (so_none (λ q n b. omega (arith, by_there n)));
  }

  -- the name of one line more
  pub name_more : {u f : ℕ} {spots : List Spot} → u < line_limit → Placing rows lines u f spots → Placing rows lines (u + 1) f (set spots u (with_name (counted rows (line_at lines u).name) (spot_at spots u)))
  name_more {u} {f} {spots} h k =
      let v = counted rows (line_at lines u).name in
      let inside : u < length spots = omega (arith, k.long) in
      record {
        long = simp length-set k.long;
        names = λ p g. grind (arith, named spots u v inside, named_other spots u v inside p, k.names p);
        nears = λ d p. rw (nears_stay spots u v inside d p) (k.nears d p);
      }

-- one field more: that of line u at the side s
data ByField (lines : List Line) (s : Side) (u : ℕ) : Dir → ℕ → ℕ → Type 0 where
  going_down : {q : ℕ} → Names lines u s q → ByField lines s u (down s) u q
  going_up : {p : ℕ} → Names lines u s p → ByField lines s u (up s) p u

by_field : {lines : List Line} {s : Side} {u : ℕ} {d : Dir} {p q : ℕ} → Near lines d p q → by d p q ≡ turn s u → ByField lines s u d p q
by_field {s = s} {u = u} (below_it {s = r} {i = i} n) e =
    let b = same_turn r s i u e in
    rw (b.0, b.1) (going_down (rw (b.0, b.1) at n))
by_field {s = s} {u = u} (above_it {s = r} {j = j} n) e =
    let b = same_turn r s j u e in
    rw (b.0, b.1) (going_up (rw (b.0, b.1) at n))

named_as : {lines : List Line} {u : ℕ} {s : Side} {l : Option ℕ} {q : ℕ} → link s (line_at lines u) ≡ l → Names lines u s q → l ≡ Some q
named_as e n = sym e ∙ n.names

-- what no step by the new field changes
so_still : {lines : List Line} {f : ℕ} {d : Dir} {p : ℕ} {v : Option ℕ} → ((q : ℕ) → Near lines d p q → by d p q ≡ f + 1 → ⊥) → NearSoFar lines f d p v → NearSoFar lines (f + 1) d p v
so_still not (so_near n b) = so_near n (omega arith)
so_still {f = f} {d = d} {p = p} not (so_none g) = so_none (λ q n b. ⊎_elim
    (λ (e : by d p q ≡ f + 1). not q n e)
    (λ (l : by d p q < f + 1). g q n (omega arith))
    (eq-or-lt_of_le b))

module _ {lines : List Line} (s : Side) (u f : ℕ) (now-turn : f + 1 ≡ turn s u) (here-line : u < line_limit) where
  -- the field names nothing
  dashed : {rows : Table} {w : ℕ} {spots : List Spot} → link s (line_at lines u) ≡ None → Placing rows lines w f spots → Placing rows lines w (f + 1) spots
  dashed e k = record { long = k.long; names = k.names; nears = λ d p. so_still (λ q n b. not (by_field n (b ∙ now-turn))) (k.nears d p) }
    where
      not : {d : Dir} {p q : ℕ} → ByField lines s u d p q → ⊥
      not (going_down n) = cc (named_as e n)
      not (going_up n) = cc (named_as e n)

  -- the field names line j
  module _ (j : ℕ) (e : link s (line_at lines u) ≡ Some j) where
    this : Names lines u s j
    this = record { names = e }

    elsewhere_else : {d : Dir} {p q : ℕ} → (d ≡ down s → p ≡ u → ⊥) → (d ≡ up s → p ≡ j → ⊥) → ByField lines s u d p q → ⊥
    elsewhere_else a b (going_down n) = a refl refl
    elsewhere_else a b (going_up {p} n) = b refl (let t = named_as e n in cc)

    both_ways : {spots one two : List Spot} {d : Dir} {p : ℕ} → NearSoFar lines f d p (near_at spots d p) → Stored spots (down s) u j one d p → Stored one (up s) j u two d p → NearSoFar lines (f + 1) d p (near_at two d p)
    both_ways k a (here v) = rw v (so_near (above_it this) (omega arith))
    both_ways k (here v) (elsewhere b w) = rw (w, v) (so_near (below_it this) (omega arith))
    both_ways k (elsewhere a v) (elsewhere b w) = rw (w, v) (so_still (λ q n t. elsewhere_else a b (by_field n (t ∙ now-turn))) k)

    stored : {rows : Table} {w : ℕ} {spots : List Spot} → j < line_limit → Placing rows lines w f spots → Placing rows lines w (f + 1) (joined (up s) j u (joined (down s) u j spots))
    stored {spots = spots} room k =
        let one = joined (down s) u j spots in
        let one-long : length one ≡ line_limit = simp length-set k.long in
        let low : u < length spots = omega (arith, k.long) in
        let high : j < length one = omega (arith, one-long) in
        record {
          long = simp length-set k.long;
          names = λ p h. names_stay one (up s) j u high p ∙ (names_stay spots (down s) u j low p ∙ k.names p h);
          nears = λ d p. both_ways (k.nears d p) (store spots (down s) u j low d p) (store one (up s) j u high d p);
        }

  pub link_more : {rows : Table} {w : ℕ} {spots : List Spot} → Within (link s (line_at lines u)) → Placing rows lines w f spots → Placing rows lines w (f + 1) (linked s u (link s (line_at lines u)) spots)
  link_more {rows} {w} {spots} room k = at (link s (line_at lines u)) refl room
    where
      at : (l : Option ℕ) → link s (line_at lines u) ≡ l → Within l → Placing rows lines w (f + 1) (linked s u l spots)
      at None e h = dashed e k
      at (Some j) e h = stored j e h k

module _ {rows : Table} {lines : List Line} where
  -- one line more
  pub line_more : {u : ℕ} {spots : List Spot} → u < line_limit → ((s : Side) → Within (link s (line_at lines u))) → Placing rows lines u (u * 2) spots
      → Placing rows lines (u + 1) ((u + 1) * 2) (placed (names rows) u (line_at lines u) spots)
  unfolding counted
  line_more {u} {spots} h room k =
      let a = link_more first u (u * 2) refl h (room first) (name_more h k) in
      let e : (u + 1) * 2 ≡ u * 2 + 1 + 1 = omega arith in
      rw e (link_more next u (u * 2 + 1) (omega arith) h (room next) a)

  -- all lines are placed
  pub placed_all : {u : ℕ} {spots : List Spot} → FaultFree lines → length lines ≤ line_limit → u ≡ length lines → Placing rows lines u (u * 2) spots → Spots rows lines (take (length lines) spots)
  placed_all {u} {spots} free few e k = record {
    long = length-take-le (length lines) spots (omega (arith, k.long));
    names = λ p h. ap (λ s. s.name) (get_or-take (length lines) spots p alone h) ∙ k.names p (omega arith);
    nears = λ d p. at d p (dec_lt p (length lines));
  }
    where
      is : {d : Dir} {p : ℕ} {v : Option ℕ} → NearSoFar lines (u * 2) d p v → NearIs lines d p v
      is (so_near n b) = there n
      is (so_none g) = nowhere (λ q n. g q n (omega (arith, by_there n)))

      at : (d : Dir) (p : ℕ) → Dec (p < length lines) → NearIs lines d p (near_at (take (length lines) spots) d p)
      at d p (yes h) = rw (ap (λ s. near s d) (get_or-take (length lines) spots p alone h)) (is (k.nears d p))
      at d p (no h) =
          let past : length (take (length lines) spots) ≤ p = omega (arith, length-take-le (length lines) spots) in
          rw (ap (λ s. near s d) (get_or_past (take (length lines) spots) p alone past) ∙ alone_none d) (nowhere (λ q n. h (near_inside free n).0))
