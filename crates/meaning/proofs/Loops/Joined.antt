-- Loops without words: the pairs of rows that a cancelling walk joins are those that the four rules of `Joined` give. A walk is cut where its
-- word is, so that a cancelling word takes its walk apart as the word was put together.
use Prim.Native.Nat.{ℕ}
use mathlib.Core.List.{List, [], ◌∷◌, ◌++◌, concat-ne-nil, nil≢cons, cons≢nil, head-eq_of_cons-eq, tail-eq_of_cons-eq}
use mathlib.Core.Logic.{◌↔◌}
use mathlib.Core.Path.{◌≡◌, refl}
use Rattle.meaning.specs.Loop.{Cancels, empty, wrapped, joined, Step, referring, looking, Walk, one, more, Stretch, Joined, by_flat, by_turn, by_wrap, by_join}
use Rattle.meaning.specs.Table.{Dir, converse, Table, row_at, go_row, Refers}
use Rattle.meaning.proofs.Loops.Level.{stay, along, flat_stretch, go_back, join}

module _ {rows : Table} where
  stretch : {i j : ℕ} → Joined rows i j → Stretch rows i j
  stretch (by_flat r) = flat_stretch r
  stretch (by_turn {i = i} k d e f) = go_back i k e stay f
  stretch (by_wrap {i = i} k l d e h f) = go_back i l e (along (stretch h)) f
  stretch (by_join a b) = join (stretch a) (stretch b)

-- a walk cut in two, where one part may have no step
data Cut (rows : Table) (i j : ℕ) (v w : List Dir) : Type 0 where
  late : v ≡ [] → Walk rows i w j → Cut rows i j v w
  early : w ≡ [] → Walk rows i v j → Cut rows i j v w
  between : (k : ℕ) → Walk rows i v k → Walk rows k w j → Cut rows i j v w

-- no step, or joined
data Near (rows : Table) : ℕ → ℕ → Type 0 where
  same : {i : ℕ} → Near rows i i
  far : {i j : ℕ} → Joined rows i j → Near rows i j

-- a walk with one direction
record Single (rows : Table) (i : ℕ) (d : Dir) (j : ℕ) : Type 0 where
  a : ℕ
  b : ℕ
  before : Near rows i a
  go : row_at rows a ≡ go_row d b
  after : Near rows b j

module _ {rows : Table} where
  cut_flat : {i j k : ℕ} {v w : List Dir} → Refers rows i k → Cut rows k j v w → Cut rows i j v w
  cut_flat r (late e h) = late e (more (referring r) h)
  cut_flat r (early e h) = early e (more (referring r) h)
  cut_flat r (between l h g) = between l (more (referring r) h) g

  cut_look : {i : ℕ} (k : ℕ) {j : ℕ} {d : Dir} {v w : List Dir} → row_at rows i ≡ go_row d k → Cut rows k j v w → Cut rows i j (d ∷ v) w
  cut_look {i} k {d = d} r (late e h) = between k (rw e (one (looking r))) h
  cut_look k r (early e h) = early e (more (looking r) h)
  cut_look k r (between l h g) = between l (more (looking r) h) g

  cut_one : {i j : ℕ} {u : List Dir} (v w : List Dir) → Step rows i u j → u ≡ v ++ w → Cut rows i j v w
  cut_one [] w s e = late refl (rw e at (one s))
  cut_one (d ∷ v) w (referring r) e = absurd (nil≢cons e)
  cut_one (d ∷ []) [] (looking g) e = early refl (rw (← (head-eq_of_cons-eq e)) (one (looking g)))
  cut_one (d ∷ []) (x ∷ w) (looking g) e = absurd (nil≢cons (tail-eq_of_cons-eq e))
  cut_one (d ∷ (x ∷ v)) w (looking g) e = absurd (nil≢cons (tail-eq_of_cons-eq e))

  cut_more : {i k j : ℕ} {u u' : List Dir} (v w : List Dir) → Step rows i u k → Walk rows k u' j → ((v' : List Dir) → u' ≡ v' ++ w → Cut rows k j v' w) → u ++ u' ≡ v ++ w → Cut rows i j v w
  cut_more [] w s h ih e = late refl (rw e at (more s h))
  cut_more (d ∷ v) w (referring r) h ih e = cut_flat r (ih (d ∷ v) e)
  cut_more {k = k} (d ∷ v) w (looking g) h ih e = rw (← (head-eq_of_cons-eq e)) (cut_look k g (ih v (tail-eq_of_cons-eq e)))

  cut : {i j : ℕ} {u : List Dir} (v w : List Dir) → Walk rows i u j → u ≡ v ++ w → Cut rows i j v w
  cut v w (one s) e = cut_one v w s e
  cut v w (more s h) e = cut_more v w s h (λ v' f. cut v' w h f) e

  near_joined : {i j k : ℕ} → Near rows i j → Joined rows j k → Joined rows i k
  near_joined same b = b
  near_joined (far a) b = by_join a b

  joined_near : {i j k : ℕ} → Joined rows i j → Near rows j k → Joined rows i k
  joined_near a same = a
  joined_near a (far b) = by_join a b

  near_near : {i j k : ℕ} → Near rows i j → Near rows j k → Near rows i k
  near_near same b = b
  near_near (far a) b = far (joined_near a b)

  wrap : (i k l : ℕ) {j : ℕ} {d : Dir} → row_at rows i ≡ go_row d k → Near rows k l → row_at rows l ≡ go_row (converse d) j → Joined rows i j
  wrap i k l {d = d} e same f = by_turn k d e f
  wrap i k l {d = d} e (far h) f = by_wrap k l d e h f

  level_walk : {i j : ℕ} {u : List Dir} → Walk rows i u j → u ≡ [] → Joined rows i j
  level_walk (one (referring r)) e = by_flat r
  level_walk (one (looking g)) e = absurd (cons≢nil e)
  level_walk (more (referring r) h) e = by_join (by_flat r) (level_walk h e)
  level_walk (more (looking g) h) e = absurd (cons≢nil e)

  single : {i j : ℕ} {u : List Dir} (d : Dir) → Walk rows i u j → u ≡ d ∷ [] → Single rows i d j
  single d (one (referring r)) e = absurd (nil≢cons e)
  single {i} {j} d (one (looking g)) e = record { a = i; b = j; before = same; go = rw (← (head-eq_of_cons-eq e)) g; after = same }
  single d (more (referring r) h) e = let x = single d h e in record { a = x.a; b = x.b; before = near_near (far (by_flat r)) x.before; go = x.go; after = x.after }
  single {i} d (more {j = k} (looking g) h) e = record { a = i; b = k; before = same; go = rw (← (head-eq_of_cons-eq e)) g; after = far (level_walk h (tail-eq_of_cons-eq e)) }

  around : {i j k l : ℕ} {d : Dir} → Single rows i d k → Near rows k l → Single rows l (converse d) j → Joined rows i j
  around x m y = near_joined x.before (joined_near (wrap x.a x.b y.a x.go (near_near x.after (near_near m y.before)) y.go) y.after)

  module _ {w : List Dir} (d : Dir) (inside : (k l : ℕ) → Walk rows k w l → Joined rows k l) where
    inner : {i k j : ℕ} → Single rows i d k → Cut rows k j w (converse d ∷ []) → Joined rows i j
    inner x (late e b) = around x same (single (converse d) b refl)
    inner x (early e b) = absurd (cons≢nil e)
    inner {k = k} x (between l a b) = around x (far (inside k l a)) (single (converse d) b refl)

    outer : {i j : ℕ} → Cut rows i j (d ∷ []) (w ++ (converse d ∷ [])) → Joined rows i j
    outer (late e h) = absurd (cons≢nil e)
    outer (early e h) = absurd (concat-ne-nil (converse d) w e)
    outer (between k a b) = inner (single d a refl) (cut w (converse d ∷ []) b refl)

  halves : {i j : ℕ} {v w : List Dir} → ((k l : ℕ) → Walk rows k v l → Joined rows k l) → ((k l : ℕ) → Walk rows k w l → Joined rows k l) → Cut rows i j v w → Joined rows i j
  halves {i} {j} f g (late e h) = g i j h
  halves {i} {j} f g (early e h) = f i j h
  halves {i} {j} f g (between k a b) = by_join (f i k a) (g k j b)

  cancelled : {w : List Dir} → Cancels w → (i j : ℕ) → Walk rows i w j → Joined rows i j
  cancelled empty i j h = level_walk h refl
  cancelled (wrapped {w = w} d c) i j h = outer d (λ k l x. cancelled c k l x) (cut (d ∷ []) (w ++ (converse d ∷ [])) h refl)
  cancelled (joined {v = v} {w = w} c c') i j h = halves (λ k l x. cancelled c k l x) (λ k l x. cancelled c' k l x) (cut v w h refl)

pub joined_stretch : (rows : Table) (i j : ℕ) → Joined rows i j ↔ Stretch rows i j
joined_stretch rows i j = (stretch, λ s. cancelled s.cancels i j s.walk)
