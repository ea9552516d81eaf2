-- Cancelling walks put together: what the rules of a loop give when they are read from a step outwards.
use Prim.Native.Nat.{ℕ}
use mathlib.Core.List.{List, [], ◌∷◌, ◌++◌, append_assoc}
use mathlib.Core.Path.{◌≡◌}
use Rattle.meaning.specs.Loop.{empty, wrapped, joined, referring, looking, Walk, one, more, Stretch}
use Rattle.meaning.specs.Table.{Dir, converse, Table, row_at, go_row, Refers}

module _ {rows : Table} where
  pub walk_append : {i j k : ℕ} {v w : List Dir} → Walk rows i v j → Walk rows j w k → Walk rows i (v ++ w) k
  walk_append (one s) b = more s b
  walk_append (more s a) b = rw append_assoc (more s (walk_append a b))

  pub join : {i j k : ℕ} → Stretch rows i j → Stretch rows j k → Stretch rows i k
  join a b = record { word = a.word ++ b.word; walk = walk_append a.walk b.walk; cancels = joined a.cancels b.cancels }

-- no step at all, or a cancelling stretch
pub data Level (rows : Table) : ℕ → ℕ → Type 0 where
  stay : {i : ℕ} → Level rows i i
  along : {i j : ℕ} → Stretch rows i j → Level rows i j

module _ {rows : Table} where
  pub flat_stretch : {i j : ℕ} → Refers rows i j → Stretch rows i j
  flat_stretch r = record { word = []; walk = one (referring r); cancels = empty }

  pub go_back : (i : ℕ) {j : ℕ} (k : ℕ) {l : ℕ} {d : Dir} → row_at rows i ≡ go_row d j → Level rows j k → row_at rows k ≡ go_row (converse d) l → Stretch rows i l
  go_back i k {d = d} e stay f = record { word = d ∷ (converse d ∷ []); walk = more (looking e) (one (looking f)); cancels = wrapped d empty }
  go_back i k {d = d} e (along s) f = record { word = d ∷ (s.word ++ (converse d ∷ [])); walk = more (looking e) (walk_append s.walk (one (looking f))); cancels = wrapped d s.cancels }

  pub stretch_then : {i j k : ℕ} → Stretch rows i j → Level rows j k → Stretch rows i k
  stretch_then a stay = a
  stretch_then a (along b) = join a b

  pub level_then : {i j k : ℕ} → Level rows i j → Level rows j k → Level rows i k
  level_then stay b = b
  level_then (along a) b = along (stretch_then a b)
