-- Keeping sights: none at first, and one more at a time.
use Prim.Native.Nat.{ℕ, ◌<◌, ◌≤◌}
use native.Mathlib.Decide.{ℕ_discrete}
use mathlib.Core.List.{List}
use mathlib.Core.Logic.{◌≢◌}
use mathlib.Core.Path.{◌≡◌}
use lib.ListN.{get_or, length, set, take, replicate, length-replicate, length-set, get_or-replicate}
use Rattle.std.proofs.lemmas.List.{take-replicate}
use lib.Seq.{get_or-set_same, get_or-set_other}
use Rattle.codes.specs.Sights.{unseen, Sees, Sights}
use Rattle.meaning.specs.Table.{Table}

module _ {rows : Table} {look : List ℕ} {m : ℕ} where
  pub none_kept : (k n : ℕ) → k ≤ n → Sights rows look m (take k (replicate n unseen))
  none_kept k n l = rw (take-replicate k n unseen l)
      (record { each = λ u b h. absurd (h (get_or-replicate k u unseen 0 (simp length-replicate at b))) })

  pub one_kept : {sights : List ℕ} → Sights rows look m sights → (u v : ℕ) → u < length sights → Sees rows look m u v → Sights rows look m (set sights u v)
  one_kept {sights} s u v inside x = record { each = λ w l h. at w (simp length-set at l) h (ℕ_discrete w u) }
    where
      at : (w : ℕ) → w < length sights → get_or (set sights u v) w 0 ≢ unseen → Dec (w ≡ u) → Sees rows look m w (get_or (set sights u v) w 0)
      at w l h (yes e) = rw (e, get_or-set_same sights u v 0 inside) x
      at w l h (no d) = rw (get_or-set_other sights u w v 0 d) (s.each w l (rw (get_or-set_other sights u w v 0 d) at h))
