-- Laws of `cleared` and `Kept`: what stands below c and from c on.
use Prim.Native.Nat.{ℕ, ◌+◌, ◌-◌, ◌<◌, ◌≤◌}
use native.Mathlib.Omega.{arith}
use mathlib.Core.List.{List}
use mathlib.Core.Path.{◌≡◌, refl, ap, ◌∙◌}
use lib.ListN.{get_or, length, set, replicate, drop, length-append, length-replicate, length-drop, length-set, get_or-replicate, get_or-append}
use lib.Seq.{get_or-append-add, get_or-drop, get_or-set_other}
use Rattle.meaning.specs.Outcome.{Slices}
use Rattle.rounds.specs.Kept.{cleared, lent, SameLent, Kept, KeptAll}
use Rattle.rounds.specs.declared.lent.Lent.{Lent}

module _ (v c : ℕ) (old : List ℕ) where
  pub cleared-below : (i : ℕ) → i < c → get_or (cleared v c old) i 0 ≡ v
  cleared-below i h = get_or-append (replicate c v) (drop c old) 0 i (rw length-replicate h) ∙ get_or-replicate c i v 0 h

  cleared_kept : c ≤ length old → Kept c old (cleared v c old)
  cleared_kept l = record {
    same_length = simp (length-append, length-replicate, length-drop) (omega arith);
    beyond = λ i h. let e : i ≡ length (replicate c v) + (i - c) = rw length-replicate (omega arith) in let f : c + (i - c) ≡ i = omega arith in
        ap (λ (z : ℕ). get_or (cleared v c old) z 0) e ∙ get_or-append-add (replicate c v) (drop c old) (i - c) 0 ∙ get_or-drop c old (i - c) 0 ∙ ap (λ (z : ℕ). get_or old z 0) f;
  }

module _ {c : ℕ} where
  pub kept_cleared : (v : ℕ) {old new : List ℕ} → new ≡ cleared v c old → c ≤ length old → Kept c old new
  kept_cleared v {old} e l = rw e (cleared_kept v c old l)

  pub kept_same : {old : List ℕ} → Kept c old old
  kept_same = record { same_length = refl; beyond = λ i h. refl }

  pub kept_then : {a b d : List ℕ} → Kept c a b → Kept c b d → Kept c a d
  kept_then p q = record { same_length = q.same_length ∙ p.same_length; beyond = λ i h. q.beyond i h ∙ p.beyond i h }

  pub kept_store : (old : List ℕ) (i v : ℕ) → i < c → Kept c old (set old i v)
  kept_store old i v h = record { same_length = simp length-set; beyond = λ j l. get_or-set_other old i j v 0 (omega arith) }

-- all four slices at once
module _ {c : ℕ} where
  pub all_kept : {r f n u r' f' n' u' : List ℕ} → Kept c r r' → Kept c f f' → Kept c n n' → Kept c u u' → KeptAll c (lent r f n u) (lent r' f' n' u')
  all_kept a b d e = record { kept_round = a; kept_first = b; kept_next = d; kept_used = e }

  pub all_same : {x : Slices} → KeptAll c x x
  all_same = record { kept_round = kept_same; kept_first = kept_same; kept_next = kept_same; kept_used = kept_same }

  pub all_then : {x y z : Slices} → KeptAll c x y → KeptAll c y z → KeptAll c x z
  all_then p q = record {
    kept_round = kept_then p.kept_round q.kept_round;
    kept_first = kept_then p.kept_first q.kept_first;
    kept_next = kept_then p.kept_next q.kept_next;
    kept_used = kept_then p.kept_used q.kept_used;
  }

-- the same memory
pub same_then : {a b d : Lent} → SameLent a b → SameLent b d → SameLent a d
same_then p q = record {
  same_round = q.same_round ∙ p.same_round;
  same_first = q.same_first ∙ p.same_first;
  same_next = q.same_next ∙ p.same_next;
  same_codes = q.same_codes ∙ p.same_codes;
}

pub still : {m : Lent} → SameLent m m
still = record { same_round = refl; same_first = refl; same_next = refl; same_codes = refl }
