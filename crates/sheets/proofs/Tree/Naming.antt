-- Which lines name which. A field names one line; on a sheet without a fault it names a greater one that is there, and every line but line 0 is
-- named by one field.
use Prim.Native.Nat.{ℕ, ◌<◌}
use native.Mathlib.Decide.{dec_lt, ℕ_discrete}
use native.Mathlib.Omega.{arith}
use mathlib.Core.List.{List}
use mathlib.Core.Logic.Dec
use mathlib.Core.Path.{◌≡◌, refl, ◌∙◌, ap}
use lib.ListN.{length}
use Rattle.meaning.proofs.Sides.{sides}
use Rattle.meaning.specs.Table.{Side, first, next}
use Rattle.meaning.proofs.Outcome.Met.{some_dec, side_dec}
use Rattle.sheets.specs.Lines.{Link, link, line_at}
use Rattle.sheets.specs.Links.{Names, not_greater, not_there, never_named, named_by_two, named_twice, FaultFree}
use Rattle.sheets.specs.declared.Line.{Line}
use Rattle.std.specs.Prelude.{None, Some}
use Rattle.sheets.proofs.Named.{names_inside}

module _ {lines : List Line} where
  pub names_one : {i j k : ℕ} {s : Side} → Names lines i s j → Names lines i s k → j ≡ k
  names_one a b = cc (a.names, b.names)

  pub namer_there : {i j : ℕ} {s : Side} → Names lines i s j → i < length lines
  namer_there {i} a = names_inside lines i a

  names_dec : (i : ℕ) (s : Side) (j : ℕ) → Dec (Names lines i s j)
  names_dec i s j = at (link s (line_at lines i)) refl
    where
      at : (l : Link) → link s (line_at lines i) ≡ l → Dec (Names lines i s j)
      at None e = no (λ a. cc (e, a.names))
      at (Some k) e = Dec.of_iff (λ (q : k ≡ j). record { names = e ∙ ap Some q }, λ a. cc (e, a.names)) (ℕ_discrete k j)

module _ {lines : List Line} (free : FaultFree lines) where
  pub names_greater : {i j : ℕ} {s : Side} → Names lines i s j → i < j
  names_greater {i} {j} a = (Dec.not-not (dec_lt i j)).0 (λ n. free i (not_greater a (omega arith)))

  pub named_there : {i j : ℕ} {s : Side} → Names lines i s j → j < length lines
  named_there {i} {j} a = (Dec.not-not (dec_lt j (length lines))).0 (λ n. free i (not_there a (omega arith)))

  pub namer : (j : ℕ) → 0 < j → j < length lines → (i : ℕ) × (s : Side) × Names lines i s j
  namer j p l =
      let found = some_dec (λ i. (s : Side) × Names lines i s j) j (λ i h. side_dec (λ s. Names lines i s j) (λ s. names_dec i s j)) in
      let x = (Dec.not-not found).0 (λ n. free j (never_named p l (λ i s a. n (i, names_greater a, (s, a))))) in
      (x.0, x.2.0, x.2.1)

  pub namer_one : {i j k : ℕ} {s r : Side} → Names lines i s k → Names lines j r k → i ≡ j
  namer_one {i} {j} {k} a b = (Dec.not-not (ℕ_discrete i j)).0 (λ n. free k (named_by_two (omega (arith, names_greater a)) (named_there a) a b n))

  pub side_one : {i k : ℕ} {s r : Side} → Names lines i s k → Names lines i r k → s ≡ r
  side_one {i} {k} {s} {r} a b = at s r a b
    where
      twice : Names lines i first k → Names lines i next k → ⊥
      twice f n = free k (named_twice (omega (arith, names_greater f)) (named_there f) {k = i} (sides _ f n))

      at : (s r : Side) → Names lines i s k → Names lines i r k → s ≡ r
      at first first a b = refl
      at first next a b = absurd (twice a b)
      at next first a b = absurd (twice b a)
      at next next a b = refl
