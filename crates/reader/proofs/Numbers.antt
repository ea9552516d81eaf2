-- A number is read as it is written: what is taken off a text is a number below 100 as it is written, and a written number is taken again.
use mathlib.Core.Path.{◌≡◌, refl, ap, subst}
use mathlib.Core.List.{List, [], ◌∷◌, ◌++◌, append_assoc}
use mathlib.Core.Bool.{true}
use Prim.Native.Nat.{ℕ, zero, suc, ◌+◌, ◌*◌, ◌<◌, ◌≤◌, ◌-◌}
use native.Mathlib.Omega.{arith}
use borrow.Author.Tests.{ne_eqb}
use lib.ListN.{length}
use Rattle.std.proofs.lemmas.Grind.{common_steps}
use Rattle.table.specs.Written.{tab, line_feed, decimal, written_fields, TwoDigits}
use Rattle.reader.specs.Parts.{Taken, taken, nothing, ◌then◌, byte_in, digit, second, first, number_in, field_in, fields_in}

-- a byte and whether it is a digit
pub digit_is : (x : ℕ) → 48 ≤ x → x ≤ 57 → digit x ≡ true
digit_is x l h = grind (arith, common_steps)

pub digit_fits : (x : ℕ) → digit x ≡ true → (48 ≤ x) × (x ≤ 57)
digit_fits x e = grind (arith, common_steps)

pub first-digit : (x : ℕ) (s : List ℕ) → (x ≡ 48 → ⊥) → digit x ≡ true → first x s ≡ second (x - 48) s
first-digit x s n d = rw (d, ne_eqb x 48 n)

pub second-digit : (x : ℕ) (s : List ℕ) (n : ℕ) → digit x ≡ true → second n (x ∷ s) ≡ taken (n * 10 + (x - 48)) s
second-digit x s n d = rw d

-- a written number; behind one digit, the rest takes no further one
pub number_read : (n : ℕ) (rest : List ℕ) → n < 100 → (n < 10 → (m : ℕ) → second m rest ≡ taken m rest) → number_in (decimal n ++ rest) ≡ taken n rest
unfolding decimal
number_read n rest h f = grind (arith, common_steps)

-- what is taken is a number as it is written
pub number_taken : (s : List ℕ) (n : ℕ) (rest : List ℕ) → number_in s ≡ taken n rest → (s ≡ decimal n ++ rest) × (n < 100)
unfolding decimal
number_taken [] n rest e = grind (arith, common_steps)
number_taken (x ∷ s) n rest e = grind (arith, common_steps)

-- no digit stands where the fields of a line go on
goes_on : (ns rest : List ℕ) (m : ℕ) → second m (written_fields ns ++ rest) ≡ taken m (written_fields ns ++ rest)
unfolding written_fields
goes_on [] rest m = refl
goes_on (n ∷ ns) rest m = refl

pub fields_read : (ns rest : List ℕ) → TwoDigits ns → fields_in (length ns) (written_fields ns ++ rest) ≡ taken ns rest
unfolding fields_in written_fields
fields_read [] rest h = refl
fields_read (n ∷ ns) rest h =
    rw (append_assoc, number_read n (written_fields ns ++ rest) h.0 (λ l. goes_on ns rest), fields_read ns rest h.1)

-- what a step took, where the steps after it took something
pub then_taken : {A B : Type 0} {b : B} {rest : List ℕ} (t : Taken A) (f : A → List ℕ → Taken B) → (t then f) ≡ taken b rest → (a : A) × (s : List ℕ) × (t ≡ taken a s) × (f a s ≡ taken b rest)
then_taken (taken a s) f e = (a, s, refl, e)
then_taken nothing f e = grind (arith, common_steps)

pub byte_taken : (b : ℕ) (s : List ℕ) (n : ℕ) (rest : List ℕ) → byte_in b s ≡ taken n rest → s ≡ b ∷ rest
byte_taken b [] n rest e = grind (arith, common_steps)
byte_taken b (x ∷ s) n rest e = grind (arith, common_steps)

pub record FieldsTaken (k : ℕ) (s ns rest : List ℕ) : Type 0 where
  pub many : length ns ≡ k
  pub small : TwoDigits ns
  pub split : s ≡ written_fields ns ++ rest

pub fields_taken : (k : ℕ) (s ns rest : List ℕ) → fields_in k s ≡ taken ns rest → FieldsTaken k s ns rest
unfolding fields_in written_fields
fields_taken zero s ns rest e =
    let t = then_taken (byte_in line_feed s) _ e in
    let p : s ≡ line_feed ∷ t.1 = byte_taken line_feed s t.0 t.1 t.2 in
    let q : [] ≡ ns = cc in
    let w : s ≡ line_feed ∷ rest = cc in
    subst (λ (l : List ℕ). FieldsTaken 0 s l rest) q (record { many = refl; small = tt; split = w })
fields_taken (suc k) s ns rest e =
    let t = then_taken (field_in s) _ e in
    let u = then_taken (fields_in k t.1) _ t.3 in
    let b = then_taken (byte_in tab s) _ t.2 in
    let p = byte_taken tab s b.0 b.1 b.2 in
    let n = number_taken b.1 t.0 t.1 b.3 in
    let m = fields_taken k t.1 u.0 u.1 u.2 in
    let q : t.0 ∷ u.0 ≡ ns = cc in
    let w : s ≡ written_fields (t.0 ∷ u.0) ++ rest = cc (append_assoc (decimal t.0) (written_fields u.0) rest) in
    subst (λ (l : List ℕ). FieldsTaken (suc k) s l rest) q (record { many = ap suc m.many; small = (n.1, m.small); split = w })
