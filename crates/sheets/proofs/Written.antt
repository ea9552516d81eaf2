-- A line is read as it is written: what is taken off a text is a line of right form as it is written, and a written line is taken again.
use mathlib.Core.Path.{◌≡◌, refl, subst}
use mathlib.Core.List.{List, [], ◌∷◌, ◌++◌, append_assoc}
use mathlib.Core.Bool.{Bool, true, false, cond}
use Prim.Native.Nat.{ℕ, ◌≤◌}
use native.Mathlib.Omega.{arith}
use lib.Dec.{leb}
use borrow.Author.Tests.{leb-true, le-leb}
use Rattle.meaning.specs.Table.{Side, first, next}
use Rattle.table.specs.Written.{tab, line_feed, decimal}
use Rattle.reader.specs.Parts.{taken, nothing, byte_in, number_in}
use Rattle.reader.proofs.Numbers.{number_read, number_taken, then_taken, byte_taken}
use Rattle.sheets.specs.declared.Line.{Line}
use Rattle.sheets.specs.Lines.{link, Linkable, Right}
use Rattle.sheets.specs.Written.{written_link, written}
use Rattle.sheets.specs.Parts.{name_in, field_in, line_in}
use Rattle.sheets.proofs.Numerals.{link_read, field_taken}

-- a line and what follows it, part by part
parts : (l : Line) (rest : List ℕ)
    → written l ++ rest ≡ decimal l.name ++ (tab ∷ (written_link l.first ++ (tab ∷ (written_link l.next ++ (line_feed ∷ rest)))))
unfolding written
parts l rest =
    rw (
      append_assoc (decimal l.name) (tab ∷ (written_link l.first ++ (tab ∷ (written_link l.next ++ (line_feed ∷ []))))) rest,
      append_assoc (written_link l.first) (tab ∷ (written_link l.next ++ (line_feed ∷ []))) rest,
      append_assoc (written_link l.next) (line_feed ∷ []) rest,
    )

pub line_read : (l : Line) (rest : List ℕ) → Right l → line_in (written l ++ rest) ≡ taken l rest
unfolding line_in
line_read l rest r =
    let end = line_feed ∷ rest in
    let b = tab ∷ (written_link l.next ++ end) in
    let a = tab ∷ (written_link l.first ++ b) in
    rw (
      parts l rest,
      number_read l.name a (omega (arith, r.name_there)) (λ _ m. refl),
      le-leb l.name 15 r.name_there,
      link_read l.first b (r.short first) (λ m. refl),
      link_read l.next end (r.short next) (λ m. refl),
    )

name_taken : (s : List ℕ) (n : ℕ) (rest : List ℕ) → name_in s ≡ taken n rest → (n ≤ 15) × (s ≡ decimal n ++ rest)
name_taken s n rest e =
    let t = then_taken (number_in s) _ e in
    at t.0 t.1 (number_taken s t.0 t.1 t.2).0 (leb t.0 15) refl t.3
  where
    at : (m : ℕ) (r : List ℕ) → s ≡ decimal m ++ r → (b : Bool) → leb m 15 ≡ b → cond b (taken m r) nothing ≡ taken n rest → (n ≤ 15) × (s ≡ decimal n ++ rest)
    at m r w true h p =
        let q : m ≡ n = cc in
        let z : r ≡ rest = cc in
        (subst (λ (j : ℕ). j ≤ 15) q (leb-true m 15 h), cc)
    at m r w false h p = cc

both : (l : Line) → Linkable l.first → Linkable l.next → (s : Side) → Linkable (link s l)
both l f g first = f
both l f g next = g

pub line_taken : (s : List ℕ) (l : Line) (rest : List ℕ) → line_in s ≡ taken l rest → Right l × (s ≡ written l ++ rest)
unfolding line_in
line_taken s l rest e =
    let t = then_taken (name_in s) _ e in
    let u = then_taken (field_in t.1) _ t.3 in
    let w = then_taken (field_in u.1) _ u.3 in
    let z = then_taken (byte_in line_feed w.1) _ w.3 in
    let n = name_taken s t.0 t.1 t.2 in
    let f = field_taken t.1 u.0 u.1 u.2 in
    let g = field_taken u.1 w.0 w.1 w.2 in
    let b : w.1 ≡ line_feed ∷ z.1 = byte_taken line_feed w.1 z.0 z.1 z.2 in
    let line : Line = record { name = t.0; first = u.0; next = w.0 } in
    let q : line ≡ l = cc in
    let p : s ≡ written line ++ rest = cc (parts line rest) in
    subst (λ (x : Line). Right x × (s ≡ written x ++ rest)) q (record { name_there = n.0; short = both line f.0 g.0 }, p)
