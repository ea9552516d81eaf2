-- A line is read as it is written: what is taken off a text is a row of right form as it is written, and a written row is taken again. So no
-- written row begins another.
use mathlib.Core.Path.{◌≡◌, refl, sym, subst}
use mathlib.Core.List.{List, [], ◌∷◌, ◌++◌, append_assoc}
use mathlib.Core.Bool.{Bool, true, false, cond}
use Prim.Native.Nat.{ℕ}
use native.Mathlib.Omega.{arith}
use lib.ListN.{length, get_or, drop}
use Rattle.std.proofs.lemmas.Grind.{common_steps}
use Rattle.table.specs.declared.Kind.{Kind}
use Rattle.table.specs.declared.Kind.TheVariants as K
use Rattle.table.specs.declared.Row.{Row}
use Rattle.table.specs.declared.Row.TheVariants.{Yes, No, Is, Isnot, Any, All, Go, Stop}
use Rattle.table.specs.Rows.{row_by}
use Rattle.table.specs.Written.{word, fields, written_fields, written, TwoDigits, Writable}
use Rattle.reader.specs.Parts.{taken, fields_in, word_of, fields_of, starts_with, first_of, kinds, word_in, line_in}
use Rattle.reader.proofs.Words.{stands}
use Rattle.reader.proofs.Numbers.{fields_read, fields_taken, then_taken}

kind_of : Row → Kind
kind_of Yes = K.Yes
kind_of No = K.No
kind_of (Is n) = K.Is
kind_of (Isnot n) = K.Isnot
kind_of (Any i j) = K.Any
kind_of (All i j) = K.All
kind_of (Go d i) = K.Go
kind_of (Stop d) = K.Stop

-- a row's word is taken, whatever follows the fields; its fields make the row again
record Shaped (r : Row) : Type 0 where
  word_read : (rest : List ℕ) → word_in (word r ++ (written_fields (fields r) ++ rest)) ≡ taken (kind_of r) (written_fields (fields r) ++ rest)
  many : fields_of (kind_of r) ≡ length (fields r)
  made : row_by (kind_of r) (get_or (fields r) 0 0) (get_or (fields r) 1 0) ≡ r

shaped : (r : Row) → Shaped r
unfolding kind_of first_of starts_with written_fields
shaped Yes = record { word_read = λ rest. refl; many = refl; made = refl }
shaped No = record { word_read = λ rest. refl; many = refl; made = refl }
shaped (Is n) = record { word_read = λ rest. refl; many = refl; made = refl }
shaped (Isnot n) = record { word_read = λ rest. refl; many = refl; made = refl }
shaped (Any i j) = record { word_read = λ rest. refl; many = refl; made = refl }
shaped (All i j) = record { word_read = λ rest. refl; many = refl; made = refl }
shaped (Go d i) = record { word_read = λ rest. refl; many = refl; made = refl }
shaped (Stop d) = record { word_read = λ rest. refl; many = refl; made = refl }

pub line_read : (r : Row) (rest : List ℕ) → Writable r → line_in (written r ++ rest) ≡ taken r rest
unfolding line_in
line_read r rest h =
    let k = shaped r in
    rw (append_assoc (word r) (written_fields (fields r)) rest, k.word_read rest, k.many, fields_read (fields r) rest h, k.made)

-- the other way
word_taken : (ks : List Kind) (s : List ℕ) (k : Kind) (rest : List ℕ) → first_of ks s ≡ taken k rest → s ≡ word_of k ++ rest
unfolding first_of
word_taken [] s k rest e = grind (arith, common_steps)
word_taken (j ∷ ks) s k rest e = at (starts_with s (word_of j)) refl (word_taken ks s k rest) e
  where
    at : (t : Bool) → starts_with s (word_of j) ≡ t → (first_of ks s ≡ taken k rest → s ≡ word_of k ++ rest) → cond t (taken j (drop (length (word_of j)) s)) (first_of ks s) ≡ taken k rest → s ≡ word_of k ++ rest
    at true q f p = cc (stands s (word_of j) q)
    at false q f p = f p

-- fields of a kind's count make a row of the kind
record Made (k : Kind) (ns : List ℕ) : Type 0 where
  same_word : word (row_by k (get_or ns 0 0) (get_or ns 1 0)) ≡ word_of k
  same_fields : fields (row_by k (get_or ns 0 0) (get_or ns 1 0)) ≡ ns

no_field : (ns : List ℕ) → length ns ≡ 0 → [] ≡ ns
no_field [] e = refl
no_field (n ∷ ns) e = grind (arith, common_steps)

one_field : (ns : List ℕ) → length ns ≡ 1 → get_or ns 0 0 ∷ [] ≡ ns
one_field [] e = grind (arith, common_steps)
one_field (n ∷ ns) e = grind (arith, common_steps, no_field ns)

two_fields : (ns : List ℕ) → length ns ≡ 2 → get_or ns 0 0 ∷ (get_or ns 1 0 ∷ []) ≡ ns
two_fields [] e = grind (arith, common_steps)
two_fields (n ∷ ns) e = grind (arith, common_steps, one_field ns)

made : (k : Kind) (ns : List ℕ) → length ns ≡ fields_of k → Made k ns
made K.Yes ns e = record { same_word = refl; same_fields = no_field ns e }
made K.No ns e = record { same_word = refl; same_fields = no_field ns e }
made K.Is ns e = record { same_word = refl; same_fields = one_field ns e }
made K.Isnot ns e = record { same_word = refl; same_fields = one_field ns e }
made K.Any ns e = record { same_word = refl; same_fields = two_fields ns e }
made K.All ns e = record { same_word = refl; same_fields = two_fields ns e }
made K.Go ns e = record { same_word = refl; same_fields = two_fields ns e }
made K.Stop ns e = record { same_word = refl; same_fields = one_field ns e }

pub record LineTaken (s : List ℕ) (r : Row) (rest : List ℕ) : Type 0 where
  pub form : Writable r
  pub split : s ≡ written r ++ rest

pub line_taken : (s : List ℕ) (r : Row) (rest : List ℕ) → line_in s ≡ taken r rest → LineTaken s r rest
unfolding line_in
line_taken s r rest e =
    let t = then_taken (word_in s) _ e in
    let u = then_taken (fields_in (fields_of t.0) t.1) _ t.3 in
    let w = word_taken kinds s t.0 t.1 t.2 in
    let f = fields_taken (fields_of t.0) t.1 u.0 u.1 u.2 in
    let m = made t.0 u.0 f.many in
    let row = row_by t.0 (get_or u.0 0 0) (get_or u.0 1 0) in
    let q : row ≡ r = cc in
    let l : TwoDigits (fields row) = subst TwoDigits (sym m.same_fields) f.small in
    let p : s ≡ written row ++ rest = cc (append_assoc (word row) (written_fields (fields row)) rest) in
    subst (λ (x : Row). LineTaken s x rest) q (record { form = l; split = p })
