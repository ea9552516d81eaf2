-- Tables as a kind of line: rows, the numbers of 01, and what reading a table's text gives as one of the ends of a scan.
use mathlib.Core.Path.{◌≡◌, refl, subst}
use mathlib.Core.List.{List, [], ◌∷◌, ◌++◌}
use Prim.Native.Nat.{ℕ, ◌≤◌}
use native.Mathlib.Decide.{dec_le}
use native.Mathlib.Omega.{arith}
use Rattle.std.specs.Prelude.{Ok, Err}
use Rattle.meaning.specs.Table.{row_limit}
use Rattle.table.specs.declared.Row.{Row}
use Rattle.table.specs.declared.Row.TheVariants.{Yes, No, Is, Isnot, Any, All, Go, Stop}
use Rattle.table.specs.declared.Table.{Table}
use Rattle.table.specs.declared.refusal.Refusal.TheVariants.{Empty, Malformed, TooMany, NotThere}
use Rattle.table.specs.Rows.{rows_of, Extended}
use Rattle.table.specs.Written.{written, written_rows, Writable, Direction, Exists}
use Rattle.reader.specs.Parts.{taken, nothing, line_in, first_of, starts_with}
use Rattle.reader.specs.Reading.{Reading, rows_read, refused, Sound, none, more, Begins, Reads, empty, malformed, too_many, not_there, read, Answers}
use Rattle.reader.proofs.Written.{line_read, line_taken}
use Rattle.reader.proofs.Scan.{Kind, reading}
use Rattle.reader.proofs.Settled as settled
use Rattle.reader.proofs.Settled.{Ends, ends}
use Rattle.reader.proofs.Turns.{Turn, empty_text, first_turn, at_end, at_full, at_wrong, at_not_there, next_turn}

dec_direction : (d : ℕ) → Dec (Direction d)
dec_direction d = both (dec_le 1 d) (dec_le d 4)
  where
    both : Dec (1 ≤ d) → Dec (d ≤ 4) → Dec (Direction d)
    both (yes p) (yes q) = yes (p, q)
    both (yes p) (no q) = no (λ h. q h.1)
    both (no p) b = no (λ h. p h.0)

pub dec_exists : (r : Row) → Dec (Exists r)
dec_exists Yes = yes tt
dec_exists No = yes tt
dec_exists (Is n) = dec_le n 15
dec_exists (Isnot n) = dec_le n 15
dec_exists (Any i j) = yes tt
dec_exists (All i j) = yes tt
dec_exists (Go d i) = dec_direction d
dec_exists (Stop d) = dec_direction d

pub no_row_in : line_in [] ≡ nothing
unfolding line_in first_of starts_with
no_row_in = refl

pub no_rows : written_rows [] ≡ []
unfolding written_rows
no_rows = refl

pub more_rows : (r : Row) (rows : List Row) → written_rows (r ∷ rows) ≡ written r ++ written_rows rows
unfolding written_rows
more_rows r rows = refl

pub sound_each : (r : Row) (rows : List Row) → Sound (r ∷ rows) → Writable r × Exists r × Sound rows
sound_each r rows (more w e s) = (w, e, s)

abbrev pub tables : Kind Row Reading
tables =
    record {
      all = rows_read;
      refused = refused;
      no_line = 1;
      wrong_line = 2;
      further_line = 3;
      no_item = 4;
      limit = row_limit;
      written = written;
      Right = Writable;
      Exists = Exists;
      decide = dec_exists;
      line_in = line_in;
      nothing_in = no_row_in;
      line_read = line_read;
      line_taken = λ s r rest e. let l = line_taken s r rest e in (l.form, l.split);
      whole = written_rows;
      whole_none = no_rows;
      whole_more = more_rows;
      Sound = Sound;
      sound_none = none;
      sound_more = λ r rows w e s. more w e s;
      sound_each = sound_each;
    }

-- the ends of a scan are the readings of 01
reads_of : {text : List ℕ} {a : Reading} → Ends tables text a → Reads text a
reads_of (settled.empty e) = empty e
reads_of (settled.malformed rows rest b h r m) = malformed rows rest (record { sound = b.sound; split = b.split }) h r (record { no_row = m.none_there })
reads_of (settled.too_many rows rest b h r) = too_many rows rest (record { sound = b.sound; split = b.split }) h r
reads_of (settled.not_there rows r end b h w n) = not_there rows r end (record { sound = b.sound; split = b.split }) h w n
reads_of (settled.read rows b l h) = read rows (record { sound = b.sound; split = b.split }) l h

ends_of : {text : List ℕ} {a : Reading} → Reads text a → Ends tables text a
ends_of (empty e) = settled.empty e
ends_of (malformed rows rest b h r m) = settled.malformed rows rest (record { sound = b.sound; split = b.split }) h r (record { none_there = m.no_row })
ends_of (too_many rows rest b h r) = settled.too_many rows rest (record { sound = b.sound; split = b.split }) h r
ends_of (not_there rows r end b h w n) = settled.not_there rows r end (record { sound = b.sound; split = b.split }) h w n
ends_of (read rows b l h) = settled.read rows (record { sound = b.sound; split = b.split }) l h

pub reads : (text : List ℕ) → Reads text (reading tables text)
reads text = reads_of (ends tables text)

pub only : {text : List ℕ} {a : Reading} → Reads text a → a ≡ reading tables text
only r = settled.only tables (ends_of r)

-- the answers of `read_text`
module _ {text : List ℕ} where
  answers : {a : Reading} → reading tables text ≡ a → Reads text a
  answers e = subst (λ (a : Reading). Reads text a) e (reads text)

  pub empty_refused : text ≡ [] → Answers text (Err Empty)
  empty_refused e = record { reads = answers (empty_text tables e); counted = tt }

  module _ {n : ℕ} {rows : List Row} {rest : List ℕ} (u : Turn tables text n rows rest) where
    pub further_refused : Begins rest → n ≡ row_limit → Answers text (Err TooMany)
    further_refused h e = record { reads = answers (at_full u h e); counted = tt }

    pub form_refused : Begins rest → (n ≡ row_limit → ⊥) → line_in rest ≡ nothing → Answers text (Err (Malformed n))
    form_refused h m e = record { reads = answers (at_wrong u h m e); counted = tt }

    pub row_refused : {r : Row} {next : List ℕ} → Begins rest → (n ≡ row_limit → ⊥) → line_in rest ≡ taken r next → (Exists r → ⊥) → Answers text (Err (NotThere n))
    row_refused h m e x = record { reads = answers (at_not_there u h m e x); counted = tt }

  -- the loop has the table whose rows they are
  module _ {t : Table} {rest : List ℕ} (u : Turn tables text t.rows.len (rows_of t) rest) where
    pub row_added : {r : Row} {next : List ℕ} {longer : Table} → Extended t r longer → Begins rest → (t.rows.len ≡ row_limit → ⊥) → line_in rest ≡ taken r next → Exists r → Turn tables text longer.rows.len (rows_of longer) next
    row_added f h m e x = next_turn u h m e (f.more (omega (arith, u.few, m))) x

    pub table_read : rest ≡ [] → Answers text (Ok t)
    table_read e = record { reads = answers (at_end u e); counted = u.counted }

-- what the proof of `read_text` uses
pub ruleset steps = (first_turn, empty_refused, further_refused, form_refused, row_refused, table_read)
