-- Sheets as a kind of line, and what reading a sheet's text gives as one of the ends of a scan.
use mathlib.Core.Path.{◌≡◌, refl, subst}
use mathlib.Core.List.{List, [], ◌∷◌, ◌++◌}
use Prim.Native.Nat.{ℕ}
use native.Mathlib.Omega.{arith}
use Rattle.std.specs.Prelude.{Ok, Err}
use Rattle.reader.specs.Parts.{taken, nothing}
use Rattle.reader.specs.Reading.{Begins}
use Rattle.reader.proofs.Scan.{Kind, reading}
use Rattle.reader.proofs.Settled as settled
use Rattle.reader.proofs.Settled.{Ends, ends}
use Rattle.reader.proofs.Turns.{Turn, empty_text, first_turn, at_end, at_full, at_wrong, next_turn}
use Rattle.sheets.specs.declared.Line.{Line}
use Rattle.sheets.specs.declared.Sheet.{Sheet}
use Rattle.table.specs.declared.refusal.Refusal.TheVariants.{MalformedLine}
use Rattle.sheets.specs.Lines.{line_limit, Right, lines_of, Extended}
use Rattle.sheets.specs.Written.{written, written_lines}
use Rattle.sheets.specs.Parts.{line_in}
use Rattle.sheets.specs.Reading.{Reading, lines_read, refused, AllRight, none, more, Reads, empty, malformed, too_many, read, Answers}
use Rattle.sheets.proofs.Written.{line_read, line_taken}

pub no_line_in : line_in [] ≡ nothing
unfolding line_in
no_line_in = refl

pub no_lines : written_lines [] ≡ []
unfolding written_lines
no_lines = refl

pub more_lines : (l : Line) (lines : List Line) → written_lines (l ∷ lines) ≡ written l ++ written_lines lines
unfolding written_lines
more_lines l lines = refl

pub right_each : (l : Line) (lines : List Line) → AllRight (l ∷ lines) → Right l × Unit {0} × AllRight lines
right_each l lines (more r a) = (r, tt, a)

-- a name above 15 is a fault of form, so every line of right form exists
abbrev pub sheets : Kind Line Reading
sheets =
    record {
      all = lines_read;
      refused = refused;
      no_line = 9;
      wrong_line = 9;
      further_line = 9;
      no_item = 9;
      limit = line_limit;
      written = written;
      Right = Right;
      Exists = λ _. Unit {0};
      decide = λ _. yes tt;
      line_in = line_in;
      nothing_in = no_line_in;
      line_read = line_read;
      line_taken = line_taken;
      whole = written_lines;
      whole_none = no_lines;
      whole_more = more_lines;
      Sound = AllRight;
      sound_none = none;
      sound_more = λ l lines r _ a. more r a;
      sound_each = right_each;
    }

-- the ends of a scan are the readings of a sheet
reads_of : {text : List ℕ} {a : Reading} → Ends sheets text a → Reads text a
reads_of (settled.empty e) = empty e
reads_of (settled.malformed lines rest b h r m) = malformed lines rest (record { right = b.sound; split = b.split }) h r (record { no_line = m.none_there })
reads_of (settled.too_many lines rest b h r) = too_many lines rest (record { right = b.sound; split = b.split }) h r
reads_of (settled.not_there lines l end b h w n) = absurd (n tt)
reads_of (settled.read lines b l h) = read lines (record { right = b.sound; split = b.split }) l h

ends_of : {text : List ℕ} {a : Reading} → Reads text a → Ends sheets text a
ends_of (empty e) = settled.empty e
ends_of (malformed lines rest b h r m) = settled.malformed lines rest (record { sound = b.right; split = b.split }) h r (record { none_there = m.no_line })
ends_of (too_many lines rest b h r) = settled.too_many lines rest (record { sound = b.right; split = b.split }) h r
ends_of (read lines b l h) = settled.read lines (record { sound = b.right; split = b.split }) l h

pub reads : (text : List ℕ) → Reads text (reading sheets text)
reads text = reads_of (ends sheets text)

pub only : {text : List ℕ} {a : Reading} → Reads text a → a ≡ reading sheets text
only r = settled.only sheets (ends_of r)

-- the answers of `read_text`
module _ {text : List ℕ} where
  answers : {a : Reading} → reading sheets text ≡ a → Reads text a
  answers e = subst (λ (a : Reading). Reads text a) e (reads text)

  pub empty_refused : text ≡ [] → Answers text (Err (MalformedLine 0))
  empty_refused e = record { reads = answers (empty_text sheets e); counted = tt }

  module _ {n : ℕ} {lines : List Line} {rest : List ℕ} (u : Turn sheets text n lines rest) where
    pub further_refused : Begins rest → n ≡ line_limit → Answers text (Err (MalformedLine line_limit))
    further_refused h e = record { reads = answers (at_full u h e); counted = tt }

    pub form_refused : Begins rest → (n ≡ line_limit → ⊥) → line_in rest ≡ nothing → Answers text (Err (MalformedLine n))
    form_refused h m e = record { reads = answers (at_wrong u h m e); counted = tt }

  -- the loop has the sheet whose lines they are
  module _ {s : Sheet} {rest : List ℕ} (u : Turn sheets text s.lines.len (lines_of s) rest) where
    pub line_added : {l : Line} {next : List ℕ} {longer : Sheet} → Extended s l longer → Begins rest → (s.lines.len ≡ line_limit → ⊥) → line_in rest ≡ taken l next → Turn sheets text longer.lines.len (lines_of longer) next
    line_added f h m e = next_turn u h m e (f.more (omega (arith, u.few, m))) tt

    pub sheet_read : rest ≡ [] → Answers text (Ok s)
    sheet_read e = record { reads = answers (at_end u e); counted = (u.counted, u.few) }

-- what the proof of `read_text` uses
pub ruleset steps = (first_turn, empty_refused, further_refused, form_refused, sheet_read)
