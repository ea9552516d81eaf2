-- What is asked of codes' truths and kept, by the look rows that ask for it.
use Rattle.std.specs.Prelude.{ℕ, Bool, List}
use Rattle.table.specs.Rows.{table_in}
use Rattle.codes.specs.Sights.{Sees, Sights, subject, sight_by}
use Rattle.codes.specs.declared.looks.Looks.{Looks}

abbrev pub SeesIn : Looks → ℕ → ℕ → Type 0
SeesIn l code sight = Sees (table_in l.rows.now) l.look.now l.parts.m code sight

abbrev pub SightsIn : Looks → List ℕ → Type 0
SightsIn l sights = Sights (table_in l.rows.now) l.look.now l.parts.m sights

abbrev pub subject_in : Looks → ℕ → ℕ
subject_in l j = subject l.rows.now l.look.now l.parts.m j

abbrev pub sight_in : Looks → List Bool → ℕ
sight_in l truths = sight_by l.rows.now l.look.now l.parts.m truths
