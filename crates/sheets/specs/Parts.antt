-- What the readers of one line of a sheet take off the front of a text, part by part. Only contracts inside this crate cite it; what a whole
-- text gives is said in Reading without it.
use Rattle.std.specs.Prelude.{ℕ, cond, List, leb, ltb, Some, None}
use Rattle.table.specs.Written.{tab, line_feed}
use Rattle.reader.specs.Parts.{Taken, taken, nothing, ◌then◌, byte_in, second, number_in}
use Rattle.sheets.specs.Lines.{Link}
use Rattle.sheets.specs.declared.Line.{Line}

-- The first where it took something, else the second.
infixl 20 ◌or◌
abbrev pub ◌or◌ : {A : Type 0} → Taken A → Taken A → Taken A
taken a rest or t = taken a rest
nothing or t = t

-- One or two digits, and after two perhaps a third.
abbrev pub third : ℕ → List ℕ → Taken Link
third n s = cond (ltb n 10) (taken n s) (second n s) then (λ k rest. taken (Some k) rest)

abbrev pub to_in : List ℕ → Taken Link
to_in s = number_in s then third

abbrev pub link_in : List ℕ → Taken Link
link_in s = (byte_in 45 s then (λ _ rest. taken None rest)) or to_in s

-- A tab and a link.
abbrev pub field_in : List ℕ → Taken Link
field_in s = byte_in tab s then (λ _ rest. link_in rest)

abbrev pub name_in : List ℕ → Taken ℕ
name_in s = number_in s then (λ n rest. cond (leb n 15) (taken n rest) nothing)

-- A whole line.
unfoldable pub line_in : List ℕ → Taken Line
line_in s =
    name_in s then
    (λ n a. field_in a then (λ x b. field_in b then (λ y c. byte_in line_feed c then (λ _ end. taken (record { name = n; first = x; next = y }) end))))
