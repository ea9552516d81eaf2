-- What the readers of one line take off the front of a text, part by part. What a whole text gives is said in Reading without it.
use Rattle.std.specs.Prelude.{ℕ, zero, suc, ◌+◌, ◌-◌, ◌*◌, Bool, true, false, cond, List, [], ◌∷◌, ◌≡◌, eqb, leb, length, get_or, drop, Option, MatchOption}
use Rattle.table.specs.declared.Kind.{Kind}
use Rattle.table.specs.declared.Kind.TheVariants.{Yes, No, Is, Isnot, Any, All, Go, Stop}
use Rattle.table.specs.declared.Row.{Row}
use Rattle.table.specs.Rows.{row_by}
use Rattle.table.specs.Written.{tab, line_feed, word, fields}

-- What was taken, and the text behind it; or nothing, where the text's front is of wrong form.
pub data Taken (A : Type 0) : Type 0 where
  taken : (a : A) (rest : List ℕ) → Taken A
  nothing : Taken A

infixl 20 ◌then◌
abbrev pub ◌then◌ : {A B : Type 0} → Taken A → (A → List ℕ → Taken B) → Taken B
taken a rest then f = f a rest
nothing then f = nothing

-- A reader gives what is taken off the front of the old rest, and leaves the new one.
abbrev pub Takes : {A : Type 0} → List ℕ → List ℕ → Option A → Taken A → Type 0
Takes old new result t = MatchOption result (t ≡ nothing) (λ a. t ≡ taken a new)

-- A fixed byte.
abbrev pub byte_in : ℕ → List ℕ → Taken ℕ
byte_in b [] = nothing
byte_in b (x ∷ s) = cond (eqb x b) (taken b s) nothing

-- One or two digits; a zero stands alone.
abbrev pub digit : ℕ → Bool
digit x = cond (leb 48 x) (leb x 57) false

abbrev pub digit_in : List ℕ → Taken ℕ
digit_in [] = nothing
digit_in (x ∷ s) = cond (digit x) (taken (x - 48) s) nothing

abbrev pub second : ℕ → List ℕ → Taken ℕ
second n [] = taken n []
second n (x ∷ s) = cond (digit x) (taken (n * 10 + (x - 48)) s) (taken n (x ∷ s))

abbrev pub first : ℕ → List ℕ → Taken ℕ
first x s = cond (digit x) (cond (eqb x 48) (taken 0 s) (second (x - 48) s)) nothing

abbrev pub number_in : List ℕ → Taken ℕ
number_in [] = nothing
number_in (x ∷ s) = first x s

-- A tab and a number; as many of them as a row has, and the line feed.
abbrev pub field_in : List ℕ → Taken ℕ
field_in s = byte_in tab s then (λ _ rest. number_in rest)

unfoldable pub fields_in : ℕ → List ℕ → Taken (List ℕ)
fields_in zero s = byte_in line_feed s then (λ _ rest. taken [] rest)
fields_in (suc k) s = field_in s then (λ n rest. fields_in k rest then (λ ns end. taken (n ∷ ns) end))

abbrev pub closed : Row → List ℕ → Taken Row
closed r s = byte_in line_feed s then (λ _ end. taken r end)

-- A kind's word and how many fields follow it are those of its rows.
abbrev pub word_of : Kind → List ℕ
word_of kind = word (row_by kind 0 0)

abbrev pub fields_of : Kind → ℕ
fields_of kind = length (fields (row_by kind 0 0))

unfoldable pub starts_with : List ℕ → List ℕ → Bool
starts_with s [] = true
starts_with [] (b ∷ word) = false
starts_with (x ∷ s) (b ∷ word) = cond (eqb x b) (starts_with s word) false

-- The first of the kinds whose word stands at the front.
unfoldable pub first_of : List Kind → List ℕ → Taken Kind
first_of [] s = nothing
first_of (k ∷ ks) s = cond (starts_with s (word_of k)) (taken k (drop (length (word_of k)) s)) (first_of ks s)

-- `isnot` before `is`, which is its beginning.
abbrev pub kinds : List Kind
kinds = Yes ∷ No ∷ Isnot ∷ Is ∷ Any ∷ All ∷ Go ∷ Stop ∷ []

abbrev pub word_in : List ℕ → Taken Kind
word_in s = first_of kinds s

-- A whole line.
unfoldable pub line_in : List ℕ → Taken Row
line_in s = word_in s then (λ k rest. fields_in (fields_of k) rest then (λ ns end. taken (row_by k (get_or ns 0 0) (get_or ns 1 0)) end))
