-- A text read line by line, whatever its lines hold. A kind of line says how an item is written and read; the scan takes items until the text
-- ends or a line is refused. The loop of a `read_text` follows it, and what it answers is the one reading of the text (Settled).
use mathlib.Core.Path.{◌≡◌, refl, ap, sym, ◌∙◌}
use mathlib.Core.List.{List, [], ◌∷◌, ◌++◌}
use Prim.Native.Nat.{ℕ, zero, suc}
use native.Mathlib.Omega.{arith}
use lib.ListN.{length}
use Rattle.reader.specs.Parts.{Taken, taken, nothing}
use Rattle.reader.specs.Reading.{Begins}

pub record Kind (A R : Type 0) : Type 1 where
  -- what reading gives: all the items, or a refusal's number and place
  pub all : List A → R
  pub refused : ℕ → ℕ → R
  -- the numbers of a text without lines, of a line of wrong form, of a line too many, and of an item of right form that does not exist
  pub no_line : ℕ
  pub wrong_line : ℕ
  pub further_line : ℕ
  pub no_item : ℕ
  pub limit : ℕ
  -- an item
  pub written : A → List ℕ
  pub Right : A → Type 0
  pub Exists : A → Type 0
  pub decide : (a : A) → Dec (Exists a)
  -- its line, read as it is written
  pub line_in : List ℕ → Taken A
  pub nothing_in : line_in [] ≡ nothing
  pub line_read : (a : A) (rest : List ℕ) → Right a → line_in (written a ++ rest) ≡ taken a rest
  pub line_taken : (s : List ℕ) (a : A) (rest : List ℕ) → line_in s ≡ taken a rest → Right a × (s ≡ written a ++ rest)
  -- several of them
  pub whole : List A → List ℕ
  pub whole_none : whole [] ≡ []
  pub whole_more : (a : A) (items : List A) → whole (a ∷ items) ≡ written a ++ whole items
  pub Sound : List A → Type 0
  pub sound_none : Sound []
  pub sound_more : (a : A) (items : List A) → Right a → Exists a → Sound items → Sound (a ∷ items)
  pub sound_each : (a : A) (items : List A) → Sound (a ∷ items) → Right a × Exists a × Sound items

abbrev pub either : {P R : Type 0} → Dec P → R → R → R
either (yes p) a b = a
either (no n) a b = b

module _ {A R : Type 0} (k : Kind A R) where
  -- a line, and what `more` says of the text behind it and the items with this one
  abbrev pub on_line : (List ℕ → List A → R) → List A → Taken A → R
  on_line more items nothing = k.refused k.wrong_line (length items)
  on_line more items (taken a rest) = either (k.decide a) (more rest (items ++ (a ∷ []))) (k.refused k.no_item (length items))

  -- the text from a line on, where these items have been read and so many more may come
  unfoldable pub scan : ℕ → List ℕ → List A → R
  scan zero [] items = k.all items
  scan zero (x ∷ s) items = k.refused k.further_line k.limit
  scan (suc left) [] items = k.all items
  scan (suc left) (x ∷ s) items = on_line (scan left) items (k.line_in (x ∷ s))

  unfoldable pub reading : List ℕ → R
  reading [] = k.refused k.no_line 0
  reading (x ∷ s) = scan k.limit (x ∷ s) []

  pub reading_empty : reading [] ≡ k.refused k.no_line 0
  unfolding reading
  reading_empty = refl

  pub reading_lines : (text : List ℕ) → Begins text → reading text ≡ scan k.limit text []
  unfolding reading
  reading_lines [] h = absurd (h refl)
  reading_lines (x ∷ s) h = refl

  -- an empty text begins no line
  pub line_begins : (s : List ℕ) {a : A} {rest : List ℕ} → k.line_in s ≡ taken a rest → Begins s
  line_begins s e h =
      let n : k.line_in s ≡ nothing = ap k.line_in h ∙ k.nothing_in in
      let z : ◌≡◌ {A = ℕ} 0 1 = cc in
      omega arith

  -- no written item begins another
  pub one_item : (a b : A) (end other : List ℕ) → k.Right a → k.Right b → k.written a ++ end ≡ k.written b ++ other → (a ≡ b) × (end ≡ other)
  one_item a b end other v w e =
      let t : taken a end ≡ taken b other = sym (k.line_read a end v) ∙ ap k.line_in e ∙ k.line_read b other w in
      (cc, cc)

  module _ (items : List A) where
    pub scan_end : (left : ℕ) → scan left [] items ≡ k.all items
    unfolding scan
    scan_end zero = refl
    scan_end (suc left) = refl

    pub scan_full : (s : List ℕ) → Begins s → scan 0 s items ≡ k.refused k.further_line k.limit
    unfolding scan
    scan_full [] h = absurd (h refl)
    scan_full (x ∷ s) h = refl

    pub scan_line : (left : ℕ) (s : List ℕ) (t : Taken A) → Begins s → k.line_in s ≡ t → scan (suc left) s items ≡ on_line (scan left) items t
    unfolding scan
    scan_line left [] t h e = absurd (h refl)
    scan_line left (x ∷ s) t h e = rw e

    module _ (left : ℕ) (s : List ℕ) (a : A) (rest : List ℕ) (e : k.line_in s ≡ taken a rest) where
      pub scan_item : k.Exists a → scan (suc left) s items ≡ scan left rest (items ++ (a ∷ []))
      scan_item p = scan_line left s (taken a rest) (line_begins s e) e ∙ at (k.decide a)
        where
          at : (d : Dec (k.Exists a)) → either d (scan left rest (items ++ (a ∷ []))) (k.refused k.no_item (length items)) ≡ scan left rest (items ++ (a ∷ []))
          at (yes q) = refl
          at (no n) = absurd (n p)

      pub scan_no_item : (k.Exists a → ⊥) → scan (suc left) s items ≡ k.refused k.no_item (length items)
      scan_no_item n = scan_line left s (taken a rest) (line_begins s e) e ∙ at (k.decide a)
        where
          at : (d : Dec (k.Exists a)) → either d (scan left rest (items ++ (a ∷ []))) (k.refused k.no_item (length items)) ≡ k.refused k.no_item (length items)
          at (yes q) = absurd (n q)
          at (no m) = refl
