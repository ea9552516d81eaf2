-- A kind's word at the front of a text, and how many bytes words and numbers take.
use mathlib.Core.Path.{◌≡◌, refl, ap, sym, ◌∙◌}
use mathlib.Core.List.{List, [], ◌∷◌, ◌++◌}
use mathlib.Core.Bool.{Bool, true, false, cond, ◌&&◌}
use Prim.Native.Nat.{ℕ, ◌+◌, ◌*◌, ◌<◌, ◌≤◌}
use native.Mathlib.Omega.{arith}
use native.Mathlib.Numerals.{add-one}
use lib.Dec.{eqb}
use lib.ListN.{length, get_or, take, drop, drop_of_length-le}
use lib.Pointwise.{pointwise, bytes_decides}
use lib.Seq.{drop-cons}
use Rattle.std.proofs.lemmas.List.{take-append-drop}
use Rattle.std.specs.Borrow.{Bor}
use Rattle.table.specs.declared.Kind.{Kind}
use Rattle.table.specs.declared.Row.{Row}
use Rattle.table.specs.declared.Row.TheVariants.{Yes, No, Is, Isnot, Any, All, Go, Stop}
use Rattle.table.specs.Written.{word, fields}
use Rattle.reader.specs.Parts.{Taken, taken, nothing, starts_with}

-- a word stands at the front where the bytes there are the word's
front : (s w : List ℕ) → starts_with s w ≡ pointwise eqb (take (length w) s) w
unfolding starts_with
front s [] = refl
front [] (b ∷ w) = refl
front (x ∷ s) (b ∷ w) = rw (front s w) (both (eqb x b) _)
  where
    both : (t p : Bool) → cond t p false ≡ (t && p)
    both true p = refl
    both false p = refl

pub stands : (s w : List ℕ) → starts_with s w ≡ true → s ≡ w ++ drop (length w) s
stands s w e =
    let f : take (length w) s ≡ w = (bytes_decides (take (length w) s) w).0 (sym (front s w) ∙ e) in
    sym (take-append-drop (length w) s) ∙ ap (λ (l : List ℕ). l ++ drop (length w) s) f

-- the words that are tried one after another, each with its kind
abbrev pub Words : Type 0
Words = List (Bor (List ℕ) × Kind)

unfoldable pub first_word : Words → List ℕ → Taken Kind
first_word [] s = nothing
first_word (w ∷ ws) s = cond (starts_with s w.0.now) (taken w.1 (drop (length w.0.now) s)) (first_word ws s)

module _ (ws : Words) (s : List ℕ) (i : ℕ) where
  pub none_left : length ws ≤ i → first_word (drop i ws) s ≡ nothing
  unfolding first_word
  none_left h = rw (drop_of_length-le ws h)

  module _ (d : Bor (List ℕ) × Kind) (h : i < length ws) where
    tried : first_word (drop i ws) s ≡ cond (starts_with s (get_or ws i d).0.now) (taken (get_or ws i d).1 (drop (length (get_or ws i d).0.now) s)) (first_word (drop (i + 1) ws) s)
    unfolding first_word
    tried = rw (drop-cons ws i d, add-one)

    -- the rest of the text, as the loop has it
    module _ (bytes : List ℕ) (e : bytes ≡ s) where
      pub word_found : {x : List ℕ} → pointwise eqb (take (length (get_or ws i d).0.now) bytes) (get_or ws i d).0.now ≡ true → x ≡ drop (length (get_or ws i d).0.now) bytes → first_word (drop i ws) s ≡ taken (get_or ws i d).1 x
      word_found p q = tried ∙ rw (front s (get_or ws i d).0.now, sym e, p, q)

      pub word_missed : pointwise eqb (take (length (get_or ws i d).0.now) bytes) (get_or ws i d).0.now ≡ false → first_word (drop i ws) s ≡ first_word (drop (i + 1) ws) s
      word_missed p = tried ∙ rw (front s (get_or ws i d).0.now, sym e, p)

-- a word has at least two bytes, and with a tab and two digits a number at most nine
pub shape : (r : Row) → (2 ≤ length (word r)) × (length (word r) + 3 * length (fields r) ≤ 9)
shape Yes = omega arith
shape No = omega arith
shape (Is n) = omega arith
shape (Isnot n) = omega arith
shape (Any i j) = omega arith
shape (All i j) = omega arith
shape (Go d i) = omega arith
shape (Stop d) = omega arith
