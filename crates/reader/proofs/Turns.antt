-- The loop of a `read_text`: what holds when a line is reached, and what each sort of line makes of it.
use mathlib.Core.Path.{◌≡◌, ap, sym, ◌∙◌}
use mathlib.Core.List.{List, [], ◌∷◌, ◌++◌}
use Prim.Native.Nat.{ℕ, suc, ◌+◌, ◌-◌, ◌≤◌}
use native.Mathlib.Omega.{arith}
use lib.ListN.{length, length-append}
use Rattle.reader.specs.Parts.{taken, nothing}
use Rattle.reader.specs.Reading.{Begins}
use Rattle.reader.proofs.Scan.{Kind, scan, reading, reading_empty, reading_lines, scan_end, scan_full, scan_line, scan_item, scan_no_item}

-- n items have been read before the rest of the text, and the rest decides
pub record Turn {A R : Type 0} (k : Kind A R) (text : List ℕ) (n : ℕ) (items : List A) (rest : List ℕ) : Type 0 where
  pub few : n ≤ k.limit
  pub counted : n ≡ length items
  pub left : reading k text ≡ scan k (k.limit - n) rest items

module _ {A R : Type 0} (k : Kind A R) {text : List ℕ} where
  pub empty_text : text ≡ [] → reading k text ≡ k.refused k.no_line 0
  empty_text e = ap (reading k) e ∙ reading_empty k

  pub first_turn : {n : ℕ} {items : List A} → Begins text → (n ≡ 0) × (items ≡ []) → Turn k text n items text
  first_turn {n} h e =
      let z : k.limit - n ≡ k.limit = omega arith in
      record {
        few = omega arith;
        counted = e.0 ∙ sym (ap length e.1);
        left = reading_lines k text h ∙ rw (e.1, z);
      }

module _ {A R : Type 0} {k : Kind A R} {text : List ℕ} {n : ℕ} {items : List A} {rest : List ℕ} (u : Turn k text n items rest) where
  pub at_end : rest ≡ [] → reading k text ≡ k.all items
  at_end h = u.left ∙ ap (λ (s : List ℕ). scan k (k.limit - n) s items) h ∙ scan_end k items (k.limit - n)

  module _ (h : Begins rest) where
    pub at_full : n ≡ k.limit → reading k text ≡ k.refused k.further_line k.limit
    at_full e =
        let z : k.limit - n ≡ 0 = omega arith in
        u.left ∙ rw z (scan_full k items rest h)

    module _ (m : n ≡ k.limit → ⊥) where
      one_more : k.limit - n ≡ suc (k.limit - (n + 1))
      one_more = omega (arith, u.few, m)

      pub at_wrong : k.line_in rest ≡ nothing → reading k text ≡ k.refused k.wrong_line n
      at_wrong e = u.left ∙ rw one_more (scan_line k items _ rest nothing h e) ∙ ap (k.refused k.wrong_line) (sym u.counted)

      module _ {a : A} {next : List ℕ} (e : k.line_in rest ≡ taken a next) where
        pub at_not_there : (k.Exists a → ⊥) → reading k text ≡ k.refused k.no_item n
        at_not_there x = u.left ∙ rw one_more (scan_no_item k items _ rest a next e x) ∙ ap (k.refused k.no_item) (sym u.counted)

        pub next_turn : {j : ℕ} {all : List A} → (all ≡ items ++ (a ∷ [])) × (j ≡ n + 1) → k.Exists a → Turn k text j all next
        next_turn x p =
            record {
              few = omega (arith, u.few, m);
              counted = omega (arith, u.counted, x.1, length-append items (a ∷ []), ap length x.0);
              left = u.left ∙ ap (λ (i : ℕ). scan k i rest items) one_more ∙ scan_item k items (k.limit - (n + 1)) rest a next e p ∙ rw (x.0, x.1);
            }
