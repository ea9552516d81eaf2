-- Cells handled one after the other, and the handling of one cell: it is found where its row says so, and else nothing changes.
use Rattle.std.proofs.Common.{ℕ, ◌≤◌, ◌<◌, List, ◌⊎◌, ⊎_elim, refl, ◌∙◌, length, arith}
use Rattle.meaning.specs.Table.{Table, row_at, row_limit}
use Rattle.sheets.specs.Lines.{line_limit}
use Rattle.truths.specs.Spots.{spot_at}
use Rattle.truths.specs.Found.{FoundAt, Grown, Entered}
use Rattle.truths.specs.Search.{SaidAt, Handled, Only}
use Rattle.truths.specs.declared.cell.Cell.{Cell}
use Rattle.truths.specs.declared.found.Found.{Found}
use Rattle.truths.specs.declared.spots.Spot.{Spot}
use Rattle.truths.proofs.Says.{says_more, says_holds}

abbrev pub GrownTo : Found → Found → Type 0
GrownTo s t = Grown s.truth s.queue.items s.queue.len t.truth t.queue.items t.queue.len

grown_none : (s : Found) → GrownTo s s
grown_none s = record { longer = omega arith; kept = λ k h. refl; still = λ p i f. f }

grown_then : (s t u : Found) → GrownTo s t → GrownTo t u → GrownTo s u
grown_then s t u a b = record {
  longer = omega (arith, a.longer, b.longer);
  kept = λ k h. b.kept k (omega (arith, a.longer)) ∙ a.kept k h;
  still = λ p i f. b.still p i (a.still p i f);
}

said_still : (rows : Table) (spots : List Spot) (s t : Found) → GrownTo s t → (p i : ℕ) → SaidAt rows spots s.truth p i → SaidAt rows spots t.truth p i
said_still rows spots s t g p i h = (h.0, h.1, says_more (FoundAt s.truth) (FoundAt t.truth) g.still (spot_at spots p) (row_at rows i) p h.2)

module _ {rows : Table} {spots : List Spot} where
  pub handled_none : {Kind : ℕ → ℕ → Type 0} {s : Found} → ((p i : ℕ) → Kind p i → SaidAt rows spots s.truth p i → FoundAt s.truth p i) → Handled rows spots Kind s s
  handled_none {s = s} f = record { grown = grown_none s; right = λ a. a; settled = f }

  pub handled_as : {A C : ℕ → ℕ → Type 0} {s t : Found} → Handled rows spots A s t → ((p i : ℕ) → p < length spots → i < length rows → C p i → A p i) → Handled rows spots C s t
  handled_as a f = record { grown = a.grown; right = a.right; settled = λ p i k h. a.settled p i (f p i h.0 h.1 k) h }

  pub handled_then : {A B C : ℕ → ℕ → Type 0} {s t u : Found} → Handled rows spots A s t → Handled rows spots B t u → ((p i : ℕ) → C p i → A p i ⊎ B p i) → Handled rows spots C s u
  handled_then {s = s} {t = t} {u = u} a b either = record {
    grown = grown_then s t u a.grown b.grown;
    right = λ x. b.right (a.right x);
    settled = λ p i k h. ⊎_elim
        (λ x. b.grown.still p i (a.settled p i x h))
        (λ x. b.settled p i x (said_still rows spots s t a.grown p i h))
        (either p i k);
  }

  module _ {c : Cell} {s t : Found} where
    pub handled_new : length rows ≤ row_limit → length spots ≤ line_limit → SaidAt rows spots s.truth c.line c.row
        → Entered c s.truth s.queue.items s.queue.len t.truth t.queue.items t.queue.len → Handled rows spots (Only c) s t
    handled_new few lines said e = record {
      grown = e.grown;
      right = λ a p i f. ⊎_elim
          (λ g. a p i g)
          (λ x. rw (x.0, x.1) (says_holds rows spots (FoundAt s.truth) a (row_at rows c.row) c.line said.2))
          (e.only p i f);
      settled = λ p i x h. rw (x.0, x.1) (e.here (omega (arith, said.0)) (omega (arith, said.1)));
    }
