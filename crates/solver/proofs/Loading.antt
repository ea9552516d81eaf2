-- What a loaded text gives the rest of a call: a refusal, or an accepted table.
use Prim.Native.Nat.{ℕ, ◌*◌, ◌^◌}
use mathlib.Core.Bool.{true}
use mathlib.Core.List.{List}
use mathlib.Core.Path.{◌≡◌, refl, ◌∙◌, ap}
use Rattle.std.specs.Prelude.{Ok, Err}
use Rattle.meaning.specs.Table.{looks}
use Rattle.meaning.specs.Outcome.{Slices, Accepted}
use Rattle.table.specs.Refusals.{number_of, place_of}
use Rattle.table.specs.Rows.{rows_of, table_of}
use Rattle.table.specs.declared.Row.{Row}
use Rattle.table.specs.declared.refusal.Refusal.{Refusal}
use Rattle.intake.specs.Loading.{Answered, table}
use Rattle.intake.specs.declared.Loaded.{Loaded}
use Rattle.intake.proofs.Theorems.{one_answer}
use Rattle.solver.specs.Solved.{Reply, Refused, Solves, Replies, not_accepted, accepted, NameWidth}

module _ {text : List ℕ} {r : Refusal} (a : Answered true text (Err r)) where
  pub refused_reply : (old : Slices) → Replies text old old (Refused (number_of r) (place_of r))
  refused_reply old = not_accepted a.takes refl refl

  -- the width of a name, by the text's one answer
  pub no_width : NameWidth text 0
  no_width = record {
    of_table = λ y. let e = (one_answer text).unique a.takes y in cc;
    of_none = λ y. refl;
  }

module _ {text : List ℕ} {l : Loaded} (a : Answered true text (Ok l)) where
  pub is_accepted : Accepted (table_of l.table)
  is_accepted = ((one_answer text).accepted (rows_of l.table) a.takes).0

  pub solved_reply : (old new : Slices) (r : Reply) → Solves (table_of l.table) old new r → Replies text old new r
  solved_reply old new r s = accepted a.takes s

  pub table_width : (w : ℕ) → w ≡ 16 * 2 ^ looks (table_of l.table) → NameWidth text w
  table_width w f = record {
    of_table = λ {rows} y.
        let g : rows_of l.table ≡ rows = (let z = (one_answer text).unique a.takes y in cc) in
        f ∙ ap (λ (z : List Row). 16 * 2 ^ looks (table z)) g;
    of_none = λ y. let e = (one_answer text).unique a.takes y in cc;
  }
