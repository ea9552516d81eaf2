-- The number so far is N of the rows passed.
use Rattle.std.proofs.Common.{◌≡◌, ◌≤◌, subst, refl, arith, rules}
use Rattle.std.proofs.lemmas.Fn.{fold_over, slice_gives, fronts}
use Rattle.meaning.specs.Table.{names}
use Rattle.table.specs.Rows.{table_in}
use Rattle.counts.proofs.Laws.{names_push}
use Rattle.counts.proofs.names_of.Goals as goal

pub returns : goal.returns
unfolding names
returns c =
    subst (λ l. (c.fold.result ≡ names (table_in l)) × (c.fold.result ≤ 256)) c.iter.ensures.rest
    (fold_over fronts (λ y. y.now) _ (λ ys n. (n ≡ names (table_in ys)) × (n ≤ 256)) _ (λ ys a x b f' j k. let more = names_push ys x.now in search rules)
    _ _ _ _ (slice_gives c.iter.result) (refl, omega arith) c.fold.ensures.ran)
