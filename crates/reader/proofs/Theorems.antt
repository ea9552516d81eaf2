-- The theorems of specs/Theorems.
use mathlib.Core.Path.{◌≡◌, refl, ap, sym, ◌∙◌}
use mathlib.Core.List.{List, [], ◌∷◌, append-nil}
use mathlib.Core.Bool.{cond}
use Prim.Native.Nat.{ℕ, ◌+◌, ◌*◌, ◌≤◌}
use native.Mathlib.Omega.{arith}
use lib.Dec.{eqb}
use lib.ListN.{length, length-append}
use Rattle.std.specs.Prelude.{Ok, Err}
use Rattle.std.proofs.lemmas.Grind.{common_steps}
use Rattle.table.specs.declared.refusal.Refusal.{Refusal}
use Rattle.table.specs.declared.refusal.Refusal.TheVariants.{Empty, Malformed, TooMany, NotThere, Missing, Looping, Large, NoRoom, MalformedLine, FaultyLine}
use Rattle.table.specs.Refusals.{number_of, place_of}
use Rattle.table.specs.Rows.{rows_of}
use Rattle.table.specs.Written.{word, fields, decimal, written_fields, written_rows}
use Rattle.reader.specs.Reading.{rows_read, refused, Reads, read}
use Rattle.reader.specs.Theorems.{OneReading, OneAnswer, ReadsBack, OneRow, LineLength}
use Rattle.reader.proofs.Words.{shape}
use Rattle.reader.proofs.Scan.{reading, one_item}
use Rattle.reader.proofs.Tables.{tables, reads, only}

pub one_reading : (text : List ℕ) → OneReading text
one_reading text = record { reading = reading tables text; reads = reads text; unique = λ p q. only p ∙ sym (only q) }

-- a refusal by its number and place
refusal_by : ℕ → ℕ → Refusal
refusal_by n i =
    cond (eqb n 1) Empty (cond (eqb n 2) (Malformed i) (cond (eqb n 3) TooMany (cond (eqb n 4) (NotThere i) (cond (eqb n 5) (Missing i) (cond (eqb n 6) (Looping i) (cond (eqb n 7) Large (cond (eqb n 8) NoRoom (cond (eqb n 9) (MalformedLine i) (FaultyLine i)))))))))

by_number : (r : Refusal) → refusal_by (number_of r) (place_of r) ≡ r
unfolding refusal_by
by_number Empty = refl
by_number (Malformed i) = refl
by_number TooMany = refl
by_number (NotThere i) = refl
by_number (Missing i) = refl
by_number (Looping i) = refl
by_number Large = refl
by_number NoRoom = refl
by_number (MalformedLine i) = refl
by_number (FaultyLine i) = refl

same_refusal : (r q : Refusal) → refused (number_of r) (place_of r) ≡ refused (number_of q) (place_of q) → r ≡ q
same_refusal r q e =
    let n : number_of r ≡ number_of q = cc in
    let p : place_of r ≡ place_of q = cc in
    sym (by_number r) ∙ rw (n, p) (by_number q)

pub one_answer : OneAnswer
one_answer text (Ok t) (Ok u) a b =
    let m : rows_of t ≡ rows_of u = let e = (one_reading text).unique a.reads b.reads in cc in
    record { count = a.counted ∙ ap length m ∙ sym b.counted; rows = m }
one_answer text (Err r) (Err q) a b = same_refusal r q ((one_reading text).unique a.reads b.reads)
one_answer text (Ok t) (Err q) a b = grind (arith, common_steps, (one_reading text).unique a.reads b.reads)
one_answer text (Err r) (Ok u) a b = grind (arith, common_steps, (one_reading text).unique a.reads b.reads)

pub reads_back : ReadsBack
reads_back rows s l h =
    record {
      reads = back;
      same = λ other p. let e = (one_reading (written_rows rows)).unique p back in cc;
    }
  where
    back : Reads (written_rows rows) (rows_read rows)
    back = read rows (record { sound = s; split = sym (append-nil (written_rows rows)) }) l h

pub one_row : (text : List ℕ) → OneRow text
one_row text = record { same = λ r q end other v w e f. one_item tables r q end other v w (sym e ∙ f) }

-- a field takes at most its tab and two digits
decimal_length : (n : ℕ) → length (decimal n) ≤ 2
unfolding decimal
decimal_length n = grind (arith, common_steps)

fields_length : (ns : List ℕ) → length (written_fields ns) ≤ 3 * length ns + 1
unfolding written_fields
fields_length [] = omega arith
fields_length (n ∷ ns) = omega (arith, length-append (decimal n) (written_fields ns), decimal_length n, fields_length ns)

pub line_length : LineLength
unfolding decimal written_fields
line_length =
    record {
      most = λ r w. omega (arith, length-append (word r) (written_fields (fields r)), fields_length (fields r), shape r);
      reached = (omega arith, refl);
    }
