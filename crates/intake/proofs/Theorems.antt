-- Each text has one answer, and what is accepted is as `meaning` wants it; the same where size is not asked about.
use Prim.Native.Nat.{ℕ, ◌<◌, ◌≤◌}
use native.Mathlib.Omega.{arith}
use mathlib.Core.Bool.{Bool, true, false, cond}
use mathlib.Core.List.{List}
use mathlib.Core.Path.{◌≡◌, refl, sym, subst}
use lib.ListN.{length, length-map}
use Rattle.meaning.specs.Outcome.{Accepted}
use Rattle.meaning.specs.Loop.{LoopFree}
use Rattle.meaning.specs.Table.{InRange, size, size_limit, row_limit}
use Rattle.meaning.proofs.Tests.{false≢true}
use Rattle.table.specs.declared.Row.{Row}
use Rattle.reader.specs.Reading.{Reading, Reads, Sound, rows_read, refused, empty, malformed, too_many, not_there, read}
use Rattle.reader.proofs.Theorems.{one_reading}
use Rattle.loops.specs.Judged.{Checked, Fine, Missing, Looping, Large, Judged, fine, missing, looping, large}
use Rattle.loops.proofs.Unique.{judged_unique}
use Rattle.loops.proofs.Exists.{judged_exists}
use Rattle.intake.proofs.Inside.{names_inside, loop_inside}
use Rattle.intake.specs.Loading.{table, numbered, Takes, unread, judged, Admissible, OneAnswer, OneAdmission}

-- what is known of rows that pass, and of a refusal's numbers
record Passed (sized : Bool) (rows : List Row) : Type 0 where
  admissible : Admissible (table rows)
  sound : Sound rows
  fits : sized ≡ true → size (table rows) ≤ size_limit

abbrev pub Small : Bool → ℕ → ℕ → Type 0
Small sized n p = (0 < n) × (n < cond sized 8 7) × (p ≤ row_limit)

-- every number but 7 is there for both
below : (sized : Bool) (n : ℕ) → n < 7 → n < cond sized 8 7
below true n l = omega arith
below false n l = l

module _ {text : List ℕ} where
  only : {a b : Reading} → Reads text a → Reads text b → a ≡ b
  only x y = (one_reading text).unique x y

  passes : {sized : Bool} {rows : List Row} → Reads text (rows_read rows) → InRange (table rows) → LoopFree (table rows) → (sized ≡ true → size (table rows) ≤ size_limit) → Passed sized rows
  passes (read _ a l h) range free room = record {
    admissible = record {
      some_row = simp length-map (omega arith);
      few_rows = simp length-map (omega arith);
      in_range = range;
      loop_free = free;
    };
    sound = a.sound;
    fits = room;
  }

  -- the rows that pass are those that were read
  passed_by : (sized : Bool) (rows l : List Row) (c : Checked) → rows_read rows ≡ numbered sized l c → Reads text (rows_read l) → Judged (table l) c → (rows ≡ l) × Passed sized l
  passed_by sized rows l Fine e x (fine range free room) = (cc, passes x range free (λ t. room))
  passed_by sized rows l (Missing i) e x j = absurd (let w : ◌≡◌ {A = ℕ} 0 1 = cc in omega arith)
  passed_by sized rows l (Looping i) e x j = absurd (let w : ◌≡◌ {A = ℕ} 0 1 = cc in omega arith)
  passed_by true rows l Large e x j = absurd (let w : ◌≡◌ {A = ℕ} 0 1 = cc in omega arith)
  passed_by false rows l Large e x (large range free over) = (cc, passes x range free (λ t. absurd (false≢true t)))

  read_place : (n p : ℕ) → Reads text (refused n p) → (0 < n) × (n < 7) × (p ≤ row_limit)
  read_place n p (empty e) = (omega arith, omega arith, omega arith)
  read_place n p (malformed rows rest a l b m) = (omega arith, omega arith, omega arith)
  read_place n p (too_many rows rest a l b) = (omega arith, omega arith, omega arith)
  read_place n p (not_there rows r end a l w x) = (omega arith, omega arith, omega arith)

  few : (rows : List Row) → Reads text (rows_read rows) → length (table rows) ≤ row_limit
  few rows (read _ a l h) = simp length-map (omega arith)

judged_place : (sized : Bool) (n p : ℕ) (rows : List Row) (c : Checked) → length (table rows) ≤ row_limit → Judged (table rows) c → refused n p ≡ numbered sized rows c → Small sized n p
judged_place sized n p rows Fine l j e = absurd (let w : ◌≡◌ {A = ℕ} 0 1 = cc in omega arith)
judged_place sized n p rows (Missing i) l (missing m) e =
    let w : n ≡ 5 = cc in
    let v : p ≡ i = cc in
    (omega arith, below sized n (omega arith), omega (arith, names_inside m.missing.1))
judged_place sized n p rows (Looping i) l (looping r o) e =
    let w : n ≡ 6 = cc in
    let v : p ≡ i = cc in
    (omega arith, below sized n (omega arith), omega (arith, loop_inside o.on_loop))
judged_place true n p rows Large l j e =
    let w : n ≡ 7 = cc in
    let v : p ≡ 0 = cc in
    (omega arith, omega arith, omega arith)
judged_place false n p rows Large l j e = absurd (let w : ◌≡◌ {A = ℕ} 0 1 = cc in omega arith)

module _ (sized : Bool) (text : List ℕ) where
  unique : {a b : Reading} → Takes sized text a → Takes sized text b → a ≡ b
  unique (unread x e) (unread y f) = let z = only x y in cc
  unique (unread x e) (judged y j f) = absurd (let z = only x y in let w : ◌≡◌ {A = ℕ} 0 1 = cc in omega arith)
  unique (judged x j e) (unread y f) = absurd (let z = only x y in let w : ◌≡◌ {A = ℕ} 0 1 = cc in omega arith)
  unique (judged {rows = rows} {c = c} x j e) (judged {rows = rows'} {c = d} y k f) =
      let z : rows ≡ rows' = (let w = only x y in cc) in
      let v : c ≡ d = judged_unique j (subst (λ (l : List Row). Judged (table l) d) (sym z) k) in
      cc

  some_by : (a : Reading) → Reads text a → (b : Reading) × Takes sized text b
  some_by (rows_read rows) r = let j = judged_exists (table rows) in (numbered sized rows j.0, judged r j.1 refl)
  some_by (refused n p) r = (refused n p, unread r refl)

  some : (b : Reading) × Takes sized text b
  some = let x = one_reading text in some_by x.reading x.reads

  passed : (rows : List Row) → Takes sized text (rows_read rows) → Passed sized rows
  passed rows (unread x e) = absurd (let w : ◌≡◌ {A = ℕ} 0 1 = cc in omega arith)
  passed rows (judged {rows = l} {c = c} x j e) = let z = passed_by sized rows l c e x j in subst (Passed sized) (sym z.0) z.1

  pub small : (n p : ℕ) → Takes sized text (refused n p) → Small sized n p
  small n p (unread {n = k} {p = q} x e) =
      let w : n ≡ k = cc in
      let v : p ≡ q = cc in
      let z = read_place k q x in
      (omega (arith, z.0), below sized n (omega (arith, z.1)), omega (arith, z.2))
  small n p (judged {rows = rows} {c = c} x j e) = judged_place sized n p rows c (few rows x) j e

accepted : {rows : List Row} → Passed true rows → Accepted (table rows) × Sound rows
accepted x = let a = x.admissible in (
  record {
    some_row = a.some_row;
    few_rows = a.few_rows;
    in_range = a.in_range;
    loop_free = a.loop_free;
    room = x.fits refl;
  },
  x.sound,
)

pub one_answer : (text : List ℕ) → OneAnswer text
one_answer text =
    let y = some true text in
    record { answer = y.0; loads = y.1; unique = unique true text; accepted = λ rows t. accepted (passed true text rows t); small = small true text }

pub one_admission : (text : List ℕ) → OneAdmission text
one_admission text =
    let y = some false text in
    record { answer = y.0; admits = y.1; unique = unique false text; admitted = λ rows t. let x = passed false text rows t in (x.admissible, x.sound); small = small false text }
