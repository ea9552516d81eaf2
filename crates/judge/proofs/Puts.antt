-- Bytes put one after another into lent memory.
use Prim.Native.Nat.{ℕ, ◌+◌}
use mathlib.Core.List.{List, [], ◌∷◌, ◌++◌, append_assoc, append-nil}
use mathlib.Core.Path.{◌≡◌, sym, ap, subst, ◌∙◌}
use native.Mathlib.Omega.{arith}
use lib.ListN.{length, drop, take, length-append}
use lib.Seq.{length-take-le, take_at, drop_at, drop-drop}
use Rattle.table.specs.Written.{tab, line_feed}
use Rattle.sheets.specs.Written.{numeral}
use Rattle.judge.specs.Output.{verdict_line}
use Rattle.judge.specs.Writing.{Room, Wrote}
use Rattle.judge.specs.declared.writer.Writer.{Writer}

-- What is put in two parts, the second right behind the first.
pub wrote_both : {w v u : Writer} {xs ys : List ℕ} → Room w xs → Wrote w xs v → Wrote v ys u → Wrote w (xs ++ ys) u
wrote_both {w} {v} {u} {xs} {ys} room p q =
    let old = w.bytes.now in
    let mid = v.bytes.now in
    let head = take w.at old ++ xs in
    let rest = drop (w.at + length xs) old in
    let parts : mid ≡ head ++ rest = p.stands ∙ sym (append_assoc (take w.at old) xs rest) in
    let seam : length head ≡ v.at = omega (arith, length-append (take w.at old) xs, length-take-le w.at old (omega arith), p.ends) in
    let first : take v.at mid ≡ head = rw parts (take_at head rest v.at seam) in
    let last : drop v.at mid ≡ rest = rw parts (drop_at head rest v.at seam) in
    let far : w.at + length xs + length ys ≡ w.at + length (xs ++ ys) = omega (arith, length-append xs ys) in
    let beyond : drop (v.at + length ys) mid ≡ drop (w.at + length (xs ++ ys)) old = sym (drop-drop (length ys) v.at mid) ∙ ap (λ (l : List ℕ). drop (length ys) l) last ∙ drop-drop (length ys) (w.at + length xs) old ∙ ap (λ (k : ℕ). drop k old) far in
    record {
      same = q.same ∙ p.same;
      stands = q.stands ∙ rw (first, beyond) (simp append_assoc);
      long = q.long ∙ p.long;
      ends = omega (arith, length-append xs ys, p.ends, q.ends);
    }

-- A line has room with any digit where it has with one.
pub any_digit : (w : Writer) (i d e : ℕ) → Room w (verdict_line i d) → Room w (verdict_line i e)
any_digit w i d e r =
    omega (arith, r, length-append (numeral i) (tab ∷ ((48 + d) ∷ (line_feed ∷ []))), length-append (numeral i) (tab ∷ ((48 + e) ∷ (line_feed ∷ []))))

-- Of a whole text one part is put, from the start of the lent memory, and the rest is still to come.
pub record Partly (whole rest : List ℕ) (w v : Writer) : Type 0 where
  pub start : w.at ≡ 0
  pub room : Room w whole
  pub done : List ℕ
  pub wrote : Wrote w done v
  pub parts : whole ≡ done ++ rest

module _ {whole : List ℕ} (bytes rest : List ℕ) {w v : Writer} (p : Partly whole (bytes ++ rest) w v) where
  many : length whole ≡ length p.done + (length bytes + length rest)
  many = omega (arith, ap length p.parts, length-append p.done (bytes ++ rest), length-append bytes rest)

  pub partly_room : Room v bytes
  partly_room = omega (arith, many, p.room, p.wrote.long, p.wrote.ends)

  pub partly_more : {u : Writer} → Wrote v bytes u → Partly whole rest w u
  partly_more q =
      record {
        start = p.start;
        room = p.room;
        done = p.done ++ bytes;
        wrote = wrote_both (omega (arith, many, p.room)) p.wrote q;
        parts = p.parts ∙ sym (append_assoc p.done bytes rest);
      }

pub partly_all : {whole : List ℕ} {w v : Writer} → Partly whole [] w v → Wrote w whole v
partly_all {whole} {w} {v} p = subst (λ (l : List ℕ). Wrote w l v) (sym (p.parts ∙ append-nil p.done)) p.wrote
