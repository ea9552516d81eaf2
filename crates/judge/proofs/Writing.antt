-- Line after line: what is still to come from line i on, and that nothing is after the last.
use Prim.Native.Nat.{ℕ, suc, ◌+◌, ◌-◌, ◌<◌, ◌≤◌}
use mathlib.Core.Bool.{Bool, cond}
use mathlib.Core.List.{List, ◌++◌}
use mathlib.Core.Path.{◌≡◌, refl, ◌∙◌}
use native.Mathlib.Numerals.{add-one}
use native.Mathlib.Omega.{arith}
use lib.ListN.{length}
use Rattle.sheets.specs.Lines.{line_limit}
use Rattle.truths.specs.Cells.{found}
use Rattle.judge.specs.Output.{verdict_line, verdict_lines}
use Rattle.judge.specs.Writing.{digits_of, Wrote, Written}
use Rattle.judge.specs.declared.writer.Writer.{Writer}
use Rattle.judge.proofs.Puts.{Partly, partly_all}
use Rattle.judge.proofs.Verdicts.{output_length_lem, length_digits}

module _ (truth : List (List Bool)) (n i : ℕ) {w v : Writer} (p : Partly (verdict_lines 0 (digits_of truth 0 n)) (verdict_lines i (digits_of truth i (n - i))) w v) where
  pub lines_next : i < n → Partly (verdict_lines 0 (digits_of truth 0 n)) (verdict_line i (cond (found truth i 0) 1 0) ++ verdict_lines (i + 1) (digits_of truth (i + 1) (n - (i + 1)))) w v
  unfolding verdict_lines digits_of
  lines_next h =
      let k : n - i ≡ suc (n - (i + 1)) = omega arith in
      rw (add-one i) (rw (k, add-one i) at p)

  pub lines_last : n ≤ line_limit → n ≤ i → Written truth n w.bytes.now v.bytes.now v.at
  unfolding verdict_lines digits_of
  lines_last few h =
      let k : n - i ≡ 0 = omega arith in
      let q : Wrote w (verdict_lines 0 (digits_of truth 0 n)) v = partly_all (rw k at p) in
      let whole = verdict_lines 0 (digits_of truth 0 n) in
      let z : w.at ≡ 0 = p.start in
      let far : w.at + length whole ≡ length whole = omega arith in
      let e : v.at ≡ length whole = omega (arith, q.ends) in
      record { stands = q.stands ∙ rw (far, z, e) refl; long = e; few = omega (arith, output_length_lem (digits_of truth 0 n), length_digits truth 0 n) }
