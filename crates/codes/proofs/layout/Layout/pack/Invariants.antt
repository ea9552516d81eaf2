-- The bits above j are packed.
use Rattle.std.proofs.Common.{ℕ, suc, ◌-◌, ◌≡◌}
use Rattle.codes.specs.Sighted.{subject_in}
use Rattle.codes.specs.Sights.{packed}
use Rattle.codes.specs.Truths.{true_by}
use Rattle.codes.proofs.layout.Layout.pack.Given as goal

abbrev pub invariant-loop-j : goal.invariant-loop-j
invariant-loop-j l =
    let s = l.self.looks in
    l.sight ≡ packed (λ (i : ℕ). true_by l.truths (subject_in s i)) (s.parts.m - l.j) (suc l.j)
