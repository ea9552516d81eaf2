-- A row's tests are counted among the first n; beyond the last row there is none.
use Rattle.std.proofs.Common.{◌≡◌, ◌<◌, ◌∙◌, ℕ, ap, refl, sym, length, get_or, [], arith, rules, tests, Some, None, count_by, take}
use Rattle.std.proofs.lemmas.Option.{MatchOption-at_some, MatchOption-at_none}
use Rattle.loops.specs.Arranging.{reach}
use Rattle.loops.proofs.Rows.{reach_told, reach_none}
use Rattle.loops.proofs.pairs.Pairs.reach.Goals as goal

pub returns : goal.returns
returns c =
    let s = c.args.self.now in
    let i = c.args.i in
    let n = length s.rows.now in
    let l = c.get.ensures.lookup.3 in
    let m = c.map_or.ensures in
    elim c.get.result as (λ o. c.get.result ≡ o → ◌≡◌ {A = ℕ} c.map_or.result (reach n s.found i)) [
      | None ↦ λ e. MatchOption-at_none _ _ e m ∙ sym (reach_none n s.found i (MatchOption-at_none _ _ e l))
      | Some x ↦ λ e.
          let q = MatchOption-at_some _ _ x e l in
          let r : x.now ≡ get_or s.found i [] = q.1 [] in
          let few : i < 48 = omega (arith, s.square.high, q.0) in
          let told = reach_told n s.found i (omega (arith, s.few, s.square.wide i few)) in
          let p : c.map_or.result ≡ count_by (λ b. b) (take n x.now) = (let w = MatchOption-at_some _ _ x e m in search (rules, tests)) in
          p ∙ ap (λ u. count_by (λ b. b) (take n u)) r ∙ told
    ] refl
