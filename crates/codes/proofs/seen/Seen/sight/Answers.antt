use Rattle.std.proofs.Common.{rules, ◌≡◌, ◌<◌, length, get_or, sym, ◌∙◌}
use Rattle.std.proofs.Math.Logic.{∥∥₁_map}
use Rattle.codes.proofs.Sure.{sees_surely}
use Rattle.codes.proofs.seen.Seen.sight.Goals as goal

pub returns-in-Some : goal.returns-in-Some
returns-in-Some c =
    let s = c.args.self.now in
    let at : (c.args.code < length s.sights.now) × (get_or s.sights.now c.args.code 0 ≡ c.in-Some.kept) = search rules in
    sees_surely s.layout.laid.range (∥∥₁_map s.layout.in_order (λ o. o.ordered)) c.args.code (∥∥₁_map s.right (λ w. rw (← at.1) (w.each c.args.code at.0 (λ e. c.if-kept.true (sym at.1 ∙ e)))))
