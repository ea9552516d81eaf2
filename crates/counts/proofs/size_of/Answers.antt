-- The shift is a product that fits.
use Rattle.std.proofs.Common.{◌+◌, ◌<◌, ◌≤◌, ◌^◌, arith, shl_exact}
use Rattle.counts.proofs.size_of.Goals as goal

pub returns : goal.returns
returns c =
    let n = c.names_of.result in
    let m = c.looks_of.result in
    let h : n < 2 ^ 9 = omega arith in
    let g : 9 + m ≤ 64 = omega arith in
    rw (← c.names_of.ensures.0, ← c.looks_of.ensures.0) (shl_exact 9 m 64 h g)
