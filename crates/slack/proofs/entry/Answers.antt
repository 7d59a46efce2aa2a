-- `slack::entry` meets its contract.
use Prim.Native.Nat.{◌+◌, ◌<◌}
use native.Mathlib.Omega.{arith}
use lib.Dec.{lit<}
use Rattle.latest.specs.Counted.{minute_zero}
use Rattle.slack.proofs.Kept.{kept}
use Rattle.slack.proofs.entry.Goals as goal

pub returns : goal.returns
returns c =
    let a = c.args in
    let x = a.latest in
    let y = minute_zero + a.start in
    let short : x < 65536 = c.ranges.latest.fits in
    let first = kept c.minus.result x minute_zero short (lit< tt) c.minus.ensures in
    let second = kept c.minus-2.result x y short (omega (arith, c.requires)) c.minus-2.ensures in
    λ i. record { latest_start = first i; slack = second i; implied = a.implied }
