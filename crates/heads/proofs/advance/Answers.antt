-- `heads::advance` meets its contract.
use Prim.Native.Nat.{ℕ}
use native.Mathlib.Omega.{arith}
use lib.ListN.{length-replicate}
use Rattle.heads.proofs.Advancing.{advancing-none, advancing-step, advancing_all, all_short}
use Rattle.heads.proofs.advance.Goals as goal

pub loop-j-init : goal.loop-j-init
loop-j-init c =
    let pre = c.requires in
    advancing-none _ pre.0 pre.1.0 pre.1.1 (length-replicate {A = ℕ} 20 0)

pub latest_end-requires : goal.latest_end-requires
latest_end-requires c =
    let test = c in
    let inv = test.loop-j.invariant in
    (inv.fit.few, (omega (arith, test.loop-j-test.true, test.count-n.ensures, inv.fit.few), all_short inv.fit inv.old inv.low))

pub loop-j-preserved : goal.loop-j-preserved
loop-j-preserved c =
    let arrival = c in
    let test = arrival in
    rw (c.max.ensures, c.latest_end.ensures, arrival.arrival.ensures)
    (advancing-step test.loop-j.invariant (omega (arith, test.loop-j-test.true, test.count-n.ensures)))

pub returns : goal.returns
returns c = advancing_all c.loop-j.invariant (omega (arith, c.loop-j-test.false, c.count-n.ensures))
