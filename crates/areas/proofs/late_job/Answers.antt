-- `areas::late_job` meets its contract.
use mathlib.Core.Path.{refl}
use mathlib.Core.Logic.{inl, inr}
use mathlib.Core.Bool.{false}
use native.Mathlib.Omega.{arith}
use lib.ListN.{get_or}
use Rattle.counting.proofs.Tests.{clash}
use Rattle.areas.proofs.late_job.Goals as goal

pub returns-then-target-head : goal.returns-then-target-head
returns-then-target-head c = λ e. inl (c.args.k, c.requires.1.0, omega (arith, c.if-target-head.true))

pub returns-then-a-last : goal.returns-then-a-last
returns-then-a-last c = λ e. clash false e refl

pub late_from-requires : goal.late_from-requires
late_from-requires c =
    let pre = c.requires in
    (pre.0.0, (pre.0.1 _ (omega (arith, c.if-a-last.false)), omega (arith, c.if-target-head.false, pre.1.1)))

pub returns : goal.returns
returns c = λ e. inr (get_or c.args.prepared.now.heads c.args.k 0, omega (arith, c.if-a-last.false), (c.late_from.ensures e))
