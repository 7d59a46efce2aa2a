-- `sums::all_here` meets its contract.
use mathlib.Core.Path.{refl}
use mathlib.Core.Bool.{false}
use native.Mathlib.Omega.{arith}
use Rattle.counting.proofs.Tests.{clash}
use Rattle.sums.proofs.Rounding.{here_more}
use Rattle.sums.proofs.all_here.Goals as goal

pub loop-i-init : goal.loop-i-init
loop-i-init c = (c.count-count.ensures, (omega arith, λ j l. absurd (omega arith)))

pub arrival-requires : goal.arrival-requires
arrival-requires c = omega (arith, c.loop-i.invariant.0, c.loop-i-test.true, c.requires)

pub returns-then-arrival-ne0 : goal.returns-then-arrival-ne0
returns-then-arrival-ne0 c = λ e. clash false e refl

pub loop-i-preserved : goal.loop-i-preserved
loop-i-preserved c =
    let loop = c.loop-i in (
      loop.invariant.0,
      (
        omega (arith, c.loop-i-test.true),
        here_more c.args.jobs.now loop.i loop.invariant.1.1 (omega (arith, c.if-arrival-ne0.false, c.arrival.ensures)),
      ),
    )

pub returns : goal.returns
returns c = λ _ j l. c.loop-i.invariant.1.1 j (omega (arith, c.loop-i.invariant.0, c.loop-i-test.false))
