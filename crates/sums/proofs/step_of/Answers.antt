-- `sums::step_of` meets its contract.
use Prim.Native.Nat.{◌≤◌}
use native.Mathlib.Omega.{arith}
use native.Mathlib.Nat.{dvd_refl}
use Rattle.tables.specs.Tables.{count_of}
use Rattle.sums.proofs.Rounding.{step_more}
use Rattle.sums.proofs.step_of.Goals as goal

pub loop-i-init : goal.loop-i-init
loop-i-init c = (
  c.count-count.ensures,
  (
    omega arith,
    record {
      rests = rw c.changeover-step.ensures (dvd_refl _);
      minutes = λ j l. absurd (omega arith);
      arrivals = λ j l. absurd (omega arith);
    },
  ),
)

pub minutes-requires : goal.minutes-requires
minutes-requires c = omega (arith, c.loop-i.invariant.0, c.loop-i-test.true, c.requires)

pub arrival-requires : goal.arrival-requires
arrival-requires c = omega (arith, c.loop-i.invariant.0, c.loop-i-test.true, c.requires)

pub loop-i-preserved : goal.loop-i-preserved
loop-i-preserved c =
    let loop = c.loop-i in
    let first = c.divisor-step.ensures in
    let second = c.divisor-step-in-loop-i.ensures in (
      loop.invariant.0,
      (
        omega (arith, c.loop-i-test.true),
        step_more c.args.jobs.now loop.i loop.step c.divisor-step.result c.divisor-step-in-loop-i.result loop.invariant.1.1
            first.0 (rw c.minutes.ensures at first.1) second.0 (rw c.arrival.ensures at second.1),
      ),
    )

pub returns : goal.returns
returns c =
    let inv = c.loop-i.invariant in
    let all : count_of c.args.jobs.now ≤ c.loop-i.i = omega (arith, inv.0, c.loop-i-test.false) in
    record {
      rests = inv.1.1.rests;
      minutes = λ j l. inv.1.1.minutes j (omega arith);
      arrivals = λ j l. inv.1.1.arrivals j (omega arith);
    }
