-- `circles::next_of` meets its contract.
use Prim.Native.Nat.{◌<◌}
use native.Mathlib.Omega.{arith}
use native.Mathlib.Nat.{pos_of_ne-zero}
use Rattle.bits.proofs.Walks.{walk_less}
use Rattle.tables.specs.Tables.{count_of}
use Rattle.circles.proofs.Taking.{seeking-none, seeking-step, seeking_all}
use Rattle.circles.proofs.next_of.Goals as goal

pub below-requires : goal.below-requires
below-requires c = omega (arith, c.requires, c.count-count.ensures)

pub loop-j-init : goal.loop-j-init
loop-j-init c = (c.count-count.ensures, rw (c.into_iter-j-iterator.ensures.into_iter_gives, c.members-j-items.ensures, c.below.ensures, c.count-count.ensures) seeking-none)

pub earlier-requires : goal.earlier-requires
earlier-requires c =
    omega (arith, c.loop-j.invariant.1.walk.below _ c.in-Some.ensures.steps.1, c.requires)

pub returns-then-earlier-left-eq0 : goal.returns-then-earlier-left-eq0
returns-then-earlier-left-eq0 c =
    let walk = c.loop-j.invariant.1.walk in
    let job : c.in-Some.j < count_of c.args.jobs.now = walk.below _ c.in-Some.ensures.steps.1 in
    let none = c.if-earlier-left-eq0.true in
    record {
      low = omega arith;
      some = λ l. record { job = job; member = walk.inside _ c.in-Some.ensures.steps.1; after = rw c.earlier.ensures at none };
      none = λ e. absurd (omega arith);
    }

pub loop-j-preserved : goal.loop-j-preserved
loop-j-preserved c =
    let inv = c.loop-j.invariant in
    let test = c.if-earlier-left-eq0.false in
    let some = rw c.earlier.ensures at test in
    (inv.0, rw (c.in-Some.ensures.steps.3) (seeking-step c.in-Some.j some inv.1))

pub returns : goal.returns
returns c =
    let inv = c.loop-j.invariant in
    record {
      low = omega (arith, inv.0);
      some = λ l. absurd (omega (arith, inv.0));
      none = λ e. seeking_all inv.1 c.in-None.ensures.steps.0;
    }
