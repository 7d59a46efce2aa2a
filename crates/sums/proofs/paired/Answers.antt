-- `sums::paired` meets its contract.
use Prim.Native.Nat.{ℕ, ◌+◌, ◌-◌}
use mathlib.Core.Path.{ap}
use native.Mathlib.Omega.{arith}
use borrow.Author.Tests.{le-leb, lt-leb}
use Rattle.choices.proofs.Longest.{longest-le}
use Rattle.sums.proofs.paired.Goals as goal

pub overflow_add-result : goal.overflow_add-result
overflow_add-result c =
    let a = c.args in
    let fits = c.ranges in
    record {
      fits = omega (
        arith,
        c.longest_fit.ensures,
        longest-le a.high.now a.highs (a.x - a.a),
        c.if-a-x.true,
        fits.x.fits,
      );
    }

pub returns-then-a-x : goal.returns-then-a-x
returns-then-a-x c =
    let a = c.args in
    rw (le-leb a.a a.x c.if-a-x.true) (ap (λ (y : ℕ). a.a + y) c.longest_fit.ensures)

pub returns : goal.returns
returns c =
    let a = c.args in
    rw (lt-leb a.a a.x c.if-a-x.false)
