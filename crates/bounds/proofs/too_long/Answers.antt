-- `bounds::too_long` meets its contract.
use mathlib.Core.Path.{refl}
use mathlib.Core.Bool.{false}
use native.Mathlib.Omega.{arith}
use borrow.Author.Tests.{leb-true}
use Rattle.counting.proofs.Tests.{clash}
use Rattle.bounds.proofs.too_long.Goals as goal

pub returns-then-start-eq-NO_MINUTE : goal.returns-then-start-eq-NO_MINUTE
returns-then-start-eq-NO_MINUTE c = λ e. clash false e refl

pub returns : goal.returns
returns c =
    let fits = c.ranges in
    λ e. (omega (arith, c.if-start-eq-NO_MINUTE.false, fits.start.fits), leb-true _ _ e)
