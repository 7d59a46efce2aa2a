-- `text::with_hexadecimal` meets its contract.
use mathlib.Core.Path.{◌≡◌, refl, ap}
use native.Mathlib.Omega.{arith}
use Rattle.counting.specs.Counting.{joined}
use Rattle.counting.proofs.Joins.{joined_more}
use Rattle.text.specs.Numbers.{hexadecimal}
use Rattle.text.specs.Texts.{adding}
use Rattle.text.proofs.Adding.{adding_more}
use Rattle.text.proofs.with_hexadecimal.Goals as goal

pub loop-i-init : goal.loop-i-init
unfolding adding joined
loop-i-init c = refl

pub loop-i-preserved : goal.loop-i-preserved
loop-i-preserved c =
    let loop = c.loop-i in rw (c.with_byte-next.ensures, c.digit.ensures, loop.invariant, adding_more) (ap (adding _) (joined_more loop.i _))

pub returns : goal.returns
unfolding hexadecimal
returns c =
    let loop = c.loop-i in
    let i : loop.i ≡ 16 = omega arith in
    rw (c.with_byte.ensures, loop.invariant, i, adding_more) refl
