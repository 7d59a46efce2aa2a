-- `heads::end_of` meets its contract.
use mathlib.Core.Path.{◌≡◌, sym, ◌∙◌}
use mathlib.Core.Bool.{true, false}
use native.Mathlib.Omega.{arith}
use Rattle.bits.specs.Bits.{bit}
use Rattle.heads.proofs.end_of.Goals as goal

pub overflow_add-result : goal.overflow_add-result
overflow_add-result c = record { fits = omega (arith, c.minutes.ensures, c.requires.1) }

pub returns-then-has : goal.returns-then-has
returns-then-has c =
    let args = c.args in
    let e : bit args.set args.i ≡ true = sym c.has.ensures ∙ c.if-has.true in
    rw (e, c.minutes.ensures)

pub returns : goal.returns
returns c =
    let args = c.args in
    let e : bit args.set args.i ≡ false = sym c.has.ensures ∙ c.if-has.false in
    rw e
