-- `widths::filled` meets its contract.
use mathlib.Core.Path.{refl, sym, ◌∙◌}
use mathlib.Core.Logic.{inl, inr}
use native.Mathlib.Omega.{arith}
use Rattle.widths.proofs.Filling.{filled_above, filled_is, none_above}
use Rattle.widths.proofs.filled.Goals as goal

pub returns-then-free-ge-LIMIT : goal.returns-then-free-ge-LIMIT
returns-then-free-ge-LIMIT c = sym (filled_above c.args.sums c.args.free c.if-free-ge-LIMIT.true)

pub loop-s-init : goal.loop-s-init
loop-s-init c = (omega (arith, c.if-free-ge-LIMIT.false), omega arith, λ x l m. absurd (omega arith))

pub has-requires : goal.has-requires
has-requires c = omega (arith, c.loop-s.invariant.0, c.loop-s.invariant.1)

pub returns-then-has : goal.returns-then-has
returns-then-has c =
    let loop = c.loop-s in
    filled_is _ _ _ loop.invariant.0 loop.invariant.1 (inl (sym c.has.ensures ∙ c.if-has.true)) loop.invariant.2

pub loop-s-preserved : goal.loop-s-preserved
loop-s-preserved c =
    let loop = c.loop-s in
    let none = sym c.has.ensures ∙ c.if-has.false in
    (loop.invariant.0, omega (arith, loop.invariant.1), none_above _ _ _ none loop.invariant.2)

pub returns : goal.returns
returns c =
    let inv = c.loop-s.invariant in
    let args = c.args in
    filled_is args.sums args.free 0 inv.0 (omega arith) (inr refl) (λ x l m. inv.2 x (omega (arith, c.loop-s-test.false)) m)
