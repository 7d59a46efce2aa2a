-- `choices::longest_fit` meets its contract.
use Prim.Native.Nat.{ℕ}
use mathlib.Core.Path.{◌≡◌, refl, ap, ◌∙◌}
use native.Mathlib.Omega.{arith}
use native.Mathlib.Numerals.{add-one}
use Rattle.counting.specs.Counting.{largest}
use Rattle.choices.specs.Choices.{longest}
use borrow.Author.Rules.{rules}
use Rattle.choices.proofs.longest_fit.Goals as goal

pub loop-i-init : goal.loop-i-init
unfolding longest largest
loop-i-init c = refl

pub loop-i-preserved : goal.loop-i-preserved
unfolding longest largest
loop-i-preserved c =
    let loop = c.loop-i in
    let fitting = c.fitting in
    rw (add-one, c.max-r.ensures, loop.invariant, fitting.ensures)

pub returns : goal.returns
returns c =
    let loop = c.loop-i in
    let args = c.args in
    let e : loop.i ≡ args.count = omega (arith, loop.auto.i-end, c.loop-i-test.false) in
    loop.invariant ∙ ap (λ (n : ℕ). longest args.at.now n args.x) e
