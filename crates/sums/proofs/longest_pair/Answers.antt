-- `sums::longest_pair` meets its contract.
use Prim.Native.Nat.{ℕ}
use mathlib.Core.Path.{◌≡◌, refl, ap, ◌∙◌}
use native.Mathlib.Omega.{arith}
use native.Mathlib.Numerals.{add-one}
use Rattle.counting.specs.Counting.{largest}
use Rattle.sums.specs.Sums.{longest_pair}
use borrow.Author.Rules.{rules}
use Rattle.sums.proofs.longest_pair.Goals as goal

pub loop-i-init : goal.loop-i-init
unfolding longest_pair largest
loop-i-init c = refl

pub loop-i-preserved : goal.loop-i-preserved
unfolding longest_pair largest
loop-i-preserved c =
    let loop = c.loop-i in
    let paired = c.paired in
    rw (add-one, c.max-r.ensures, loop.invariant, paired.ensures)

pub returns : goal.returns
returns c =
    let loop = c.loop-i in
    let args = c.args in
    let e : loop.i ≡ args.lows = omega (arith, loop.auto.i-end, c.loop-i-test.false) in
    loop.invariant ∙ ap (λ (n : ℕ). longest_pair args.low.now n args.high.now args.highs args.x) e
