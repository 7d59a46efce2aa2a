-- `heads::of_all` meets its contract.
use Prim.Native.Nat.{ℕ}
use mathlib.Core.Path.{◌≡◌, subst}
use native.Mathlib.Omega.{arith}
use borrow.Author.Rules.{rules}
use Rattle.tables.specs.Tables.{count_of}
use Rattle.heads.specs.Heads.{HeadsOf}
use Rattle.heads.proofs.Advancing.{heads-none}
use Rattle.heads.proofs.of_all.Goals as goal

pub loop-k-init : goal.loop-k-init
loop-k-init c = heads-none _

pub advance-heads-requires : goal.advance-heads-requires
advance-heads-requires c =
    let at = c in
    (at.requires, (c.loop-k.invariant, omega (arith, c.loop-k-test.true, at.count-n.ensures, at.requires.few)))

pub loop-k-preserved : goal.loop-k-preserved
loop-k-preserved c = c.advance-heads.ensures

pub returns : goal.returns
returns c =
    let loop = c.loop-k in
    let at = c in
    let t = at.args.jobs.now in
    let e : loop.k ≡ count_of t = omega (arith, loop.auto.k-end, c.loop-k-test.false, at.count-n.ensures) in
    subst (λ (n : ℕ). HeadsOf t loop.heads.at n) e loop.invariant
