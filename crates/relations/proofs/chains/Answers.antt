-- `relations::chains` meets its contract.
use Prim.Native.Nat.{ℕ}
use mathlib.Core.Path.{◌≡◌, subst}
use native.Mathlib.Omega.{arith}
use borrow.Author.Rules.{rules}
use Rattle.tables.specs.Tables.{count_of}
use Rattle.relations.specs.Relations.{ChainsOf}
use Rattle.relations.proofs.Chaining.{chains-none}
use Rattle.relations.proofs.chains.Goals as goal

pub loop-k-init : goal.loop-k-init
loop-k-init c = chains-none _

pub lengthen-tails-requires : goal.lengthen-tails-requires
lengthen-tails-requires c =
    let at = c in
    (at.requires, (c.loop-k.invariant, omega (arith, c.loop-k-test.true, at.count-n.ensures, at.requires.few)))

pub loop-k-preserved : goal.loop-k-preserved
loop-k-preserved c = c.lengthen-tails.ensures

pub returns : goal.returns
returns c =
    let loop = c.loop-k in
    let at = c in
    let t = at.args.jobs.now in
    let e : loop.k ≡ count_of t = omega (arith, loop.auto.k-end, c.loop-k-test.false, at.count-n.ensures) in
    subst (λ (n : ℕ). ChainsOf t loop.tails.at n) e loop.invariant
