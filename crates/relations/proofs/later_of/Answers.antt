-- `relations::later_of` meets its contract.
use mathlib.Core.Path.{◌≡◌, ap, ◌∙◌}
use mathlib.Core.Bool.{Bool, cond}
use Prim.Native.Nat.{ℕ}
use native.Mathlib.Omega.{arith}
use Rattle.bits.specs.Bits.{bit, with_bit}
use Rattle.bits.proofs.Sets.{set_of-none, set_of_more}
use Rattle.tables.specs.Tables.{earlier_at, count_of}
use Rattle.relations.proofs.later_of.Goals as goal

pub loop-k-init : goal.loop-k-init
loop-k-init c = set_of-none _

pub loop-k-preserved : goal.loop-k-preserved
loop-k-preserved c =
    let tested = c in
    let loop = tested.loop-k in
    let a = tested.args in
    let in_set : ℕ → Bool = λ k. bit (earlier_at a.jobs.now k) a.i in rw (c.with_later-set.ensures, c.earlier.ensures) (ap (λ (x : ℕ). cond (in_set loop.k) (with_bit x loop.k) x) loop.invariant
    ∙ set_of_more loop.k in_set)

pub returns : goal.returns
returns c =
    let loop = c.loop-k in
    let at = c in
    let e : loop.k ≡ count_of at.args.jobs.now = omega (arith, loop.auto.k-end, c.loop-k-test.false, at.count-n.ensures) in
    rw e at loop.invariant
