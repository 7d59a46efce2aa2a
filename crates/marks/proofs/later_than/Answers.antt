-- `marks::later_than` meets its contract.
use mathlib.Core.Path.{ap, ◌∙◌}
use mathlib.Core.Bool.{Bool, cond}
use Prim.Native.Nat.{ℕ}
use lib.ListN.{get_or}
use Rattle.bits.specs.Bits.{bit, with_bit}
use Rattle.bits.proofs.Sets.{set_of-none, set_of_more}
use Rattle.marks.proofs.later_than.Goals as goal

pub loop-j-init : goal.loop-j-init
loop-j-init c = set_of-none _

pub loop-j-preserved : goal.loop-j-preserved
loop-j-preserved c =
    let loop = c.loop-j in
    let a = c.args in
    let in_set : ℕ → Bool = λ j. bit (get_or a.before.now j 0) a.i in rw (c.joined-set.ensures, c.has.ensures) (ap (λ (x : ℕ). cond (in_set loop.j) (with_bit x loop.j) x) loop.invariant
    ∙ set_of_more loop.j in_set)
