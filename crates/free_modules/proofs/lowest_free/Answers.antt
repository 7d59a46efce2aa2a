-- `free_modules::lowest_free` meets its contract.
use mathlib.Core.Path.{refl, ap, ◌∙◌}
use mathlib.Core.Bool.{cond, ◌&&◌}
use Prim.Native.Nat.{ℕ}
use native.Mathlib.Omega.{arith}
use lib.Dec.{ltb}
use lib.Count.{ones}
use Rattle.counting.specs.Counting.{sum}
use Rattle.bits.specs.Bits.{with_bit, set_of}
use Rattle.free_modules.specs.Lowest.{outside}
use Rattle.free_modules.proofs.Laws.{lowest_more}
use Rattle.free_modules.proofs.lowest_free.Goals as goal

pub loop-m-init : goal.loop-m-init
unfolding set_of sum
loop-m-init c = refl

pub loop-m-preserved : goal.loop-m-preserved
loop-m-preserved c =
    let loop = c.loop-m in
    let a = c.args in
    let m = loop.m in c.take_module-set.ensures
    ∙ ap (λ (x : ℕ). cond (outside a.busy m && ltb (ones x) a.want) (with_bit x m) x) loop.invariant
    ∙ lowest_more a.modules (outside a.busy) a.want m (omega arith)
