-- `records::label_start` meets its contract: after i jobs, the lengths of their labels are summed.
use mathlib.Core.Path.{◌≡◌, refl, ap, ap₂, ◌∙◌}
use Prim.Native.Nat.{◌+◌}
use native.Mathlib.Numerals.{add-one}
use native.Mathlib.Omega.{arith}
use Rattle.counting.specs.Counting.{sum}
use Rattle.sheet_format.specs.Format.{label_lengths, jobs_in}
use Rattle.records.proofs.label_start.Goals as goal

pub loop-i-init : goal.loop-i-init
unfolding sum
loop-i-init c = (refl, omega arith)

pub loop-i-preserved : goal.loop-i-preserved
unfolding sum
loop-i-preserved c =
    let v = c.loop-i in
    (rw add-one (ap₂ ◌+◌ v.invariant.0 c.label_length-total.ensures.0), omega arith)

pub returns : goal.returns
returns c =
    let v = c.loop-i in
    let a = c.args in
    let e : v.i ≡ a.job = omega arith in
    (v.invariant.0 ∙ ap (λ k. label_lengths k (jobs_in a.jobs)) e, omega arith)
