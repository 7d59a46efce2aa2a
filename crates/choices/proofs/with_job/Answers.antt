-- `choices::with_job` meets its contract.
use mathlib.Core.Path.{◌≡◌, sym, ◌∙◌}
use mathlib.Core.Bool.{false}
use native.Mathlib.Omega.{arith}
use Rattle.bits.specs.Bits.{bit}
use Rattle.choices.proofs.Choices.{sums_skip, sums_none, sums-room, sums_more}
use Rattle.choices.proofs.with_job.Goals as goal

pub returns-then-not-has : goal.returns-then-not-has
returns-then-not-has c =
    let args = c.args in
    let has = c.has in
    let out : bit args.set args.j ≡ false = sym has.ensures ∙ c.if-not-has.true in
    sums_skip c.requires.0 out

pub overflow_mul-count : goal.overflow_mul-count
overflow_mul-count c = record { fits = omega (arith, c.requires.0.few, c.well_formed.0.1) }

pub returns-then-count-at : goal.returns-then-count-at
returns-then-count-at c = sums_none c.requires.0

pub add_job-requires : goal.add_job-requires
add_job-requires c =
    let pre = c.requires in
    rw c.kept.ensures (sums-room pre.0 pre.1.0 pre.1.1 c.if-count-at.false)

pub returns : goal.returns
returns c =
    let past = c in
    let pre = past.requires in
    let add-job = c.add_job in
    let doubled = rw c.kept.ensures at add-job.ensures in
    sums_more pre.0 pre.1.1 (omega (arith, c.if-count-at.false, add-job.auto.at)) doubled
