-- `label_check::wrong_labels` meets its contract: after i labels it is known where the next begins, and none of them is wrong.
use mathlib.Core.Path.{◌≡◌, refl, sym, ap₂, ◌∙◌}
use mathlib.Core.Bool.{◌||◌}
use Prim.Native.Nat.{ℕ, ◌+◌, ◌-◌}
use native.Mathlib.Numerals.{add-one}
use native.Mathlib.Omega.{arith}
use Rattle.counting.specs.Counting.{sum, any}
use Rattle.counting.proofs.Ranges.{any_at}
use lib.ListN.{take, drop}
use Rattle.sheet_format.specs.Format.{jobs_in, label_length, label_in}
use Rattle.sheet_format.specs.Checks.{wrong_label}
use Rattle.sheet_format.proofs.Cuts.{label_within}
use Rattle.label_check.proofs.wrong_labels.Goals as goal

pub loop-i-init : goal.loop-i-init
unfolding sum any
loop-i-init c = (refl, refl)

pub overflow_add-to : goal.overflow_add-to
overflow_add-to c =
    let loop = c.loop-i in
    let a = c.args in
    omega (arith, label_within (jobs_in a.jobs) a.count loop.i c.loop-i-test.true, c.label_length.ensures.0)

pub slice_bounds-wrong_label-end : goal.slice_bounds-wrong_label-end
slice_bounds-wrong_label-end c =
    let loop = c.loop-i in
    let a = c.args in
    omega (arith, label_within (jobs_in a.jobs) a.count loop.i c.loop-i-test.true, c.label_length.ensures.0)

pub returns-then-wrong_label : goal.returns-then-wrong_label
returns-then-wrong_label c =
    let loop = c.loop-i in
    let a = c.args in
    let jobs = jobs_in a.jobs in
    let labels = a.labels.now in
    let size : loop.at + c.label_length.result - loop.at ≡ label_length (jobs loop.i) = omega (arith, c.label_length.ensures.0) in
    let cut : wrong_label (label_in jobs labels loop.i) ≡ c.wrong_label.result =
    sym (c.wrong_label.ensures ∙ ap₂ (λ (k m : ℕ). wrong_label (take k (drop m labels))) size loop.invariant.0) in
    sym (any_at a.count (λ i. wrong_label (label_in jobs labels i)) loop.i c.loop-i-test.true (cut ∙ c.if-wrong_label.true))

pub loop-i-preserved : goal.loop-i-preserved
unfolding sum any
loop-i-preserved c =
    let loop = c.loop-i in
    let a = c.args in
    let jobs = jobs_in a.jobs in
    let labels = a.labels.now in
    let long = c.label_length.ensures.0 in
    let size : loop.at + c.label_length.result - loop.at ≡ label_length (jobs loop.i) = omega (arith, long) in
    let cut : wrong_label (label_in jobs labels loop.i) ≡ c.wrong_label.result =
    sym (c.wrong_label.ensures ∙ ap₂ (λ (k m : ℕ). wrong_label (take k (drop m labels))) size loop.invariant.0) in
    (rw add-one (ap₂ ◌+◌ loop.invariant.0 long), rw add-one (ap₂ ◌||◌ loop.invariant.1 (cut ∙ c.if-wrong_label.false)))
