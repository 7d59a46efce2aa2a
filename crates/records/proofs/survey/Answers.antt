-- `records::survey` meets its contract: after i jobs, their label lengths are summed, and it is known whether one of
-- them is faulty.
use mathlib.Core.Path.{◌≡◌, refl, ap, ap₂, ◌∙◌}
use mathlib.Core.Bool.{◌||◌}
use Prim.Native.Nat.{◌+◌}
use native.Mathlib.Numerals.{add-one}
use native.Mathlib.Omega.{arith}
use Rattle.counting.specs.Counting.{sum, any}
use Rattle.sheet_format.specs.Format.{label_lengths, jobs_in}
use Rattle.sheet_format.specs.Checks.{faulty}
use Rattle.records.proofs.survey.Goals as goal

pub loop-i-init : goal.loop-i-init
unfolding sum any
loop-i-init c = (refl, refl, omega arith)

pub loop-i-preserved : goal.loop-i-preserved
unfolding sum any
loop-i-preserved c =
    let v = c.loop-i in (
      rw add-one (ap₂ ◌+◌ v.invariant.0 c.label_length-total.ensures.0),
      rw add-one (ap₂ ◌||◌ v.invariant.1 c.faulty-found.ensures),
      omega arith,
    )

pub returns : goal.returns
returns c =
    let v = c.loop-i in
    let e : v.i ≡ c.args.count = omega arith in (
      v.invariant.0 ∙ ap (λ k. label_lengths k (jobs_in c.args.jobs)) e,
      v.invariant.1 ∙ ap (λ k. any k (λ m. faulty c.args.count (jobs_in c.args.jobs m))) e,
    )
