-- `two_pass::read_records` meets its contract: after i records, their jobs stand in their places, their label lengths are
-- summed, and it is known whether one of them is faulty.
use mathlib.Core.Path.{◌≡◌, refl, ap, ap₂, ◌∙◌}
use mathlib.Core.Bool.{◌||◌}
use mathlib.Core.List.{List}
use Prim.Native.Nat.{◌+◌}
use native.Mathlib.Numerals.{add-one}
use native.Mathlib.Omega.{arith}
use lib.ListN.{set}
use Rattle.counting.specs.Counting.{sum, any, joined}
use Rattle.sheet_format.specs.declared.Job.{Job}
use Rattle.sheet_format.specs.Format.{no_jobs, label_length, label_lengths, job_from, places}
use Rattle.sheet_format.specs.Checks.{faulty}
use Rattle.sheet_format.proofs.Lists.{place_more}
use Rattle.two_pass.proofs.read_records.Goals as goal

pub loop-i-init : goal.loop-i-init
unfolding no_jobs places joined sum any
loop-i-init c = (c.no_jobs-jobs.ensures, refl, refl, omega arith)

pub loop-i-preserved : goal.loop-i-preserved
unfolding sum any
loop-i-preserved c =
    let v = c.loop-i in
    let f = job_from c.args.sheet.now
    c.args.offset in
    let n = c.args.count in
    let r = c.read_one-job in (
      ap₂ (λ (l : List Job) (j : Job). set l v.i j) v.invariant.0 r.ensures ∙ place_more v.i f (omega arith),
      rw add-one (ap₂ ◌+◌ v.invariant.1 (c.label_length-total.ensures.0 ∙ ap label_length r.ensures)),
      rw add-one (ap₂ ◌||◌ v.invariant.2 (c.faulty-found.ensures ∙ ap (faulty n) r.ensures)),
      omega arith,
    )

pub returns : goal.returns
returns c =
    let v = c.loop-i in
    let f = job_from c.args.sheet.now c.args.offset in
    let e : v.i ≡ c.args.count = omega arith in (
      v.invariant.0 ∙ ap (λ k. places k f) e,
      v.invariant.1 ∙ ap (λ k. label_lengths k f) e,
      v.invariant.2 ∙ ap (λ k. any k (λ m. faulty c.args.count (f m))) e,
    )
