-- `records::survey` meets its contract: after i jobs, their label lengths are summed, and it is known whether one of
-- them is faulty.
use mathlib.Core.Path.{◌≡◌}
use Prim.Native.Nat.{◌*◌, ◌≤◌}
use Rattle.counting.specs.Counting.{any}
use Rattle.sheet_format.specs.Format.{label_lengths, jobs_in}
use Rattle.sheet_format.specs.Checks.{faulty}
use Rattle.records.proofs.survey.Given as goal

abbrev pub invariant-loop-i : goal.invariant-loop-i
invariant-loop-i l =
    (l.total ≡ label_lengths l.i (jobs_in l.jobs)) × (l.found ≡ any l.i (λ k. faulty l.count (jobs_in l.jobs k))) × (l.total ≤ 255 * l.i)
