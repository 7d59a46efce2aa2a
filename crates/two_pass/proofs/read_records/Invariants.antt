-- `two_pass::read_records` meets its contract: after i records, their jobs stand in their places, their label lengths are
-- summed, and it is known whether one of them is faulty.
use mathlib.Core.Path.{◌≡◌}
use Prim.Native.Nat.{◌*◌, ◌≤◌}
use Rattle.counting.specs.Counting.{any}
use Rattle.sheet_format.specs.Format.{label_lengths, job_from, places}
use Rattle.sheet_format.specs.Checks.{faulty}
use Rattle.two_pass.proofs.read_records.Given as goal

abbrev pub invariant-loop-i : goal.invariant-loop-i
invariant-loop-i l =
    (l.jobs ≡ places l.i (job_from l.sheet l.offset)) × (l.total ≡ label_lengths l.i (job_from l.sheet l.offset))
    × (l.found ≡ any l.i (λ k. faulty l.count (job_from l.sheet l.offset k))) × (l.total ≤ 255 * l.i)
