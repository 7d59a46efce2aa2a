-- `records::label_start` meets its contract: after i jobs, the lengths of their labels are summed.
use mathlib.Core.Path.{◌≡◌}
use Prim.Native.Nat.{◌*◌, ◌≤◌}
use Rattle.sheet_format.specs.Format.{label_lengths, jobs_in}
use Rattle.records.proofs.label_start.Given as goal

abbrev pub invariant-loop-i : goal.invariant-loop-i
invariant-loop-i l = (l.total ≡ label_lengths l.i (jobs_in l.jobs)) × (l.total ≤ 255 * l.i)
