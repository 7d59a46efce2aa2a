-- `label_check::wrong_labels` meets its contract: after i labels it is known where the next begins, and none of them is wrong.
use mathlib.Core.Path.{◌≡◌}
use mathlib.Core.Bool.{false}
use Rattle.sheet_format.specs.Format.{jobs_in, label_lengths}
use Rattle.sheet_format.specs.Checks.{wrong_labels}
use Rattle.label_check.proofs.wrong_labels.Given as goal

abbrev pub invariant-loop-i : goal.invariant-loop-i
invariant-loop-i l =
    (l.at ≡ label_lengths l.i (jobs_in l.jobs)) × (wrong_labels l.i (jobs_in l.jobs) l.labels ≡ false)
