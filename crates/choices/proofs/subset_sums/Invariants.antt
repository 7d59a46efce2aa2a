-- `choices::subset_sums` meets its contract.
use mathlib.Core.Path.{◌≡◌}
use lib.ListN.{length}
use Rattle.tables.specs.Tables.{count_of}
use Rattle.choices.proofs.Choices.{Summing}
use Rattle.choices.proofs.subset_sums.Given as goal

abbrev pub invariant-loop-j : goal.invariant-loop-j
invariant-loop-j l = Summing l.jobs l.set (count_of l.jobs) l.j-iterator.left l.at l.count × (length l.at ≡ length l.initial.at)
