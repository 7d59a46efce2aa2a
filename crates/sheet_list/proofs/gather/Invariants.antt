-- `sheet_list::gather` meets its contract: the first i records stand in their places.
use Rattle.std.proofs.Common.{◌≡◌}
use Rattle.sheet_format.specs.Format.{jobs_in, places}
use Rattle.sheet_list.proofs.gather.Given as goal

abbrev pub invariant-loop-i : goal.invariant-loop-i
invariant-loop-i l = l.list ≡ places l.i (jobs_in l.jobs)
