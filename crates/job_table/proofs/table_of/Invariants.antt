-- `job_table::table_of` meets its contract.
use Rattle.job_table.proofs.Copies.{Copied}
use Rattle.job_table.proofs.table_of.Given as goal

abbrev pub invariant-loop-j : goal.invariant-loop-j
invariant-loop-j l = Copied l.found l.j l.table
