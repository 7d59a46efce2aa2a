-- `relations::row_of` meets its contract.
use Prim.Native.Nat.{◌-◌, ◌≤◌}
use Rattle.relations.specs.Relations.{RowOf}
use Rattle.relations.proofs.row_of.Given as goal

abbrev pub invariant-loop-i : goal.invariant-loop-i
invariant-loop-i l = RowOf l.jobs l.j l.i l.row
