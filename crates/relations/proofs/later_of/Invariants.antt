-- `relations::later_of` meets its contract.
use Prim.Native.Nat.{◌-◌, ◌≤◌}
use Rattle.relations.specs.Relations.{LaterOf}
use Rattle.relations.proofs.later_of.Given as goal

abbrev pub invariant-loop-k : goal.invariant-loop-k
invariant-loop-k l = LaterOf l.jobs l.i l.k l.set
