-- `relations::relate` meets its contract.
use Prim.Native.Nat.{◌-◌, ◌≤◌}
use Rattle.relations.proofs.Pairs.{RelatedTo}
use Rattle.relations.proofs.relate.Given as goal

abbrev pub invariant-loop-j : goal.invariant-loop-j
invariant-loop-j l = RelatedTo l.jobs l.j l.all.of
