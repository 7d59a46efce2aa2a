-- `branching::ends_in_block` meets its contract.
use mathlib.Core.Path.{◌≡◌}
use Prim.Native.Nat.{◌-◌, ◌≤◌}
use Rattle.branching.proofs.Blocks.{Growing}
use Rattle.branching.proofs.ends_in_block.Given as goal

abbrev pub invariant-loop-m : goal.invariant-loop-m
invariant-loop-m l =
    (l.placed ≡ l.part.placed) × ((l.m ≤ l.placed) × Growing l.jobs l.part l.settled l.behind l.j l.found l.latest l.m)
