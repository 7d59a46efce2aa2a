-- `relations::longest_behind` meets its contract.
use Prim.Native.Nat.{◌-◌, ◌≤◌}
use mathlib.Core.Path.{◌≡◌}
use lib.ListN.{get_or}
use Rattle.counting.specs.Counting.{only, largest}
use Rattle.bits.specs.Bits.{bit}
use Rattle.tables.specs.Tables.{earlier_at}
use Rattle.relations.proofs.longest_behind.Given as goal

abbrev pub invariant-loop-i : goal.invariant-loop-i
invariant-loop-i l = l.r ≡ largest l.i (λ k. only (bit (earlier_at l.jobs k) l.j) (get_or l.tails k 0))
