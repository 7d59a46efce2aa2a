-- `heads::latest_end` meets its contract.
use Prim.Native.Nat.{◌+◌, ◌-◌, ◌≤◌}
use mathlib.Core.Path.{◌≡◌}
use lib.ListN.{get_or}
use Rattle.counting.specs.Counting.{only, largest}
use Rattle.bits.specs.Bits.{bit}
use Rattle.tables.specs.Tables.{minutes_at}
use Rattle.heads.proofs.latest_end.Given as goal

abbrev pub invariant-loop-i : goal.invariant-loop-i
invariant-loop-i l = l.r ≡ largest l.i (λ k. only (bit l.earlier k) (get_or l.heads k 0 + minutes_at l.jobs k))
