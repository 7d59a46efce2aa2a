-- `cabinets::least_count` meets its contract.
use mathlib.Core.Path.{◌≡◌}
use Prim.Native.Nat.{◌-◌}
use lib.ListN as listn
use Rattle.tables.specs.Tables.{sheet_of}
use Rattle.cabinets.specs.Counts.{Holds}
use Rattle.cabinets.proofs.least_count.Given as goal

abbrev pub invariant-loop-between : goal.invariant-loop-between
invariant-loop-between l = Holds (sheet_of l.jobs) l.by l.between × (listn.length l.memory ≡ listn.length l.initial.memory)

abbrev pub decreases-loop-between : goal.decreases-loop-between
decreases-loop-between l = l.between.high - l.between.low
