-- `replay::replay` meets its contract.
use mathlib.Core.Path.{◌≡◌}
use lib.ListN.{take}
use Rattle.schedule.specs.ListPlan.{part_of}
use Rattle.tables.specs.Tables.{sheet_of, count_of}
use Rattle.placement.specs.Part.{IsPart}
use Rattle.replay.proofs.PlacedSlots.{SlotsOf}
use Rattle.replay.proofs.replay.Given as goal

abbrev pub invariant-loop-k : goal.invariant-loop-k
invariant-loop-k l = (l.count ≡ count_of l.jobs) × IsPart (sheet_of l.jobs) (take l.k l.order) l.part
    × SlotsOf (sheet_of l.jobs) (part_of (sheet_of l.jobs) (take l.k l.order)) l.slots
