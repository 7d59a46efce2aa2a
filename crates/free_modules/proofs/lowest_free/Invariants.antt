-- `free_modules::lowest_free` meets its contract.
use mathlib.Core.Path.{◌≡◌}
use Rattle.bits.specs.Bits.{set_of}
use Rattle.schedule.specs.ListPlan.{lowest}
use Rattle.free_modules.specs.Lowest.{outside}
use Rattle.free_modules.proofs.lowest_free.Given as goal

abbrev pub invariant-loop-m : goal.invariant-loop-m
invariant-loop-m l = l.set ≡ set_of l.m (lowest l.modules (outside l.busy) l.want)
