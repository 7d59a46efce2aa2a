-- `search::first_order` meets its contract.
use mathlib.Core.Path.{◌≡◌}
use Prim.Native.Nat.{◌-◌}
use lib.ListN.{length}
use Rattle.tables.specs.Tables.{count_of}
use Rattle.search.proofs.Placings.{Standing}
use Rattle.search.specs.Search.{Unlimited}
use Rattle.search.proofs.first_order.Given as goal

abbrev pub invariant-loop-k : goal.invariant-loop-k
invariant-loop-k l = (l.count ≡ count_of l.jobs)
    × (Standing l.jobs l.prepared l.part l.best l.memory l.k × ((length l.memory ≡ length l.initial.memory) × Unlimited l.initial.left l.left))
