-- `search::visit` and `search::try_children`, which call each other, meet their contracts.
use mathlib.Core.Path.{◌≡◌}
use Prim.Native.Nat.{suc, ◌+◌, ◌*◌}
use lib.Count.{ones}
use lib.ListN.{length}
use Rattle.tables.specs.Tables.{sheet_of}
use Rattle.tables.specs.Part.{word_of}
use Rattle.search.specs.Search.{SettledSo, Remembered, Unlimited}
use Rattle.search.proofs.Sweeps.{Sweep}
use Rattle.search.proofs.+try_children_visit.Given as goal

abbrev pub decreases-try_children : goal.decreases-try_children
decreases-try_children l = ones l.part.now.unplaced * 2

abbrev pub decreases-visit : goal.decreases-visit
decreases-visit l = ones l.part.now.unplaced * 2 + 1

abbrev pub invariant-visit-loop-c : goal.invariant-visit-loop-c
invariant-visit-loop-c l =
    Sweep l.jobs l.part l.target l.at l.initial.untried l.untried l.tried l.c
    × (SettledSo (sheet_of l.jobs) l.target (word_of l.part) l.settled l.same
    × (Remembered (sheet_of l.jobs) l.memory (suc l.target)
    × ((length l.memory ≡ length l.initial.memory) × ((length l.slate ≡ length l.initial.slate) × Unlimited l.initial.left l.left))))

abbrev pub decreases-visit-loop-c : goal.decreases-visit-loop-c
decreases-visit-loop-c l =
    ones l.untried
