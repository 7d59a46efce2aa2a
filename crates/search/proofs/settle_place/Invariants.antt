-- `search::settle_place` meets its contract.
use mathlib.Core.Path.{◌≡◌}
use Prim.Native.Nat.{suc, ◌-◌, ◌≤◌}
use lib.ListN.{length}
use Rattle.tables.specs.Tables.{sheet_of}
use Rattle.tables.specs.Part.{word_of}
use Rattle.search.specs.Search.{Remembered, Unlimited}
use Rattle.search.proofs.Placings.{NoneUpto}
use Rattle.search.proofs.settle_place.Given as goal

abbrev pub invariant-loop-j : goal.invariant-loop-j
invariant-loop-j l = NoneUpto (sheet_of l.jobs) l.best.end (word_of l.part) l.j
    × (Remembered (sheet_of l.jobs) l.memory (suc l.best.end) × ((length l.memory ≡ length l.initial.memory) × Unlimited l.initial.left l.left))
