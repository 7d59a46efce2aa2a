-- `marks::all_later` meets its contract.
use Prim.Native.Nat.{ℕ}
use mathlib.Core.List.{List}
use Rattle.marks.specs.Marks.{LaterThan}
use Rattle.marks.proofs.Steps.{Filled}
use Rattle.marks.proofs.all_later.Given as goal

-- what each place is to have
abbrev pub Later : List ℕ → ℕ → ℕ → ℕ → Type 0
Later before n i = LaterThan before i n

abbrev pub invariant-loop-i : goal.invariant-loop-i
invariant-loop-i l = Filled (Later l.before l.n) l.i l.of
