-- `marks::implied_marks` meets its contract.
use mathlib.Core.Path.{◌≡◌}
use mathlib.Core.List.{List}
use Prim.Native.Nat.{ℕ}
use Rattle.tables.specs.declared.Jobs.{Jobs}
use Rattle.tables.specs.Tables.{sheet_of}
use Rattle.marks.specs.Implied.{implied_marks}
use Rattle.marks.proofs.Steps.{Filled}
use Rattle.marks.proofs.implied_marks.Given as goal

-- what each place is to have
abbrev pub Implied : Jobs → ℕ → ℕ → Type 0
Implied t j x = x ≡ implied_marks (sheet_of t) j

abbrev pub invariant-loop-j : goal.invariant-loop-j
invariant-loop-j l = Filled (Implied l.jobs) l.j l.of
