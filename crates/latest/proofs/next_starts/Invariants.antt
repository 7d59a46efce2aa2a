-- `latest::next_starts` meets its contract.
use mathlib.Core.Path.{◌≡◌}
use mathlib.Core.List.{List}
use Prim.Native.Nat.{ℕ}
use Rattle.tables.specs.declared.Jobs.{Jobs}
use Rattle.tables.specs.Tables.{count_of}
use Rattle.marks.proofs.Steps.{Filled}
use Rattle.latest.specs.Counted.{start_by}
use Rattle.latest.proofs.next_starts.Given as goal

-- what each place is to have
abbrev pub Has : Jobs → List ℕ → List ℕ → ℕ → ℕ → Type 0
Has t departures starts j x = x ≡ start_by t departures starts (count_of t) j

abbrev pub invariant-loop-j : goal.invariant-loop-j
invariant-loop-j l = (l.n ≡ count_of l.jobs) × Filled (Has l.jobs l.departures l.starts) l.j l.of
