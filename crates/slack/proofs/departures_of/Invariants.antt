-- `slack::departures_of` meets its contract.
use mathlib.Core.Path.{◌≡◌}
use mathlib.Core.List.{List}
use Prim.Native.Nat.{ℕ, ◌≤◌}
use Rattle.figures.specs.Figures.{most_jobs}
use Rattle.sheet.specs.Read.{reading}
use Rattle.marks.proofs.Steps.{Filled}
use Rattle.slack.specs.Slack.{departure_on}
use Rattle.slack.proofs.departures_of.Given as goal

-- what each place is to have
abbrev pub Departure : List ℕ → ℕ → ℕ → Type 0
Departure s j x = x ≡ departure_on s j

abbrev pub invariant-loop-j : goal.invariant-loop-j
invariant-loop-j l = (l.found ≡ reading l.sheet) × (l.found.count ≤ most_jobs) × Filled (Departure l.sheet) l.j l.of
