-- `latest::latest_starts` meets its contract.
use mathlib.Core.Path.{◌≡◌}
use Rattle.tables.specs.Tables.{count_of, Fit}
use Rattle.latest.proofs.Rounds.{After}
use Rattle.latest.proofs.latest_starts.Given as goal

abbrev pub invariant-loop-k : goal.invariant-loop-k
invariant-loop-k l = (l.n ≡ count_of l.jobs) × ((fit : Fit l.jobs) → After l.jobs l.departures fit l.k l.starts.of)
