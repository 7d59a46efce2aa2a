-- `latest::start_by` meets its contract.
use mathlib.Core.Path.{◌≡◌}
use Rattle.tables.specs.Tables.{minutes_at, count_of}
use Rattle.latest.specs.Counted.{start_by}
use Rattle.latest.proofs.start_by.Given as goal

abbrev pub invariant-loop-i : goal.invariant-loop-i
invariant-loop-i l = (l.n ≡ count_of l.jobs) × (l.minutes ≡ minutes_at l.jobs l.j) × (l.start ≡ start_by l.jobs l.departures l.starts l.i l.j)
