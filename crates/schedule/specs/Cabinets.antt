-- F-5: the same jobs in a cabinet of another size, and whether some valid plan there ends by a minute, computed.
use Rattle.std.specs.Prelude.{Bool, false, not, ◌&&◌, ℕ, leb}
use Rattle.std.proofs.Math.Option.{none, some}
use Rattle.schedule.specs.Plan.{Sheet, over_wide}
use Rattle.schedule.specs.TieRule.{best_order, end_of}

-- the same jobs, in a cabinet of k modules
abbrev pub with_modules : Sheet → ℕ → Sheet
with_modules S k = record {
  jobs = S.jobs;
  modules = k;
  need = S.need;
  minutes = S.minutes;
  before = S.before;
  arrival = S.arrival;
  rest = S.rest;
}

-- "some valid plan ends by T": by the tie rule's plan, and `ends_by_when` says that it is so for every valid plan
unfoldable pub ends_by : Sheet → ℕ → Bool
ends_by S t = not (over_wide S) && elim (best_order S) [ none ↦ false | some o ↦ leb (end_of S o) t ]
