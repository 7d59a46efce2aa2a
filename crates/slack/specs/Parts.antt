-- What the parts of the call give.
use Rattle.std.specs.Prelude.{◌≡◌, List, ℕ, ◌+◌, ◌≤◌, ◌<◌, pos, ◌-ℤ◌, get_or}
use Rattle.figures.specs.Figures.{last_end}
use Rattle.schedule.specs.Plan.{Sheet}
use Rattle.schedule.specs.ListPlan.{list_plan}
use Rattle.schedule.specs.TieRule.{Best}
use Rattle.tables.specs.declared.Jobs.{Jobs}
use Rattle.tables.specs.Tables.{sheet_of}
use Rattle.latest.specs.Counted.{minute_zero, departure_at}
use Rattle.slack.specs.declared.JobSlack.{JobSlack}
use Rattle.slack.specs.declared.Slacks.{Slacks}
use Rattle.slack.specs.Slack.{slack_places, slacks_in, departure_on}

-- the departures of the jobs below n on the sheet
abbrev pub DeparturesOf : List ℕ → ℕ → List ℕ → Type 0
DeparturesOf s n r = (j : ℕ) → j < n → departure_at r j ≡ departure_on s j

-- the starts of the tie rule's plan
pub record PlannedStarts (S : Sheet) (r : List ℕ) : Type 0 where
  pub order : List ℕ
  pub best : Best S order
  pub start : (j : ℕ) → j < S.jobs → get_or r j 0 ≡ (list_plan S order).start j
  pub low : (j : ℕ) → j < S.jobs → get_or r j 0 ≤ last_end

-- the starts of the jobs below n are no later than any plan's end
abbrev pub StartsLow : ℕ → List ℕ → Type 0
StartsLow n starts = (j : ℕ) → j < n → get_or starts j 0 ≤ last_end

-- an entry, from a latest start as it is counted, a planned start and a set of marks
abbrev pub entry_from : ℕ → ℕ → ℕ → JobSlack
entry_from latest start implied = record {
  latest_start = pos latest -ℤ pos minute_zero;
  slack = pos latest -ℤ pos (minute_zero + start);
  implied = implied;
}

-- the entries of the jobs below n, from lists of these
abbrev pub slacks_from : List ℕ → List ℕ → List ℕ → ℕ → Slacks
slacks_from latest starts implied n = record {
  refusal = 0;
  jobs = slack_places n (λ j. entry_from (get_or latest j 0) (get_or starts j 0) (get_or implied j 0));
  count = n;
}

-- the slacks of a table beside the tie rule's plan
abbrev pub SlacksOf : Jobs → List ℕ → Slacks → Type 0
SlacksOf t departures r =
    (order : List ℕ) × Best (sheet_of t) order × (r ≡ slacks_in (sheet_of t) (departure_at departures) (list_plan (sheet_of t) order))
