-- F-10: an entry per job with its latest start, its slack and its marks that others imply.
use Rattle.std.specs.Prelude.{◌≡◌, ◌⊎◌, ◌↔◌, cond, List, [], ◌∷◌, ◌++◌, ℕ, ◌-◌, ◌<◌, eqb, ℤ, pos, ◌-ℤ◌, ◌≤ℤ◌, ◌<ℤ◌, length, get_or, replicate}
use Rattle.std.proofs.Math.Option.{none, some}
use Rattle.counting.specs.Counting.{joined}
use Rattle.figures.specs.Figures.{most_jobs}
use Rattle.bits.specs.Bits.{bit}
use Rattle.schedule.specs.Plan.{Sheet, Plan, finish, MustPrecede}
use Rattle.schedule.specs.ListPlan.{list_plan}
use Rattle.schedule.specs.TieRule.{best_order}
use Rattle.sheet_format.specs.Format.{jobs_in}
use Rattle.sheet.specs.Read.{reading}
use Rattle.marks.specs.Implied.{implied, implied_marks}
use Rattle.latest.specs.Latest.{latest_start_of, slack_in, IsLatest, Meets}
use Rattle.planable.specs.Planable.{sheet_in, planable_refusal}
use Rattle.planner.specs.Planning.{plan_refusal}
use Rattle.planner.specs.Planned.{our_plan}
use Rattle.slack.specs.declared.JobSlack.{JobSlack}
use Rattle.slack.specs.declared.Slacks.{Slacks}

-- "In a list of fixed length, places past the last job are 0"
abbrev pub no_slack : JobSlack
no_slack = record { latest_start = pos 0; slack = pos 0; implied = 0 }

-- "an entry per job: latest start, slack, and the listed marks as a set of the record's kind"
abbrev pub slack_of : Sheet → (ℕ → ℕ) → Plan → ℕ → JobSlack
slack_of S departure P j = record {
  latest_start = latest_start_of S departure j;
  slack = slack_in S departure P j;
  implied = implied_marks S j;
}

-- the first n entries, and places past the last job 0
unfoldable pub slack_places : ℕ → (ℕ → JobSlack) → List JobSlack
slack_places n entry = joined n (λ j. entry j ∷ []) ++ replicate (most_jobs - n) no_slack

-- answered: an entry for each job of the sheet, beside this plan
abbrev pub slacks_in : Sheet → (ℕ → ℕ) → Plan → Slacks
slacks_in S departure P = record { refusal = 0; jobs = slack_places S.jobs (slack_of S departure P); count = S.jobs }

-- refused: the number, and every other figure 0
abbrev pub no_slacks : ℕ → Slacks
no_slacks k = record { refusal = k; jobs = replicate most_jobs no_slack; count = 0 }

-- the departure of job j on the sheet
abbrev pub departure_on : List ℕ → ℕ → ℕ
departure_on s j = (jobs_in (reading s).jobs j).departure

-- "Checks (without 10) … are as in planning"; the planned starts are those of the tie rule's plan
unfoldable pub slacks : List ℕ → Slacks
slacks s =
    cond (eqb (planable_refusal s) 0)
    (elim (best_order (sheet_in s)) [ none ↦ no_slacks 0 | some o ↦ slacks_in (sheet_in s) (departure_on s) (list_plan (sheet_in s) o) ])
    (no_slacks (planable_refusal s))

-- ---- what is proved of them

-- an entry for job j beside the plan P, in the paper's words
pub record EntryFor (S : Sheet) (departure : ℕ → ℕ) (P : Plan) (j : ℕ) (e : JobSlack) : Type 0 where
  -- "the least, over itself and those jobs, of the departure less the most minutes that any chain between the two takes"
  pub latest : IsLatest S departure j e.latest_start
  -- "the latest start by which it and all jobs that follow it … can still meet their departures"
  pub means : (t : ℤ) → (t ≤ℤ e.latest_start) ↔ ((start : ℕ → ℤ) × Meets S departure j t start)
  -- "that start … minus the planned one"
  pub slack : e.slack ≡ (e.latest_start -ℤ pos (P.start j))
  -- "negative when the job's own departure is missed"
  pub missed : departure j < finish S P j → e.slack <ℤ pos 0
  -- and negative only where the job, or one that follows it, is late
  pub late : e.slack <ℤ pos 0 → (k : ℕ) × ((k ≡ j) ⊎ MustPrecede S j k) × (departure k < finish S P k)
  -- "every earlier-job mark that another chain of marks already implies"
  pub marks : (i : ℕ) → i < S.jobs → bit e.implied i ≡ implied S i j

-- the entries of an answered call are so beside the plan on the card that planning writes
abbrev pub SlackAnswered : Type 0
SlackAnswered = (s card : List ℕ) → plan_refusal s (length card) ≡ 0
    → ((slacks s).refusal ≡ 0) × ((slacks s).count ≡ (sheet_in s).jobs)
    × ((j : ℕ) → j < (sheet_in s).jobs → EntryFor (sheet_in s) (departure_on s) (our_plan s card) j (get_or (slacks s).jobs j no_slack))

-- "The slack is that start … minus the planned one": the start on the card that planning writes
abbrev pub SlackPlanned : Type 0
SlackPlanned = (s card : List ℕ) → plan_refusal s (length card) ≡ 0 → (j : ℕ) → j < (sheet_in s).jobs
    → (get_or (slacks s).jobs j no_slack).slack ≡ ((get_or (slacks s).jobs j no_slack).latest_start -ℤ pos ((our_plan s card).start j))
