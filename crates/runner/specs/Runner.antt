-- F-11: the plan runner. What a start and a step answer.
use Rattle.std.specs.Prelude.{Bool, not, ◌&&◌, ◌||◌, cond, List, [], ◌∷◌, ◌++◌, ℕ, ◌+◌, ◌-◌, ltb, leb, eqb, length, get_or, take, replicate}
use Rattle.counting.specs.Counting.{every}
use Rattle.figures.specs.Figures.{most_jobs}
use Rattle.checking.specs.Checking.{Check, first_failing}
use Rattle.schedule.specs.Plan.{Sheet, Plan}
use Rattle.sheet_format.specs.Figures.{longest_sheet}
use Rattle.planable.specs.Planable.{sheet_in, planable_checks, planable_refusal}
use Rattle.card.specs.Card.{card_size}
use Rattle.card.specs.Decoding.{plan_on}
use Rattle.card_check.specs.Test.{card_fits}
use Rattle.desk.specs.declared.Desk.{Desk}
use Rattle.desk.specs.Desk.{most_power, most_controllers, holding, assured_share}
use Rattle.desk.specs.Checks.{in_range, not_of_desk}
use Rattle.desk.specs.Calls.{Call, desk_after_all}
use Rattle.assurance.specs.Following.{plan_need}
use Rattle.assurance.specs.Minutes.{due_calls, last_minute, first_refusal}
use Rattle.runner.specs.declared.Runner.{Runner}
use Rattle.runner.specs.declared.Started.{Started}
use Rattle.runner.specs.declared.Stepped.{Stepped}

-- the longest card
abbrev pub longest_card : ℕ
longest_card = card_size most_jobs

-- "the module size s of F-6", 1 to 10,000 hundreds of watts
abbrev pub largest_size : ℕ
largest_size = 10000

-- ---- what a runner keeps

abbrev pub kept_sheet : Runner → List ℕ
kept_sheet r = take r.sheet_len r.sheet

abbrev pub kept_card : Runner → List ℕ
kept_card r = take r.card_len r.card

-- the sheet and the plan that it follows
abbrev pub sheet_of : Runner → Sheet
sheet_of r = sheet_in (kept_sheet r)

abbrev pub plan_of : Runner → Plan
plan_of r = plan_on (kept_card r)

-- bytes in n places; those past the last are 0
abbrev pub in_places : ℕ → List ℕ → List ℕ
in_places n l = l ++ replicate (n - length l) 0

-- the runner behind an accepted start: "what it needs of sheet and card is kept from the start", and its first minute is 0
abbrev pub new_runner : List ℕ → List ℕ → ℕ → ℕ → Runner
new_runner s card c size = record {
  controller = c;
  size = size;
  minute = 0;
  sheet_len = length s;
  sheet = in_places longest_sheet s;
  card_len = length card;
  card = in_places longest_card card;
}

-- a refused start's: every figure is 0
abbrev pub no_runner : Runner
no_runner = record {
  controller = 0;
  size = 0;
  minute = 0;
  sheet_len = 0;
  sheet = replicate longest_sheet 0;
  card_len = 0;
  card = replicate longest_card 0;
}

abbrev pub with_minute : Runner → ℕ → Runner
with_minute r t = record {
  controller = r.controller;
  size = r.size;
  minute = t;
  sheet_len = r.sheet_len;
  sheet = r.sheet;
  card_len = r.card_len;
  card = r.card;
}

-- ---- the start

-- 24: "s is 0 or above 10,000"
abbrev pub wrong_size : ℕ → Bool
wrong_size size = not (in_range 1 largest_size size)

-- 25: "the controller's assured share is below N times s or it holds something"
abbrev pub not_ready : Desk → ℕ → Sheet → ℕ → Bool
not_ready d c S size = ltb (assured_share d c) (plan_need S size) || not (eqb (holding d c) 0)

-- 14, 24, 25, 26
abbrev pub run_checks : Sheet → List ℕ → Desk → ℕ → ℕ → List Check
run_checks S card d c size =
    (14, not_of_desk d c) ∷ (24, wrong_size size) ∷ (25, not_ready d c S size) ∷ (26, not (card_fits S card)) ∷ []

-- "After planning's checks without 10 comes 14, then 24 …, then 25 …, then 26"
abbrev pub start_checks : List ℕ → List ℕ → Desk → ℕ → ℕ → List Check
start_checks s card d c size = planable_checks s ++ run_checks (sheet_in s) card d c size

unfoldable pub start_refusal : List ℕ → List ℕ → Desk → ℕ → ℕ → ℕ
start_refusal s card d c size = first_failing (start_checks s card d c size)

unfoldable pub started : List ℕ → List ℕ → Desk → ℕ → ℕ → Started
started s card d c size = record {
  refusal = start_refusal s card d c size;
  runner = cond (eqb (start_refusal s card d c size) 0) (new_runner s card c size) no_runner;
}

-- ---- a step

-- the calls that fall due in the runner's minute
abbrev pub due_now : Runner → List Call
due_now r = due_calls (sheet_of r) (plan_of r) r.size r.controller r.minute

-- "a step after the last hand-back, or for a sheet without jobs"
abbrev pub over : Runner → Bool
over r = leb (last_minute (sheet_of r) (plan_of r)) r.minute

-- "Each step does the next minute"; one that comes when all is over "changes nothing"
abbrev pub next_minute : Runner → Runner
next_minute r = cond (over r) r (with_minute r (r.minute + 1))

-- n places of which those from `used` on are 0
unfoldable pub zeros_behind : ℕ → ℕ → List ℕ → Bool
zeros_behind n used l = eqb (length l) n && (leb used n && every n (λ i. ltb i used || eqb (get_or l i 0) 0))

-- What is kept would start on some desk: the start's own tests, with the largest share that a desk can have, and zeros behind.
unfoldable pub kept_ok : Runner → Bool
kept_ok r =
    zeros_behind longest_sheet r.sheet_len r.sheet
    && (zeros_behind longest_card r.card_len r.card
    && (eqb (planable_refusal (kept_sheet r)) 0
    && (ltb r.controller most_controllers
    && (in_range 1 largest_size r.size
    && (leb (plan_need (sheet_of r) r.size) most_power && card_fits (sheet_of r) (kept_card r))))))

-- A test of the runners "that an accepted start and later steps can leave": those of `LeftBySteps`, by the theorem `runner_when`.
unfoldable pub runner_ok : Runner → Bool
runner_ok r = kept_ok r && leb r.minute (last_minute (sheet_of r) (plan_of r))

-- 14: "for the desk and the controller number", and for "a step whose runner is one that no accepted start and later steps can leave"
unfoldable pub not_of_runner : Desk → Runner → Bool
not_of_runner d r = not_of_desk d r.controller || not (runner_ok r)

-- 14, or "the first such number" that the desk gives
unfoldable pub step_refusal : Desk → Runner → ℕ
step_refusal d r = cond (not_of_runner d r) 14 (first_refusal d (due_now r))

-- "A step with a call that the desk refuses gives the first such number and leaves desk and runner as before it."
unfoldable pub stepped : Desk → Runner → Stepped
stepped d r = record {
  refusal = step_refusal d r;
  desk = cond (eqb (step_refusal d r) 0) (desk_after_all d (due_now r)) d;
  runner = cond (eqb (step_refusal d r) 0) (next_minute r) r;
}
