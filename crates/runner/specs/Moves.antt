-- F-11: a yard with one desk and its runners, and what a list of calls and minutes does there.
use Rattle.std.specs.Prelude.{◌≡◌, ◌⊎◌, ◌≢◌, true, false, cond, List, [], ◌∷◌, ℕ, ◌≤◌, eqb}
use Rattle.desk.specs.declared.Desk.{Desk}
use Rattle.desk.specs.Desk.{assured_share}
use Rattle.desk.specs.Calls.{Call, refusal_of, desk_after}
use Rattle.assurance.specs.Following.{bears, plan_need}
use Rattle.runner.specs.declared.Runner.{Runner}
use Rattle.runner.specs.Runner.{sheet_of, over, stepped}

-- the desk, and the runners by number, as the moves before have left them
pub record Yard : Type 0 where
  pub desk : Desk
  pub runners : ℕ → Runner

-- a call on the desk, or a runner's next minute, "each step taking the runner that the start or the step before it handed back"
pub data Move : Type 0 where
  call : Call → Move
  step : ℕ → Move

abbrev pub number_of : Yard → Move → ℕ
number_of y (call x) = refusal_of y.desk x
number_of y (step i) = (stepped y.desk (y.runners i)).refusal

abbrev pub desk_after_move : Yard → Move → Desk
desk_after_move y (call x) = desk_after y.desk x
desk_after_move y (step i) = (stepped y.desk (y.runners i)).desk

abbrev pub runners_after : Yard → Move → ℕ → Runner
runners_after y (call x) = y.runners
runners_after y (step i) = λ k. cond (eqb k i) (stepped y.desk (y.runners i)).runner (y.runners k)

abbrev pub yard_after : Yard → Move → Yard
yard_after y x = record { desk = desk_after_move y x; runners = runners_after y x }

-- "under the condition that F-7 sets and the one on its own controller's other calls": a call in the controller's name, or a step of
-- another runner of that controller, does not stand there, and no change takes the share below N times s
abbrev pub LetsRun : ℕ → Yard → Move → Type 0
LetsRun i y (call x) =
    (bears (y.runners i).controller x ≡ false)
    × (plan_need (sheet_of (y.runners i)) (y.runners i).size ≤ assured_share (desk_after y.desk x) (y.runners i).controller)
LetsRun i y (step k) = (k ≡ i) ⊎ ((y.runners k).controller ≢ (y.runners i).controller)

-- "until the last hand-back"
abbrev pub Undisturbed : ℕ → Yard → Move → Type 0
Undisturbed i y x = (over (y.runners i) ≡ true) ⊎ LetsRun i y x

-- every step of runner i is granted, as long as the moves before it let it run
abbrev pub StepsGranted : ℕ → Yard → List Move → Type 0
StepsGranted i y [] = Unit {0}
StepsGranted i y (x ∷ l) = (x ≡ step i → number_of y x ≡ 0) × (Undisturbed i y x → StepsGranted i (yard_after y x) l)
