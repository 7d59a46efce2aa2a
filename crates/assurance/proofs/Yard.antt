-- An instance: modules of 30 kW, E9's desk in hundreds of watts. Controller 1 follows E1's plan, while controller 0 takes all it can get,
-- others' calls are refused, and the limit and the shares change.
use mathlib.Core.Path.{◌≡◌, refl}
use mathlib.Core.Bool.{Bool, true, false, ◌&&◌}
use mathlib.Core.List.{List, [], ◌∷◌}
use Prim.Native.Nat.{ℕ}
use native.Mathlib.Omega.{arith}
use lib.Dec.{ltb, leb}
use borrow.Author.Tests.{ltb-true, leb-true}
use Rattle.counting.specs.Counting.{sum, largest, every, any}
use Rattle.counting.proofs.Tests.{clash, and_left, and_right}
use Rattle.counting.proofs.Ranges.{every-at}
use Rattle.checking.specs.Checking.{first_failing}
use Rattle.schedule.specs.Plan.{Sheet, Plan, Valid, Narrow, Lasting, Needing}
use Rattle.schedule.specs.ListPlan.{Order, ready, first_minute, start_of, place_all, list_plan}
use Rattle.schedule.specs.Rows.{job, sheet}
use Rattle.schedule.proofs.Sound.{list_plan_valid}
use Rattle.desk.specs.declared.Desk.{Desk}
use Rattle.desk.specs.Desk.{assured_share, new_desk}
use Rattle.desk.specs.Checks.{wrong_lengths, wrong_figures, shares_exceed, desk_ok, not_of_desk, wrong_count, some_holds_more, raised_exceed}
use Rattle.desk.specs.Reachable.{Reachable, opening}
use Rattle.desk.specs.Calls.{Call, claim, hand_back, look, change, refusal_of, desk_after}
use Rattle.desk.specs.Calls.{claim_refusal, claimed, hand_back_refusal, handed_back, look_refusal, looked, change_refusal, changed}
use Rattle.assurance.specs.Following.{Event, begin, end, minute, InOrder, FollowsPlan, FollowsSoFar, AllGranted, GrantedWhile, KeepsShare}
use Rattle.assurance.proofs.Once.{each_once, once_says}
use Rattle.assurance.proofs.Assured.{plan-granted, so_far-granted}

-- ---- E1's sheet and plan: A and C from minute 0 to 10, B from 10 to 30

abbrev yard_sheet : Sheet
yard_sheet = sheet (job 1 10 [] ∷ job 2 20 [] ∷ job 1 10 [] ∷ []) 2

yard_plan : Plan
yard_plan = list_plan yard_sheet (0 ∷ 2 ∷ 1 ∷ [])

yard_order : Order yard_sheet (0 ∷ 2 ∷ 1 ∷ [])
unfolding ready every
yard_order = record { all = refl; follows = (refl, (refl, (refl, tt))) }

yard_narrow : Narrow yard_sheet
unfolding every
yard_narrow j l = leb-true _ _ (every-at 3 (λ j. leb (yard_sheet.need j) 2) refl j l)

yard_lasting : Lasting yard_sheet
unfolding every
yard_lasting j l = ltb-true _ _ (every-at 3 (λ j. ltb 0 (yard_sheet.minutes j)) refl j l)

yard_needing : Needing yard_sheet
unfolding every
yard_needing j l = ltb-true _ _ (every-at 3 (λ j. ltb 0 (yard_sheet.need j)) refl j l)

yard_valid : Valid yard_sheet yard_plan
unfolding yard_plan
yard_valid = list_plan_valid yard_sheet yard_narrow (0 ∷ 2 ∷ 1 ∷ []) yard_order

-- that no change takes a share below n, as a computed test
abbrev kept_share : ℕ → ℕ → Desk → List Call → Bool
kept_share n c d [] = true
kept_share n c d (x ∷ l) = leb n (assured_share (desk_after d x) c) && kept_share n c (desk_after d x) l

kept_says : (n c : ℕ) (d : Desk) (l : List Call) → kept_share n c d l ≡ true → KeepsShare n c d l
kept_says n c d [] e = tt
kept_says n c d (x ∷ l) e =
    let first = leb n (assured_share (desk_after d x) c) in
    let rest = kept_share n c (desk_after d x) l in
    (leb-true n _ (and_left first rest e), kept_says n c (desk_after d x) l (and_right first rest e))

-- ---- E9's desk, and the calls

abbrev yard_desk : Desk
yard_desk = new_desk 3000 (1200 ∷ 900 ∷ []) (3000 ∷ 3000 ∷ [])

yard-opened : Reachable yard_desk
unfolding sum any first_failing wrong_lengths wrong_figures shares_exceed
yard-opened = opening 3000 (1200 ∷ 900 ∷ []) (3000 ∷ 3000 ∷ []) refl

-- In between the grid operator wants the limit at 2400, below what is held: 22. With 2700, and controller 1's share down to the 600 that
-- its plan needs, it is granted; a ceiling of 2000 for controller 0, which holds 2100, is 21, and a third controller 11.
abbrev yard_calls : List Call
yard_calls =
    claim 0 2100 ∷ claim 0 1 ∷ claim 1 300 ∷ look 1 ∷ claim 1 300 ∷ hand_back 0 2101 ∷ claim 9 1500
    ∷ change 2400 (1200 ∷ 600 ∷ []) (2400 ∷ 2400 ∷ []) ∷ change 2700 (1200 ∷ 600 ∷ []) (2700 ∷ 2700 ∷ [])
    ∷ change 2700 (1200 ∷ 600 ∷ []) (2000 ∷ 2700 ∷ []) ∷ change 2700 (1200 ∷ 600 ∷ 0 ∷ []) (2700 ∷ 2700 ∷ 0 ∷ [])
    ∷ hand_back 1 300 ∷ claim 0 300 ∷ hand_back 1 300 ∷ claim 1 600 ∷ claim 0 0 ∷ hand_back 1 600 ∷ []

abbrev yard_events : List Event
yard_events = begin 0 ∷ begin 2 ∷ end 0 ∷ end 2 ∷ begin 1 ∷ end 1 ∷ []

-- at minute 10 the hand-backs of A and C come before the claim of B
yard_in_order : InOrder yard_sheet yard_plan yard_events
unfolding yard_plan sum largest every any first_minute start_of place_all
yard_in_order = (
  record { rising = omega arith; hand_backs_first = λ q z. clash false z refl },
  (
    record { rising = omega arith; hand_backs_first = λ q z. absurd (omega arith) },
    (
      record { rising = omega arith; hand_backs_first = λ q z. refl },
      (
        record { rising = omega arith; hand_backs_first = λ q z. clash false z refl },
        (record { rising = omega arith; hand_backs_first = λ q z. absurd (omega arith) }, tt),
      ),
    ),
  ),
)

yard-follows : FollowsPlan yard_sheet yard_plan 300 1 yard_calls
unfolding each_once every
yard-follows = record { events = yard_events; once = once_says 3 yard_events refl; order = yard_in_order; own = refl }

-- ---- so every call of controller 1 is granted

-- behind every call its share is what the plan needs, 2 modules of 30 kW, or more
yard_keeps : KeepsShare 600 1 yard_desk yard_calls
unfolding sum every any first_failing wrong_lengths wrong_figures shares_exceed desk_ok not_of_desk wrong_count some_holds_more raised_exceed
    claim_refusal claimed hand_back_refusal handed_back look_refusal looked change_refusal changed
yard_keeps = kept_says 600 1 yard_desk yard_calls refl

pub yard-granted : AllGranted 1 yard_desk yard_calls
yard-granted =
    plan-granted yard_sheet yard_plan yard_valid yard_lasting yard_needing 300 (omega arith) yard_desk yard-opened 1 refl
    (omega arith) yard_calls yard_keeps yard-follows

-- what each call gives
abbrev numbers : Desk → List Call → List ℕ
numbers d [] = []
numbers d (x ∷ l) = refusal_of d x ∷ numbers (desk_after d x) l

-- Of the other calls controller 0's first claim and the second change are granted, and the rest are refused: 17, 18, 14, 22, 21, 11, 17
-- and 15.
pub yard_numbers : numbers yard_desk yard_calls
    ≡ 0 ∷ 17 ∷ 0 ∷ 0 ∷ 0 ∷ 18 ∷ 14 ∷ 22 ∷ 0 ∷ 21 ∷ 11 ∷ 0 ∷ 17 ∷ 0 ∷ 0 ∷ 15 ∷ 0 ∷ []
unfolding sum every any first_failing wrong_lengths wrong_figures shares_exceed desk_ok not_of_desk wrong_count some_holds_more raised_exceed
    claim_refusal claimed hand_back_refusal handed_back look_refusal looked change_refusal changed
yard_numbers = refl

-- ---- a plan that is not yet over, and a change that takes the share below its need

-- A and C are done, and B is still to come: a change leaves controller 1 a share of 500, of the 600 that its plan needs, and controller 0
-- takes the rest.
abbrev cut_calls : List Call
cut_calls =
    claim 1 300 ∷ claim 1 300 ∷ hand_back 1 300 ∷ hand_back 1 300
    ∷ change 3000 (1200 ∷ 500 ∷ []) (3000 ∷ 3000 ∷ []) ∷ claim 0 2500 ∷ claim 1 600 ∷ []

cut-follows : FollowsSoFar yard_sheet yard_plan 300 1 cut_calls
unfolding each_once every
cut-follows = record {
  made = begin 0 ∷ begin 2 ∷ end 0 ∷ end 2 ∷ begin 1 ∷ [];
  left = end 1 ∷ [];
  once = once_says 3 yard_events refl;
  order = yard_in_order;
  own = refl;
}

-- What it calls before that change is granted,
pub cut-granted : GrantedWhile 600 1 yard_desk cut_calls
cut-granted =
    so_far-granted yard_sheet yard_plan yard_valid yard_lasting yard_needing 300 (omega arith) yard_desk yard-opened 1 refl
    (omega arith) cut_calls cut-follows

-- and behind it B's claim is refused: the condition is needed.
pub cut_numbers : numbers yard_desk cut_calls ≡ 0 ∷ 0 ∷ 0 ∷ 0 ∷ 0 ∷ 0 ∷ 17 ∷ []
unfolding sum every any first_failing wrong_lengths wrong_figures shares_exceed desk_ok not_of_desk wrong_count some_holds_more raised_exceed
    claim_refusal claimed hand_back_refusal handed_back look_refusal looked change_refusal changed
cut_numbers = refl

-- ---- the same with a changeover of 5 (F-4.5): B from 15 to 35, A and C are handed back at 15 and B at 40

abbrev resting_sheet : Sheet
resting_sheet = record {
  jobs = 3;
  modules = 2;
  need = yard_sheet.need;
  minutes = yard_sheet.minutes;
  before = yard_sheet.before;
  arrival = yard_sheet.arrival;
  rest = 5;
}

resting_plan : Plan
resting_plan = list_plan resting_sheet (0 ∷ 2 ∷ 1 ∷ [])

resting_order : Order resting_sheet (0 ∷ 2 ∷ 1 ∷ [])
unfolding ready every
resting_order = record { all = refl; follows = (refl, (refl, (refl, tt))) }

resting_valid : Valid resting_sheet resting_plan
unfolding resting_plan
resting_valid = list_plan_valid resting_sheet yard_narrow (0 ∷ 2 ∷ 1 ∷ []) resting_order

resting_minutes : (minute resting_sheet resting_plan (end 0) ≡ 15) × (minute resting_sheet resting_plan (begin 1) ≡ 15)
    × (minute resting_sheet resting_plan (end 1) ≡ 40)
unfolding resting_plan sum largest every any first_minute start_of place_all
resting_minutes = (refl, refl, refl)

resting_in_order : InOrder resting_sheet resting_plan yard_events
unfolding resting_plan sum largest every any first_minute start_of place_all
resting_in_order = (
  record { rising = omega arith; hand_backs_first = λ q z. clash false z refl },
  (
    record { rising = omega arith; hand_backs_first = λ q z. absurd (omega arith) },
    (
      record { rising = omega arith; hand_backs_first = λ q z. refl },
      (
        record { rising = omega arith; hand_backs_first = λ q z. clash false z refl },
        (record { rising = omega arith; hand_backs_first = λ q z. absurd (omega arith) }, tt),
      ),
    ),
  ),
)

resting-follows : FollowsPlan resting_sheet resting_plan 300 1 yard_calls
unfolding each_once every
resting-follows = record { events = yard_events; once = once_says 3 yard_events refl; order = resting_in_order; own = refl }

pub resting-granted : AllGranted 1 yard_desk yard_calls
resting-granted =
    plan-granted resting_sheet resting_plan resting_valid yard_lasting yard_needing 300 (omega arith) yard_desk yard-opened 1 refl
    (omega arith) yard_calls yard_keeps resting-follows
