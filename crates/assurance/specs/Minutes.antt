-- F-11: the calls of a plan that fall due in a minute, and what is held between two minutes.
use Rattle.std.specs.Prelude.{not, ◌&&◌, cond, List, [], ◌∷◌, ◌++◌, ℕ, ◌+◌, ltb, eqb}
use Rattle.counting.specs.Counting.{only, sum, largest, joined}
use Rattle.schedule.specs.Plan.{Sheet, Plan}
use Rattle.desk.specs.declared.Desk.{Desk}
use Rattle.desk.specs.Calls.{Call, refusal_of, desk_after, granted}
use Rattle.assurance.specs.Following.{Event, begin, end, minute, call_of}

-- the call of the event, if it falls due in minute t
abbrev pub due_at : Sheet → Plan → ℕ → ℕ → ℕ → Event → List Call
due_at S P s c t e = cond (eqb (minute S P e) t) (call_of S s c e ∷ []) []

-- "the hand-backs and then the claims that fall due, each job's in job order"
abbrev pub hand_backs_due : Sheet → Plan → ℕ → ℕ → ℕ → List Call
hand_backs_due S P s c t = joined S.jobs (λ j. due_at S P s c t (end j))

abbrev pub claims_due : Sheet → Plan → ℕ → ℕ → ℕ → List Call
claims_due S P s c t = joined S.jobs (λ j. due_at S P s c t (begin j))

unfoldable pub due_calls : Sheet → Plan → ℕ → ℕ → ℕ → List Call
due_calls S P s c t = hand_backs_due S P s c t ++ claims_due S P s c t

-- the first minute behind "the last hand-back", 0 "for a sheet without jobs"
unfoldable pub last_minute : Sheet → Plan → ℕ
last_minute S P = largest S.jobs (λ j. minute S P (end j) + 1)

-- what a controller that follows the plan holds when the minutes before t are done, in modules
abbrev pub held_before : Sheet → Plan → ℕ → ℕ
held_before S P t = sum S.jobs (λ j. only (ltb (P.start j) t && not (ltb (minute S P (end j)) t)) (S.need j))

-- ---- calls one after another, all or none

-- the number of the first call that is refused, 0 where none is
abbrev pub first_refusal : Desk → List Call → ℕ
first_refusal d [] = 0
first_refusal d (x ∷ l) = cond (granted d x) (first_refusal (desk_after d x) l) (refusal_of d x)
