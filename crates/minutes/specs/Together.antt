-- Calls made together: all of them, or none.
use Rattle.std.specs.Prelude.{Bool, true, false, cond, List, ℕ, ◌*◌, ◌<◌, eqb}
use Rattle.counting.specs.Counting.{joined}
use Rattle.schedule.specs.Plan.{Sheet, Plan}
use Rattle.tables.specs.declared.Jobs.{Jobs}
use Rattle.tables.specs.Tables.{count_of, need_at}
use Rattle.desk.specs.declared.Desk.{Desk}
use Rattle.desk.specs.declared.Booked.{Booked}
use Rattle.desk.specs.Calls.{Call, refusal_of, desk_after, desk_after_all}
use Rattle.assurance.specs.Following.{Event, begin, end}
use Rattle.assurance.specs.Minutes.{due_at, first_refusal}
use Rattle.minutes.specs.declared.Turn.{Turn}

-- what a call answers, where it answers a number and the desk
abbrev pub answer_to : Desk → Call → Booked
answer_to d x = record { refusal = refusal_of d x; desk = desk_after d x }

-- "A step with a call that the desk refuses gives the first such number and leaves desk … as before it."
unfoldable pub together : Desk → List Call → Booked
together d l = record {
  refusal = first_refusal d l;
  desk = cond (eqb (first_refusal d l) 0) (desk_after_all d l) d;
}

-- job j begins, or ends
abbrev pub event : Bool → ℕ → Event
event true j = begin j
event false j = end j

-- the claims of the first n jobs that fall due, or the hand-backs
abbrev pub due_of : Sheet → Plan → Turn → Bool → ℕ → List Call
due_of S P turn claiming n = joined n (λ j. due_at S P turn.size turn.controller turn.minute (event claiming j))

-- each job's power is a number of 32 bits
abbrev pub PowersFit : Jobs → ℕ → Type 0
PowersFit t size = (j : ℕ) → j < count_of t → need_at t j * size < 4294967296
