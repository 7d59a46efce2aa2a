-- Following a plan on a desk: K-5, K-6, and what R-3.3 asks.
use Rattle.std.specs.Prelude.{◌≡◌, Bool, true, false, not, ◌&&◌, cond, List, [], ◌∷◌, ◌++◌, map, ℕ, ◌+◌, ◌*◌, ◌≤◌, ltb, eqb}
use Rattle.counting.specs.Counting.{only}
use Rattle.schedule.specs.Plan.{Sheet, Plan, finish}
use Rattle.desk.specs.declared.Desk.{Desk}
use Rattle.desk.specs.Desk.{holding, assured_share}
use Rattle.desk.specs.Reachable.{Reachable}
use Rattle.desk.specs.Calls.{Call, claim, hand_back, look, change, is_change, refusal_of, desk_after}

-- ---- the calls of a plan

-- A job begins, and ends. (A job's modules are handed back when they have rested; in the base the rest is 0.)
pub data Event : Type 0 where
  begin end : ℕ → Event

abbrev pub job_of : Event → ℕ
job_of (begin j) = j
job_of (end j) = j

abbrev pub is_end : Event → Bool
is_end (begin j) = false
is_end (end j) = true

abbrev pub minute : Sheet → Plan → Event → ℕ
minute S P (begin j) = P.start j
minute S P (end j) = finish S P j + S.rest

-- "hands back each job's modules at that job's end minute and claims each job's modules at its start minute"; with modules of size s,
-- in hundreds of watts, it "claims and hands back modules times s per job" (F-6)
abbrev pub call_of : Sheet → ℕ → ℕ → Event → Call
call_of S s c (begin j) = claim c (S.need j * s)
call_of S s c (end j) = hand_back c (S.need j * s)

-- "the assured share it needs is N times s" (F-6)
abbrev pub plan_need : Sheet → ℕ → ℕ
plan_need S s = S.modules * s

-- how many times the event stands in the list
abbrev pub same_event : Event → Event → Bool
same_event (begin i) (begin j) = eqb i j
same_event (begin i) (end j) = false
same_event (end i) (begin j) = false
same_event (end i) (end j) = eqb i j

abbrev pub times : Event → List Event → ℕ
times e [] = 0
times e (f ∷ l) = only (same_event e f) 1 + times e l

-- "minutes rising and, within a minute, hand-backs before claims, otherwise in any order": e may stand right before f
pub record MayPrecede (S : Sheet) (P : Plan) (e f : Event) : Type 0 where
  pub rising : minute S P e ≤ minute S P f
  pub hand_backs_first : minute S P e ≡ minute S P f → is_end f ≡ true → is_end e ≡ true

abbrev pub InOrder : Sheet → Plan → List Event → Type 0
InOrder S P [] = Unit {0}
InOrder S P (e ∷ []) = Unit {0}
InOrder S P (e ∷ f ∷ l) = MayPrecede S P e f × InOrder S P (f ∷ l)

-- ---- a controller's calls in a list of calls

-- the call is a claim or a hand-back that bears controller c's number
abbrev pub bears : ℕ → Call → Bool
bears c (claim b k) = eqb b c
bears c (hand_back b k) = eqb b c
bears c (look b) = false
bears c (change l a t) = false

abbrev pub own_calls : ℕ → List Call → List Call
own_calls c [] = []
own_calls c (x ∷ l) = cond (bears c x) (x ∷ own_calls c l) (own_calls c l)

-- "Those claims and hand-backs that bear this controller's number are the 2n calls of our plan, in an order as above, and no others."
-- The events are those of the calls in their order: each job of the sheet begins once and ends once, and no other job does.
pub record FollowsPlan (S : Sheet) (P : Plan) (s c : ℕ) (calls : List Call) : Type 0 where
  pub events : List Event
  pub once : (e : Event) → times e events ≡ only (ltb (job_of e) S.jobs) 1
  pub order : InOrder S P events
  pub own : own_calls c calls ≡ map (call_of S s c) events

-- The same of a list in which the plan is not yet over: the events of its calls are the first of such an order.
pub record FollowsSoFar (S : Sheet) (P : Plan) (s c : ℕ) (calls : List Call) : Type 0 where
  pub made : List Event
  pub left : List Event
  pub once : (e : Event) → times e (made ++ left) ≡ only (ltb (job_of e) S.jobs) 1
  pub order : InOrder S P (made ++ left)
  pub own : own_calls c calls ≡ map (call_of S s c) made

-- a desk that can be, on which controller c is assured n or more and holds h
pub record Ready (n c h : ℕ) (d : Desk) : Type 0 where
  pub reachable : Reachable d
  pub share : n ≤ assured_share d c
  pub holds : holding d c ≡ h

-- "each of the 2n is granted, which is to say not refused", each call taking the desk that the one before it handed back
abbrev pub AllGranted : ℕ → Desk → List Call → Type 0
AllGranted c d [] = Unit {0}
AllGranted c d (x ∷ l) = (bears c x ≡ true → refusal_of d x ≡ 0) × AllGranted c (desk_after d x) l

-- ---- with changes of the shares in the list (F-7)

-- "as long as no change takes its controller's share below the plan's need": each of the controller's calls is granted, up to the first
-- change behind which its share is below n. (Of all calls only a granted change alters a share.)
abbrev pub GrantedWhile : ℕ → ℕ → Desk → List Call → Type 0
GrantedWhile n c d [] = Unit {0}
GrantedWhile n c d (x ∷ l) =
    (bears c x ≡ true → refusal_of d x ≡ 0) × (n ≤ assured_share (desk_after d x) c → GrantedWhile n c (desk_after d x) l)

-- no change in the list takes the share below n
abbrev pub KeepsShare : ℕ → ℕ → Desk → List Call → Type 0
KeepsShare n c d [] = Unit {0}
KeepsShare n c d (x ∷ l) = (n ≤ assured_share (desk_after d x) c) × KeepsShare n c (desk_after d x) l

-- no change stands in the list, granted or refused
abbrev pub unchanging : List Call → Bool
unchanging [] = true
unchanging (x ∷ l) = not (is_change x) && unchanging l
