-- F-13 with runners: "The plan runner's minutes count as its controller's calls".
use Rattle.std.specs.Prelude.{◌≡◌, ◌≢◌, Bool, true, not, cond, List, [], ◌∷◌, ℕ, ◌<◌, eqb}
use Rattle.desk.specs.declared.Desk.{Desk}
use Rattle.desk.specs.Desk.{holding}
use Rattle.desk.specs.Reachable.{Reachable}
use Rattle.desk.specs.Calls.{Call, is_change, refusal_of, desk_after, granted}
use Rattle.assurance.specs.Following.{bears}
use Rattle.runner.specs.declared.Runner.{Runner}
use Rattle.runner.specs.Runner.{due_now, next_minute, runner_ok}
use Rattle.runner.specs.Moves.{Yard, Move, call, step, number_of, yard_after}
use Rattle.neighbours.specs.Alone.{alone_number, alone_holding, alone_after, KeepsWithin}

-- ---- alone

-- calls made together, from the holding alone: the first refusal's number, and the holding afterwards
abbrev pub alone_first : ℕ → List Call → ℕ
alone_first h [] = 0
alone_first h (x ∷ l) = cond (eqb (alone_number h x) 0) (alone_first (alone_holding h x) l) (alone_number h x)

-- what a controller has for itself: its holding and its runners
pub record Own : Type 0 where
  pub holds : ℕ
  pub runners : ℕ → Runner

abbrev pub own_number : Own → Move → ℕ
own_number o (call x) = alone_number o.holds x
own_number o (step i) = cond (runner_ok (o.runners i)) (alone_first o.holds (due_now (o.runners i))) 14

abbrev pub own_holding : Own → Move → ℕ
own_holding o (call x) = alone_holding o.holds x
own_holding o (step i) = cond (eqb (own_number o (step i)) 0) (alone_after o.holds (due_now (o.runners i))) o.holds

abbrev pub own_runners : Own → Move → ℕ → Runner
own_runners o (call x) = o.runners
own_runners o (step i) =
    λ k. cond (eqb k i) (cond (eqb (own_number o (step i)) 0) (next_minute (o.runners i)) (o.runners i)) (o.runners k)

abbrev pub own_after : Own → Move → Own
own_after o x = record { holds = own_holding o x; runners = own_runners o x }

abbrev pub own_numbers : Own → List Move → List ℕ
own_numbers o [] = []
own_numbers o (x ∷ l) = own_number o x ∷ own_numbers (own_after o x) l

abbrev pub own_after_all : Own → List Move → Own
own_after_all o [] = o
own_after_all o (x ∷ l) = own_after_all (own_after o x) l

-- ---- in the yard

-- the move is the controller's: a claim or a hand-back that bears its number, or a minute of a runner of it
abbrev pub is_of : ℕ → (ℕ → Runner) → Move → Bool
is_of c runners (call x) = bears c x
is_of c runners (step i) = eqb (runners i).controller c

abbrev pub moves_of : ℕ → (ℕ → Runner) → List Move → List Move
moves_of c runners [] = []
moves_of c runners (x ∷ l) = cond (is_of c runners x) (x ∷ moves_of c runners l) (moves_of c runners l)

abbrev pub numbers_of : ℕ → Yard → List Move → List ℕ
numbers_of c y [] = []
numbers_of c y (x ∷ l) = cond (is_of c y.runners x) (number_of y x ∷ numbers_of c (yard_after y x) l) (numbers_of c (yard_after y x) l)

abbrev pub yard_after_all : Yard → List Move → Yard
yard_after_all y [] = y
yard_after_all y (x ∷ l) = yard_after_all (yard_after y x) l

-- a minute's claims, each made while none before it was refused
abbrev pub WithinTogether : ℕ → Desk → List Call → Type 0
WithinTogether c d [] = Unit {0}
WithinTogether c d (x ∷ l) = KeepsWithin c d x × (granted d x ≡ true → WithinTogether c (desk_after d x) l)

-- "while a controller's holding plus its claim never passes its assured share"; a minute that gives 14 makes no claim
abbrev pub MoveWithin : ℕ → Yard → Move → Type 0
MoveWithin c y (call x) = KeepsWithin c y.desk x
MoveWithin c y (step i) = runner_ok (y.runners i) ≡ true → WithinTogether c y.desk (due_now (y.runners i))

abbrev pub MovesWithin : ℕ → Yard → List Move → Type 0
MovesWithin c y [] = Unit {0}
MovesWithin c y (x ∷ l) = MoveWithin c y x × MovesWithin c (yard_after y x) l

-- no change is granted
abbrev pub NoChange : Yard → List Move → Type 0
NoChange y [] = Unit {0}
NoChange y (call x ∷ l) = (is_change x ≡ true → refusal_of y.desk x ≢ 0) × NoChange (yard_after y (call x)) l
NoChange y (step i ∷ l) = NoChange (yard_after y (step i)) l

-- ---- the statements

abbrev pub own : ℕ → Yard → Own
own c y = record { holds = holding y.desk c; runners = y.runners }

-- `moves_alone`: the answers, the final holding and the controller's final runners are those of its own moves alone
pub record Unnoticed (c : ℕ) (y : Yard) (l : List Move) : Type 0 where
  pub numbers : numbers_of c y l ≡ own_numbers (own c y) (moves_of c y.runners l)
  pub holds : holding (yard_after_all y l).desk c ≡ (own_after_all (own c y) (moves_of c y.runners l)).holds
  pub runners : (i : ℕ) → (y.runners i).controller ≡ c
      → (yard_after_all y l).runners i ≡ (own_after_all (own c y) (moves_of c y.runners l)).runners i

abbrev pub MovesAlone : Type 0
MovesAlone =
    (l : List Move) (y : Yard) → Reachable y.desk → (c : ℕ) → c < y.desk.count → MovesWithin c y l → NoChange y l → Unnoticed c y l

-- `mergings_same`: "If all keep to that, every merging of the controllers' calls ends in the same desk", and in the same runners
abbrev pub MergingsSame : Type 0
MergingsSame =
    (y : Yard) → Reachable y.desk → (l m : List Move) → NoChange y l → NoChange y m
    → ((c : ℕ) → c < y.desk.count → moves_of c y.runners l ≡ moves_of c y.runners m)
    → ((c : ℕ) → c < y.desk.count → MovesWithin c y l)
    → ((yard_after_all y l).desk ≡ (yard_after_all y m).desk)
    × ((i : ℕ) → (y.runners i).controller < y.desk.count → (yard_after_all y l).runners i ≡ (yard_after_all y m).runners i)
