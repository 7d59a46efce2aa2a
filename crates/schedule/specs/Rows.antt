-- Worked examples as rows: a sheet and plan written out as lists, what a row says, and the same as a test.
use Rattle.std.specs.Prelude.{◌≡◌, Bool, true, false, not, ◌&&◌, ◌||◌, List, [], ◌∷◌, ℕ, ◌<◌, eqb, length, get_or}
use Rattle.counting.specs.Counting.{every}
use Rattle.schedule.specs.Plan.{Sheet, Plan}
use Rattle.schedule.specs.ListPlan.{list_plan}
use Rattle.schedule.specs.TieRule.{Answer, wide, circular, planned, answer_of}

-- ---- sheets and plans from lists

-- the number stands in the list
abbrev pub listed : List ℕ → ℕ → Bool
listed [] i = false
listed (x ∷ l) i = eqb i x || listed l i

pub record Job : Type 0 where
  pub need : ℕ
  pub minutes : ℕ
  pub earlier : List ℕ
  pub arrival : ℕ

-- a job of w modules and m minutes, with its earlier jobs; it may start at once
abbrev pub job : ℕ → ℕ → List ℕ → Job
job w m e = record { need = w; minutes = m; earlier = e; arrival = 0 }

abbrev pub no_job : Job
no_job = job 0 0 []

-- the sheet of these jobs, for a cabinet of N modules that rest for r minutes
abbrev pub resting_sheet : List Job → ℕ → ℕ → Sheet
resting_sheet l N r = record {
  jobs = length l;
  modules = N;
  need = λ j. (get_or l j no_job).need;
  minutes = λ j. (get_or l j no_job).minutes;
  before = λ i j. listed (get_or l j no_job).earlier i;
  arrival = λ j. (get_or l j no_job).arrival;
  rest = r;
}

abbrev pub sheet : List Job → ℕ → Sheet
sheet l N = resting_sheet l N 0

-- a job's start and its modules
pub record Slot : Type 0 where
  pub start : ℕ
  pub modules : List ℕ

abbrev pub slot : ℕ → List ℕ → Slot
slot t l = record { start = t; modules = l }

abbrev pub plan_of : List Slot → Plan
plan_of l = record {
  start = λ j. (get_or l j (slot 0 [])).start;
  uses = λ j m. listed (get_or l j (slot 0 [])).modules m;
}

-- ---- rows

-- `answers`: planning the sheet answers so. `places`: the list plan of the order has these starts and modules.
pub data Row : Type 0 where
  answers : Sheet → Answer → Row
  places : Sheet → List ℕ → List Slot → Row

-- the two plans have the same starts and the same modules, on the sheet's jobs and modules
pub record Agree (S : Sheet) (P Q : Plan) : Type 0 where
  pub starts : (j : ℕ) → j < S.jobs → P.start j ≡ Q.start j
  pub uses : (j m : ℕ) → j < S.jobs → m < S.modules → P.uses j m ≡ Q.uses j m

-- what a row says
abbrev pub Right : Row → Type 0
Right (answers S a) = answer_of S ≡ a
Right (places S o l) = Agree S (list_plan S o) (plan_of l)

-- ---- the same as a test

abbrev pub same_test : Bool → Bool → Bool
same_test true b = b
same_test false b = not b

abbrev pub same_list : List ℕ → List ℕ → Bool
same_list [] [] = true
same_list [] (b ∷ m) = false
same_list (a ∷ l) [] = false
same_list (a ∷ l) (b ∷ m) = eqb a b && same_list l m

abbrev pub same_answer : Answer → Answer → Bool
same_answer wide wide = true
same_answer wide circular = false
same_answer wide (planned o e) = false
same_answer circular wide = false
same_answer circular circular = true
same_answer circular (planned o e) = false
same_answer (planned o e) wide = false
same_answer (planned o e) circular = false
same_answer (planned o e) (planned p f) = eqb e f && same_list o p

-- the two plans agree on the sheet's jobs and modules
abbrev pub same_plan : Sheet → Plan → Plan → Bool
same_plan S P Q =
    every S.jobs (λ j. eqb (P.start j) (Q.start j) && every S.modules (λ m. same_test (P.uses j m) (Q.uses j m)))

abbrev pub holds : Row → Bool
holds (answers S a) = same_answer (answer_of S) a
holds (places S o l) = same_plan S (list_plan S o) (plan_of l)

abbrev pub all_hold : List Row → Bool
all_hold [] = true
all_hold (r ∷ l) = holds r && all_hold l
