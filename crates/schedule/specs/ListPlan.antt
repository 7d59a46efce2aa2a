-- List plans (P-10 to P-13). Orders in which each job follows its earlier jobs, and the plan that places the jobs in such an order.
use Rattle.std.specs.Prelude.{◌≡◌, Bool, true, false, not, cond, ◌&&◌, ◌||◌, List, [], ◌∷◌, ℕ, zero, suc, ◌+◌, ◌≤◌, ◌<◌, max, ltb, leb, eqb, length}
use Rattle.counting.specs.Counting.{only, sum, largest, every, any, count}
use Rattle.schedule.specs.Plan.{Sheet, Plan, finish}

-- ---- orders

-- no jobs at all
abbrev pub no_jobs : ℕ → Bool
no_jobs i = false

-- the jobs of d, and job j
abbrev pub placing : (ℕ → Bool) → ℕ → ℕ → Bool
placing d j i = eqb i j || d i

-- job j can follow the jobs of d: it is a job of the sheet, it is not among them, and all its earlier jobs are
unfoldable pub ready : Sheet → (ℕ → Bool) → ℕ → Bool
ready S d j = ltb j S.jobs && not (d j) && every S.jobs (λ i. not (S.before i j) || d i)

-- after the jobs of d, each job of the list can follow those before it
abbrev pub Follows : Sheet → (ℕ → Bool) → List ℕ → Type 0
Follows S d [] = Unit {0}
Follows S d (j ∷ o) = (ready S d j ≡ true) × Follows S (placing d j) o

-- "an order of all jobs in which each follows its earlier jobs"
pub record Order (S : Sheet) (o : List ℕ) : Type 0 where
  pub all : length o ≡ S.jobs
  pub follows : Follows S no_jobs o

-- how often j stands in o: once, in an order (`order_once`)
abbrev pub times : ℕ → List ℕ → ℕ
times j [] = 0
times j (i ∷ o) = only (eqb j i) 1 + times j o

-- ---- part-plans

-- A part-plan (P-15). The jobs placed so far, their part of the plan, and "the previous job's start" (0 for the first).
pub record PartPlan : Type 0 where
  pub placed : ℕ → Bool
  pub plan : Plan
  pub last : ℕ

-- at minute t job i is placed and has not yet given up its modules
abbrev pub occupies : Sheet → PartPlan → ℕ → ℕ → Bool
occupies S P t i = P.placed i && ltb t (finish S P.plan i + S.rest)

-- at minute t module m is "free of the jobs already placed"
abbrev pub free : Sheet → PartPlan → ℕ → ℕ → Bool
free S P t m = not (any S.jobs (λ i. occupies S P t i && P.plan.uses i m))

-- how many modules the placed jobs need at minute t
unfoldable pub occupied : Sheet → PartPlan → ℕ → ℕ
occupied S P t = sum S.jobs (λ i. only (occupies S P t i) (S.need i))

-- what P-12 asks of a start: job j may start at minute t
pub record MayStart (S : Sheet) (P : PartPlan) (j t : ℕ) : Type 0 where
  -- "no earlier than the previous job's start in that order"
  pub later : P.last ≤ t
  pub arrived : S.arrival j ≤ t
  -- "no earlier than the ends of its earlier jobs"
  pub after : (i : ℕ) → i < S.jobs → S.before i j ≡ true → finish S P.plan i ≤ t
  -- "at which enough modules are free of the jobs already placed"
  pub room : S.need j ≤ count S.modules (free S P t)

-- the least of these minutes, computed: not before the previous job's start, the job's arrival and the ends of its earlier jobs
abbrev pub not_before : Sheet → PartPlan → ℕ → ℕ
not_before S P j =
    max P.last (max (S.arrival j) (largest S.jobs (λ i. only (S.before i j) (finish S P.plan i))))

-- the least minute from t on that passes the test, or t + k where none before it does
unfoldable pub first_minute : (ℕ → Bool) → ℕ → ℕ → ℕ
first_minute p zero t = t
first_minute p (suc k) t = elim (p t) [ true ↦ t | false ↦ first_minute p k (suc t) ]

-- from this minute on the placed jobs occupy nothing, so that no search need go further
abbrev pub all_free_from : Sheet → PartPlan → ℕ
all_free_from S P = largest S.jobs (λ i. only (P.placed i) (finish S P.plan i + S.rest))

-- "A job's start is the least minute that is no earlier than … and at which enough modules are free of the jobs already placed":
-- `start_least` says that it is the least at which the job may start.
unfoldable pub start_of : Sheet → PartPlan → ℕ → ℕ
start_of S P j = first_minute (λ t. leb (S.need j) (count S.modules (free S P t))) (all_free_from S P) (not_before S P j)

-- the k lowest of the numbers below n that pass the test: those with fewer than k such numbers below them
abbrev pub lowest : ℕ → (ℕ → Bool) → ℕ → ℕ → Bool
lowest n f k m = ltb m n && f m && ltb (count m f) k

-- P and job j from minute t on: "It takes the lowest-numbered of those."
abbrev pub place : Sheet → PartPlan → ℕ → ℕ → PartPlan
place S P j t = record {
  placed = placing P.placed j;
  plan = record {
    start = λ i. cond (eqb i j) t (P.plan.start i);
    uses = λ i m. cond (eqb i j) (lowest S.modules (free S P t) (S.need j) m) (P.plan.uses i m);
  };
  last = t;
}

-- ---- list plans

abbrev pub empty_part : PartPlan
empty_part = record { placed = no_jobs; plan = record { start = λ i. 0; uses = λ i m. false }; last = 0 }

-- "Place them in turn."
unfoldable pub place_all : Sheet → PartPlan → List ℕ → PartPlan
place_all S P [] = P
place_all S P (j ∷ o) = place_all S (place S P j (start_of S P j)) o

-- the part-plan of the jobs w, placed in that order
abbrev pub part_of : Sheet → List ℕ → PartPlan
part_of S w = place_all S empty_part w

abbrev pub list_plan : Sheet → List ℕ → Plan
list_plan S o = (part_of S o).plan
