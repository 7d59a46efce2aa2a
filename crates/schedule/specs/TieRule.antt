-- The tie rule (P-14). Which order's list plan is the answer, as a statement and computed.
use Rattle.std.specs.Prelude.{◌≡◌, ◌⊎◌, Bool, true, false, cond, List, [], ◌∷◌, ℕ, zero, suc, ◌≤◌, ◌<◌, leb}
use Rattle.std.proofs.Math.Option.{Option, none, some}
use Rattle.counting.specs.Counting.{joined}
use Rattle.schedule.specs.Plan.{Sheet, Plan, Valid, plan_end, over_wide}
use Rattle.schedule.specs.ListPlan.{Order, no_jobs, placing, ready, list_plan}

-- the end of the list plan of an order
abbrev pub end_of : Sheet → List ℕ → ℕ
end_of S o = plan_end S (list_plan S o)

-- o comes no later than p "in dictionary order by job number"
abbrev pub DictionaryLe : List ℕ → List ℕ → Type 0
DictionaryLe [] p = Unit {0}
DictionaryLe (a ∷ o) [] = ⊥
DictionaryLe (a ∷ o) (b ∷ p) = (a < b) ⊎ ((a ≡ b) × DictionaryLe o p)

-- "Among the orders whose list plan ends first, the answer is the list plan of the order that comes first in dictionary order."
pub record Best (S : Sheet) (o : List ℕ) : Type 0 where
  pub order : Order S o
  pub early : (p : List ℕ) → Order S p → end_of S o ≤ end_of S p
  pub first : (p : List ℕ) → Order S p → end_of S p ≡ end_of S o → DictionaryLe o p

-- ---- the same, computed: every order in turn

-- each list with j in front
abbrev pub headed : ℕ → List (List ℕ) → List (List ℕ)
headed j [] = []
headed j (o ∷ l) = (j ∷ o) ∷ headed j l

-- the orders of k further jobs after the jobs of d, in dictionary order
unfoldable pub orders_after : Sheet → (ℕ → Bool) → ℕ → List (List ℕ)
orders_after S d zero = [] ∷ []
orders_after S d (suc k) = joined S.jobs (λ j. elim (ready S d j) [ true ↦ headed j (orders_after S (placing d j) k) | false ↦ [] ])

-- the first of the orders whose list plan ends first
unfoldable pub earliest_of : Sheet → List (List ℕ) → Option (List ℕ)
earliest_of S [] = none
earliest_of S (o ∷ l) = elim (earliest_of S l) [ none ↦ some o | some p ↦ cond (leb (end_of S o) (end_of S p)) (some o) (some p) ]

abbrev pub best_order : Sheet → Option (List ℕ)
best_order S = earliest_of S (orders_after S no_jobs S.jobs)

-- what planning answers of a sheet: over-wide (8), circular (9), or the best order and the end of its list plan
pub data Answer : Type 0 where
  wide circular : Answer
  planned : List ℕ → ℕ → Answer

abbrev pub plan_answer : Sheet → Option (List ℕ) → Answer
plan_answer S none = circular
plan_answer S (some o) = planned o (end_of S o)

unfoldable pub answer_of : Sheet → Answer
answer_of S = elim (over_wide S) [ true ↦ wide | false ↦ plan_answer S (best_order S) ]

-- the plan on the card: the tie rule's, valid, and no valid plan ends earlier
pub record Planned (S : Sheet) (o : List ℕ) (e : ℕ) : Type 0 where
  pub best : Best S o
  pub end : e ≡ end_of S o
  pub valid : Valid S (list_plan S o)
  pub earliest : (Q : Plan) → Valid S Q → e ≤ plan_end S Q
