-- Beginnings of orders: what begins with some jobs, what comes before that in the dictionary of orders, and that no order which begins so ends
-- before a minute. Every rule of the search gives `CannotBeat`.
use Rattle.std.specs.Prelude.{◌≡◌, ◌⊎◌, List, [], ◌∷◌, ◌++◌, ℕ, ◌≤◌, ◌<◌}
use Rattle.schedule.specs.Plan.{Sheet}
use Rattle.schedule.specs.ListPlan.{Order}
use Rattle.schedule.specs.TieRule.{end_of}

-- o begins with w
abbrev pub Begins : List ℕ → List ℕ → Type 0
Begins w o = (p : List ℕ) × (o ≡ w ++ p)

-- o comes before all that begins with w: where they first differ it has the lower job
abbrev pub Before : List ℕ → List ℕ → Type 0
Before [] o = ⊥
Before (b ∷ w) [] = ⊥
Before (b ∷ w) (a ∷ o) = (a < b) ⊎ ((a ≡ b) × Before w o)

-- o comes before all that begins with w, or begins with w and then a job below m
abbrev pub Upto : List ℕ → ℕ → List ℕ → Type 0
Upto w m o = Before w o ⊎ ((j : ℕ) × (j < m) × Begins (w ++ (j ∷ [])) o)

-- no order that begins with w ends before e
unfoldable pub CannotBeat : Sheet → ℕ → List ℕ → Type 0
CannotBeat S e w = (o : List ℕ) → Order S o → Begins w o → e ≤ end_of S o
