-- Part-plans as the laws of the search speak of them: what a part-plan keeps, what completes it, and when one is ahead of another.
use Rattle.std.specs.Prelude.{◌≡◌, ◌⊎◌, ◌≢◌, true, false, List, [], ◌∷◌, ℕ, ◌+◌, ◌≤◌, ◌<◌, max, length}
use Rattle.counting.specs.Counting.{only, largest, count}
use Rattle.schedule.specs.Plan.{Sheet, finish}
use Rattle.schedule.specs.ListPlan.{PartPlan, Follows, ready, start_of, part_of}

-- the end of the placed jobs
abbrev pub part_end : Sheet → PartPlan → ℕ
part_end S P = largest S.jobs (λ i. only (P.placed i) (finish S P.plan i))

-- the placed jobs keep the rules of a valid plan, none starts after the last start, and one ends at it or later
pub record Sound (S : Sheet) (P : PartPlan) : Type 0 where
  pub inside : (j m : ℕ) → j < S.jobs → P.placed j ≡ true → P.plan.uses j m ≡ true → m < S.modules
  pub enough : (j : ℕ) → j < S.jobs → P.placed j ≡ true → count S.modules (P.plan.uses j) ≡ S.need j
  pub apart : (i j m : ℕ) → i < S.jobs → j < S.jobs → P.placed i ≡ true → P.placed j ≡ true → i ≢ j
      → P.plan.uses i m ≡ true → P.plan.uses j m ≡ true
      → (finish S P.plan i + S.rest ≤ P.plan.start j) ⊎ (finish S P.plan j + S.rest ≤ P.plan.start i)
  pub after : (i j : ℕ) → i < S.jobs → j < S.jobs → P.placed j ≡ true → S.before i j ≡ true
      → (P.placed i ≡ true) × (finish S P.plan i ≤ P.plan.start j)
  pub arrived : (j : ℕ) → j < S.jobs → P.placed j ≡ true → S.arrival j ≤ P.plan.start j
  pub early : (j : ℕ) → j < S.jobs → P.placed j ≡ true → P.plan.start j ≤ P.last
  pub ended : P.last ≤ part_end S P

-- o completes P: each job of it may come in its turn, and with those placed they are all
abbrev pub Completes : Sheet → PartPlan → List ℕ → Type 0
Completes S P o = Follows S P.placed o × (count S.jobs P.placed + length o ≡ S.jobs)

-- the start of the next job, and the end of the placed jobs where there is none
abbrev pub next_start : Sheet → PartPlan → List ℕ → ℕ
next_start S P [] = part_end S P
next_start S P (j ∷ o) = start_of S P j

-- no job that can come next starts before minute l
abbrev pub NoneBefore : Sheet → PartPlan → ℕ → Type 0
NoneBefore S P l = (j : ℕ) → ready S P.placed j ≡ true → l ≤ start_of S P j

-- From minute l on, A has placed the same jobs as B and keeps no module longer.
pub record Ahead (S : Sheet) (A B : PartPlan) (l : ℕ) : Type 0 where
  pub same : (i : ℕ) → i < S.jobs → A.placed i ≡ B.placed i
  pub last : A.last ≤ l
  pub ends : (i : ℕ) → i < S.jobs → A.placed i ≡ true
      → finish S A.plan i + S.rest ≤ max (finish S B.plan i + S.rest) l

-- those of v from i on, behind u, are a block: what came before has ended when i starts, all have ended when j would start, and no job that
-- is left waits for one of the block
pub record Block (S : Sheet) (u : List ℕ) (i : ℕ) (v : List ℕ) (j : ℕ) : Type 0 where
  pub new : (part_of S v).placed j ≡ false
  pub within : i < S.jobs
  pub soon : start_of S (part_of S u) j ≤ (part_of S v).plan.start i
  pub before : (k : ℕ) → k < S.jobs → (part_of S u).placed k ≡ true
      → finish S (part_of S v).plan k + S.rest ≤ (part_of S v).plan.start i
  pub ended : (k : ℕ) → k < S.jobs → (part_of S v).placed k ≡ true → finish S (part_of S v).plan k + S.rest ≤ start_of S (part_of S v) j
  pub unawaited : (k x : ℕ) → k < S.jobs → x < S.jobs → (part_of S u).placed k ≡ false → (part_of S v).placed k ≡ true
      → (part_of S v).placed x ≡ false → S.before k x ≡ false
  pub here : (k : ℕ) → k < S.jobs → (part_of S v).placed k ≡ false → S.arrival k ≤ (part_of S v).plan.start i
