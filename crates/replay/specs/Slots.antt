-- A plan's slots in code: each job's start, end and module set at the job's place.
use Rattle.std.specs.Prelude.{◌≡◌, List, ℕ, zero, suc, ◌+◌, ◌≤◌, ◌<◌, ltb, get_or, set}
use Rattle.std.specs.Int.Bits.{bit_or}
use Rattle.counting.specs.Counting.{only}
use Rattle.bits.specs.Bits.{set_of}
use Rattle.schedule.specs.Plan.{Sheet, finish}
use Rattle.schedule.specs.ListPlan.{list_plan}
use Rattle.tables.specs.declared.Jobs.{Jobs}
use Rattle.tables.specs.Tables.{need_at, minutes_at, count_of, modules_of, changeover_of}
use Rattle.free_modules.specs.Lowest.{lowest_outside}
use Rattle.replay.specs.declared.Slots.{Slots}

-- the slots with one for job j
unfoldable pub with_slot : Slots → ℕ → ℕ → ℕ → ℕ → Slots
with_slot s j start end modules = record {
  start = set s.start j start;
  end = set s.end j end;
  modules = set s.modules j modules;
}

-- the sets f 0 to f (n - 1) together
unfoldable pub union : ℕ → (ℕ → ℕ) → ℕ
union zero f = 0
union (suc n) f = bit_or (union n f) (f n)

-- the modules of the jobs that run or rest at minute u
abbrev pub busy_at : Slots → ℕ → ℕ → ℕ → ℕ
busy_at s count rest u = union count (λ i. only (ltb u (get_or s.end i 0 + rest)) (get_or s.modules i 0))

-- a job's end plus the rest is a number of 16 bits
abbrev pub Ending : Slots → ℕ → ℕ → Type 0
Ending s count rest = (i : ℕ) → i < count → get_or s.end i 0 + rest < 65536

-- the slots with job j placed from minute u on, on the lowest of the modules that are free then
abbrev pub with_job : Jobs → Slots → ℕ → ℕ → Slots
with_job t s j u = with_slot s j u (u + minutes_at t j) (lowest_outside (busy_at s (count_of t) (changeover_of t) u) (modules_of t) (need_at t j))

-- the slots of the list plan of the order o
pub record Replayed (S : Sheet) (o : List ℕ) (s : Slots) : Type 0 where
  pub start : (j : ℕ) → j < S.jobs → get_or s.start j 0 ≡ (list_plan S o).start j
  pub end : (j : ℕ) → j < S.jobs → get_or s.end j 0 ≡ finish S (list_plan S o) j
  pub modules : (j : ℕ) → j < S.jobs → get_or s.modules j 0 ≡ set_of S.modules ((list_plan S o).uses j)
  -- "places past the last job … are 0"
  pub past : (j : ℕ) → S.jobs ≤ j → (get_or s.start j 0 ≡ 0) × (get_or s.end j 0 ≡ 0) × (get_or s.modules j 0 ≡ 0)
