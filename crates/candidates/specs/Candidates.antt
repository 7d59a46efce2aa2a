-- What the starts of the jobs that may come next are, and the choice of the next.
use Rattle.std.specs.Prelude.{◌≡◌, ◌⊎◌, true, false, List, ℕ, ◌≤◌, ◌<◌, get_or}
use Rattle.figures.specs.Figures.{no_minute}
use Rattle.bits.specs.Bits.{bit}
use Rattle.schedule.specs.Plan.{Sheet}
use Rattle.schedule.specs.ListPlan.{PartPlan, ready, start_of, part_of}
use Rattle.tables.specs.declared.Jobs.{Jobs}
use Rattle.tables.specs.Tables.{sheet_of, Fit}
use Rattle.tables.specs.declared.Part.{Part}
use Rattle.tables.specs.Part.{word_of}
use Rattle.placement.specs.Part.{IsPart}
use Rattle.candidates.specs.declared.Choice.{Choice}

-- ---- starts

-- s is the start of job j, or no minute where it may not come next
pub record StartOr (S : Sheet) (P : PartPlan) (j s : ℕ) : Type 0 where
  pub here : ready S P.placed j ≡ true → s ≡ start_of S P j
  pub none : ready S P.placed j ≡ false → s ≡ no_minute

-- the starts of all jobs, and a minute from the last start on before which none of them lies
pub record StartsOf (S : Sheet) (P : PartPlan) (at : List ℕ) (least : ℕ) : Type 0 where
  pub each : (j : ℕ) → j < S.jobs → StartOr S P j (get_or at j 0)
  pub low : P.last ≤ least
  pub first : (j : ℕ) → j < S.jobs → least ≤ get_or at j 0

-- ---- the same, of the job table and a part-plan in code

-- the job table fits, and p is a part-plan of its jobs
pub record Known (t : Jobs) (p : Part) : Type 0 where
  pub fit : Fit t
  pub is : IsPart (sheet_of t) (word_of p) p

abbrev pub theory_part : Jobs → Part → PartPlan
theory_part t p = part_of (sheet_of t) (word_of p)

abbrev pub JobStart : Jobs → Part → ℕ → ℕ → Type 0
JobStart t p = StartOr (sheet_of t) (theory_part t p)

abbrev pub JobStarts : Jobs → Part → List ℕ → ℕ → Type 0
JobStarts t p = StartsOf (sheet_of t) (theory_part t p)

-- ---- the next job

-- of job c and job j, job d has the lower rank
abbrev pub LowerRank : ℕ → ℕ → ℕ → ℕ → ℕ → ℕ → Type 0
LowerRank c low j rank d least =
    ((d ≡ c) × ((least ≡ low) × (low ≤ rank))) ⊎ ((d ≡ j) × ((least ≡ rank) × (rank ≤ low)))

-- a choice among the first n jobs of a set: the one that starts first; none where none of them may come next
pub record ChoiceOf (at : List ℕ) (set n : ℕ) (c : Choice) : Type 0 where
  pub first : (k : ℕ) → k < n → bit set k ≡ true → c.start ≤ get_or at k 0
  pub some : c.start < no_minute → (c.job < n) × ((bit set c.job ≡ true) × (get_or at c.job 0 ≡ c.start))
  pub low : c.start ≤ no_minute
