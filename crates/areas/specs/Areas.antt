-- What shows that the modules have too few minutes up to a target.
use Rattle.std.specs.Prelude.{◌⊎◌, List, ℕ, ◌+◌, ◌-◌, ◌*◌, ◌≤◌, ◌<◌, max, get_or}
use Rattle.tables.specs.declared.Jobs.{Jobs}
use Rattle.tables.specs.declared.Prepared.{Prepared}
use Rattle.figures.specs.Figures.{most_jobs}
use Rattle.counting.specs.Counting.{only, sum}
use Rattle.bits.specs.Bits.{bit}
use Rattle.schedule.specs.Bounds.{minutes_behind}
use Rattle.tables.specs.Tables.{need_at, kept_at, count_of, modules_of}
use Rattle.tables.specs.declared.Part.{Part}
use Rattle.placement.specs.Profile.{held_since}

-- ---- how large the figures are

-- more than the module-minutes that 20 jobs of 64 modules and 1440 minutes keep from others
abbrev pub most_left : ℕ
most_left = 2000000

-- more than what 20 jobs of 64 modules hold until the last of them are given back
abbrev pub most_held : ℕ
most_held = 40000000

-- the first `gone` of the placed jobs have given back their modules by minute l, and what is held from then on is a small number
pub record HeldAfter (p : Part) (l : ℕ) : Type 0 where
  pub few : p.placed ≤ most_jobs
  pub inside : p.gone ≤ p.placed
  pub ended : (k : ℕ) → k < p.gone → get_or p.until k 0 ≤ l
  pub small : held_since p l ≤ most_held

-- the same from every minute on that is not before the last start
abbrev pub HeldLater : Part → Type 0
HeldLater p = (a : ℕ) → p.last ≤ a → HeldAfter p a

-- ---- jobs that arrive late

-- the module-minutes that job k keeps behind minute a at least, as it starts neither before minute l nor before its head
abbrev pub late_work : Jobs → Prepared → ℕ → ℕ → ℕ → ℕ
late_work t prepared l a k = need_at t k * minutes_behind (max l (get_or prepared.heads k 0)) a (kept_at t k)

-- some job and the chain that begins with it, from its head on, last beyond minute T
abbrev pub LateChain : Jobs → Prepared → ℕ → Type 0
LateChain t prepared T = (k : ℕ) × (k < count_of t) × (T < get_or prepared.heads k 0 + get_or prepared.tails k 0)

-- from some minute on the modules cannot do by minute C what is held and what is left behind it
abbrev pub LateArea : Jobs → Prepared → Part → ℕ → Type 0
LateArea t prepared p C = (a : ℕ) × (p.last ≤ a)
    × (modules_of t * (C - a) < sum (count_of t) (λ k. only (bit p.unplaced k) (late_work t prepared p.last a k)) + held_since p a)

-- jobs arrive too late to end by minute T and to give back all modules by minute C
abbrev pub TooLate : Jobs → Prepared → Part → ℕ → ℕ → Type 0
TooLate t prepared p T C = LateChain t prepared T ⊎ LateArea t prepared p C
