-- The bound by modules: what the modules can serve until all are given back.
use Rattle.std.specs.Prelude.{Bool, List, ℕ, ◌+◌, ◌-◌, ◌*◌, ◌≤◌, ◌<◌, ltb, leb, get_or}
use Rattle.counting.specs.Counting.{only, sum}
use Rattle.figures.specs.Figures.{most_jobs, most_modules}
use Rattle.tables.specs.declared.Jobs.{Jobs}
use Rattle.tables.specs.Tables.{count_of, modules_of}
use Rattle.tables.specs.declared.Part.{Part}
use Rattle.placement.specs.Profile.{held_of, ProfileOf}
use Rattle.choices.specs.Choices.{together, Within}

-- the first placed jobs, `gone` in number, have given back their modules by minute l and none of the others has, and so many modules are
-- free then
pub record Running (t : Jobs) (p : Part) (gone free l : ℕ) : Type 0 where
  pub profile : ProfileOf p gone free (modules_of t) l
  pub live : (k : ℕ) → gone ≤ k → k < p.placed → l < get_or p.until k 0

-- each of the placed jobs but the first `gone` holds no more than a cabinet has
pub record Narrow (p : Part) (gone : ℕ) : Type 0 where
  pub few : p.placed ≤ most_jobs
  pub inside : gone ≤ p.placed
  pub narrow : (k : ℕ) → gone ≤ k → k < p.placed → get_or p.held k 0 ≤ most_modules

-- what the modules of the placed jobs but the first `gone` serve, each from when it is given back, up to minute C
unfoldable pub served_from : (ℕ → ℕ) → Part → ℕ → ℕ → ℕ
served_from reach p gone C =
    sum p.placed (λ k. only (leb gone k) (get_or p.held k 0 * reach (C - get_or p.until k 0)))

-- the largest number of 16 bits
abbrev pub most16 : ℕ
most16 = 65535

-- what all modules of a cabinet serve in so many minutes
abbrev pub cabinet_serves : ℕ
cabinet_serves = most_modules * most16

-- and what they serve if they do so behind each job
abbrev pub most_served : ℕ
most_served = most_jobs * cabinet_serves

-- even if each module serves unplaced jobs for as long as sums of their kept minutes allow, from minute l, or from when the placed job that
-- holds it gives it back, up to minute C, some of their module-minutes stay unserved
pub record Unserved (t : Jobs) (p : Part) (l C : ℕ) : Type 0 where
  pub reach : ℕ → ℕ
  pub rises : (a b : ℕ) → a ≤ b → reach a ≤ reach b
  pub bounds : (X : ℕ → Bool) (x : ℕ) → Within X p.unplaced → together t (count_of t) X ≤ x → together t (count_of t) X ≤ reach x
  pub short : sum p.placed (λ k. only (ltb l (get_or p.until k 0)) (get_or p.held k 0 * reach (C - get_or p.until k 0)))
      + (modules_of t - held_of p l) * reach (C - l) < p.left
