-- What shows that no order which goes on from a part-plan can end by a target.
use Rattle.std.specs.Prelude.{◌⊎◌, List, ℕ, ◌+◌, ◌*◌, ◌≤◌, ◌<◌, get_or}
use Rattle.tables.specs.declared.Jobs.{Jobs}
use Rattle.tables.specs.declared.Prepared.{Prepared}
use Rattle.figures.specs.Figures.{no_minute}
use Rattle.tables.specs.Tables.{count_of, modules_of}
use Rattle.tables.specs.declared.Part.{Part}
use Rattle.placement.specs.Profile.{held_since, ProfileOf}
use Rattle.areas.specs.Areas.{most_left, HeldAfter}
use Rattle.weights.specs.Weights.{Outweighed}
use Rattle.overlaps.specs.Overlaps.{Overlapping}
use Rattle.lanes.specs.Lanes.{Overfull}
use Rattle.sums.specs.Serving.{Unserved}

-- ---- how large the figures are

-- what the bounds ask of the figures at minute l
pub record Bounding (t : Jobs) (p : Part) (l : ℕ) : Type 0 where
  pub held_after : HeldAfter p l
  pub profile : ProfileOf p p.gone p.free (modules_of t) l
  pub little : p.left ≤ most_left

-- ---- the bounds

-- some job that may come next, and the chain behind it, last until `end`
abbrev pub SomeTooLong : List ℕ → List ℕ → ℕ → ℕ → Type 0
SomeTooLong at tails count end = (j : ℕ) × (j < count) × (get_or at j 0 < no_minute) × (end ≤ get_or at j 0 + get_or tails j 0)

-- the free modules are too few for the unplaced jobs to end by minute T and to give them all back by minute C: jobs that must overlap have
-- no room, the jobs outweigh the modules or overfill the lanes, or the modules, one by one, cannot serve them
abbrev pub TooFew : Jobs → Prepared → Part → ℕ → ℕ → ℕ → Type 0
TooFew t prepared p l T C = Overlapping t prepared p l T ⊎ (Outweighed t p l C ⊎ (Overfull t p l C ⊎ Unserved t p l C))

-- no completion can end by minute T and give back all modules by minute C: the modules are taken, some job and the chain behind it last
-- longer, or the modules are too few
abbrev pub Hopeless : Jobs → Prepared → Part → List ℕ → ℕ → ℕ → ℕ → Type 0
Hopeless t prepared p at l T C =
    (modules_of t * C < modules_of t * l + (held_since p l + p.left))
    ⊎ (SomeTooLong at prepared.tails (count_of t) (T + 1) ⊎ TooFew t prepared p l T C)
