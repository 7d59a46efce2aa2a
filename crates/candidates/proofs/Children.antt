-- The jobs that a part-plan has placed, and one more: the part-plan with a job placed that may come next.
use mathlib.Core.Path.{◌≡◌, sym, ap, ◌∙◌, subst}
use mathlib.Core.Logic.{◌⊎◌, inl, inr}
use mathlib.Core.Bool.{true, false}
use mathlib.Core.List.{List, [], ◌∷◌, ◌++◌}
use Prim.Native.Nat.{ℕ, suc, ◌<◌}
use native.Mathlib.Omega.{arith}
use lib.Count.{ones}
use lib.ListN.{length, get_or}
use lib.Seq.{get_or-take}
use Rattle.counting.proofs.Tests.{true-or-false}
use Rattle.schedule.specs.Plan.{Sheet}
use Rattle.schedule.specs.ListPlan.{PartPlan, no_jobs, ready}
use Rattle.schedule.proofs.Branch.{place_within}
use Rattle.tables.specs.declared.Jobs.{Jobs}
use Rattle.tables.specs.Tables.{sheet_of, count_of, Fit}
use Rattle.tables.specs.declared.Part.{Part}
use Rattle.tables.specs.Part.{word_of}
use Rattle.placement.specs.Part.{FirstPart, IsPart, Placeable, Placed}
use Rattle.placement.proofs.Parts.{first_is, left-count, start_short, placeable, fewer, placed_part}
use Rattle.candidates.specs.Candidates.{Known, theory_part, JobStart}
use Rattle.candidates.proofs.Starting.{started}

-- before the first job
pub first_known : (t : Jobs) (p : Part) → Fit t → FirstPart t p → Known t p
first_known t p fit h =
    let is = first_is t fit p h in
    record { fit = fit; is = rw is.word is }

pub first_word : (t : Jobs) (p : Part) → Fit t → FirstPart t p → word_of p ≡ []
first_word t p fit h = (first_is t fit p h).word

-- ---- the jobs placed

module _ {t : Jobs} {p : Part} (known : Known t p) where
  pub word-length : length (word_of p) ≡ p.placed
  word-length = omega (arith, left-count t known.fit p (word_of p) known.is, known.is.figures.sizes)

  pub word_at : (k : ℕ) → k < p.placed → get_or (word_of p) k 0 ≡ get_or p.order k 0
  word_at k = get_or-take p.placed p.order k 0

  -- the placed jobs are numbers of jobs
  pub word_within : (k : ℕ) → k < p.placed → get_or p.order k 0 < count_of t
  word_within k l = omega (arith, word_at k l, word-length, place_within (sheet_of t) no_jobs (word_of p) known.is.follows k (omega (arith, word-length)))

-- ---- the next job

-- a job that may come next has a start
pub starts_short : {t : Jobs} {part : Part} {j s : ℕ} → Known t part
    → ready (sheet_of t) (theory_part t part).placed j ≡ true
    → JobStart t part j s → s < 65535
starts_short {t} {part} {j} k r h =
    omega (arith, start_short t k.fit part (word_of part) k.is j r, h.here r)

-- and a job with a start may come next
pub start_low : {t : Jobs} {part : Part} {j s : ℕ} → Known t part
    → JobStart t part j s → ¬ (s ≡ 65535) → s < 65535
start_low {t} {part} {j} {s} k h n =
    go (true-or-false (ready (sheet_of t) (theory_part t part).placed j))
  where
    go : (ready (sheet_of t) (theory_part t part).placed j ≡ true)
        ⊎ (ready (sheet_of t) (theory_part t part).placed j ≡ false)
        → s < 65535
    go (inl r) = starts_short k r h
    go (inr r) = absurd (n (h.none r))

module _ {t : Jobs} {part : Part} (known : Known t part)
    {job s : ℕ} (l : job < count_of t) (start : JobStart t part job s) (low : s < 65535) where
  abbrev S : Sheet
  S = sheet_of t

  abbrev w : List ℕ
  w = word_of part

  abbrev P : PartPlan
  P = theory_part t part

  child-ready : ready S P.placed job ≡ true
  child-ready = started start low

  pub child_placeable : Placeable t part job s
  child_placeable = rw (start.here child-ready)
      (placeable t known.fit part w known.is job child-ready)

  module _ {child : Part} (placed : Placed t part job s child) where
    child_is : IsPart S (w ++ (job ∷ [])) child
    child_is = placed_part t known.fit part w known.is job child-ready child
        (rw (start.here child-ready) at placed)

    pub child_fewer : suc (ones child.unplaced) ≡ ones part.unplaced
    child_fewer = ap (λ (x : ℕ). suc (ones x)) placed.unplaced
        ∙ fewer t known.fit part w known.is job child-ready

    pub child_known : Known t child
    child_known = record { fit = known.fit; is = subst (λ (v : List ℕ). IsPart S v child) (sym child_is.word) child_is }

    pub child_word : word_of child ≡ w ++ (job ∷ [])
    child_word = child_is.word
