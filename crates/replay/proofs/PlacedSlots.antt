-- The slots of the jobs that a part-plan has placed, and the slots with one job more.
use mathlib.Core.Path.{◌≡◌, refl, sym, ap, ap₂, ◌∙◌}
use mathlib.Core.Bool.{Bool, true, false, cond, not, ◌&&◌, ◌||◌, and-false}
use mathlib.Core.List.{List, []}
use Prim.Native.Nat.{ℕ, ◌+◌, ◌<◌}
use native.Mathlib.Omega.{arith}
use lib.Dec.{ltb, eqb}
use lib.ListN.{length, get_or, set, replicate, length-set, length-replicate}
use lib.Seq.{get_or-set_same, get_or-set_other}
use borrow.Author.Tests.{eqb-true, eqb-false}
use Rattle.counting.specs.Counting.{only}
use Rattle.counting.proofs.Ranges.{any_same}
use Rattle.figures.specs.Figures.{most_jobs}
use Rattle.bits.specs.Bits.{bit, set_of}
use Rattle.bits.proofs.Digits.{bit-none, bit-only}
use Rattle.bits.proofs.Sets.{bit-set_of}
use Rattle.schedule.specs.Plan.{Sheet, finish}
use Rattle.schedule.specs.ListPlan.{PartPlan, occupies, free, lowest, place, place_all, part_of}
use Rattle.tables.specs.declared.Jobs.{Jobs}
use Rattle.tables.specs.Tables.{sheet_of, need_at, minutes_at, count_of, modules_of, changeover_of}
use Rattle.tables.proofs.Laws.{zeros}
use Rattle.replay.specs.declared.Slots.{Slots}
use Rattle.free_modules.specs.Lowest.{outside, lowest_outside}
use Rattle.free_modules.proofs.Laws.{lowest_same}
use Rattle.replay.specs.Slots.{with_slot, busy_at, with_job}
use Rattle.replay.proofs.Modules.{bit-union}

-- no job has a slot
unfoldable pub no_slots : Slots
no_slots = record { start = replicate most_jobs 0; end = replicate most_jobs 0; modules = replicate most_jobs 0 }

-- the slots of the jobs that P has placed; every other place is 0
pub record SlotsOf (S : Sheet) (P : PartPlan) (s : Slots) : Type 0 where
  pub start : (i : ℕ) → get_or s.start i 0 ≡ only (P.placed i) (P.plan.start i)
  pub end : (i : ℕ) → get_or s.end i 0 ≡ only (P.placed i) (finish S P.plan i)
  pub modules : (i : ℕ) → get_or s.modules i 0 ≡ only (P.placed i) (set_of S.modules (P.plan.uses i))
  pub start-length : length s.start ≡ most_jobs
  pub end-length : length s.end ≡ most_jobs
  pub modules-length : length s.modules ≡ most_jobs

-- ---- lists of numbers by job

-- the place of one job more is written
placed_more : (xs : List ℕ) (j v : ℕ) (d : ℕ → Bool) (f g : ℕ → ℕ) → j < length xs → ((i : ℕ) → get_or xs i 0 ≡ only (d i) (f i))
    → ((i : ℕ) → eqb i j ≡ true → v ≡ g i) → ((i : ℕ) → eqb i j ≡ false → f i ≡ g i)
    → (i : ℕ) → get_or (set xs j v) i 0 ≡ only (eqb i j || d i) (g i)
placed_more xs j v d f g l h here other i = go (eqb i j) refl
  where
    go : (b : Bool) → eqb i j ≡ b → get_or (set xs j v) i 0 ≡ only (eqb i j || d i) (g i)
    go true e = rw e (ap (λ (k : ℕ). get_or (set xs j v) k 0) (eqb-true i j e) ∙ get_or-set_same xs j v 0 l ∙ here i e)
    go false e = rw e (get_or-set_other xs j i v 0 (eqb-false i j e) ∙ h i ∙ ap (λ (x : ℕ). only (d i) x) (other i e))

module _ (t : Jobs) where
  abbrev S : Sheet
  S = sheet_of t

  pub no_slots_lem : SlotsOf S (part_of S []) no_slots
  unfolding no_slots place_all
  no_slots_lem = record {
    start = zeros most_jobs;
    end = zeros most_jobs;
    modules = zeros most_jobs;
    start-length = length-replicate {A = ℕ} most_jobs 0;
    end-length = length-replicate {A = ℕ} most_jobs 0;
    modules-length = length-replicate {A = ℕ} most_jobs 0;
  }

  module _ (P : PartPlan) (s : Slots) (is : SlotsOf S P s) where
    -- ---- the free modules

    busy_is : (u m i : ℕ) → m < modules_of t
        → bit (only (ltb u (get_or s.end i 0 + S.rest)) (get_or s.modules i 0)) m ≡ (occupies S P u i && P.plan.uses i m)
    busy_is u m i l =
        bit-only (ltb u (get_or s.end i 0 + S.rest)) (get_or s.modules i 0) m
        ∙ ap₂ (λ (x y : ℕ). ltb u (x + S.rest) && bit y m) (is.end i) (is.modules i) ∙ go (P.placed i)
      where
        go : (b : Bool) → (ltb u (only b (finish S P.plan i) + S.rest) && bit (only b (set_of (modules_of t) (P.plan.uses i))) m)
            ≡ ((b && ltb u (finish S P.plan i + S.rest)) && P.plan.uses i m)
        go true = ap (λ b. ltb u (finish S P.plan i + S.rest) && b) (bit-set_of (modules_of t) (P.plan.uses i) m l)
        go false = ap (λ b. ltb u (0 + S.rest) && b) (bit-none m) ∙ and-false (ltb u (0 + S.rest))

    free_is : (u m : ℕ) → m < modules_of t → outside (busy_at s (count_of t) (changeover_of t) u) m ≡ free S P u m
    free_is u m l =
        ap not (bit-union (count_of t) (λ i. only (ltb u (get_or s.end i 0 + S.rest)) (get_or s.modules i 0)) m
        ∙ any_same (count_of t) _ (λ i. occupies S P u i && P.plan.uses i m) (λ i k. busy_is u m i l))

    -- ---- one slot more

    module _ (j u : ℕ) (l : j < most_jobs) where
      abbrev taken : ℕ
      taken = lowest_outside (busy_at s (count_of t) (changeover_of t) u) (modules_of t) (need_at t j)

      abbrev Q : PartPlan
      Q = place S P j u

      -- the modules of job i, by whether it is job j
      abbrev uses_where : ℕ → Bool → ℕ
      uses_where i b = set_of (modules_of t) (λ m. cond b (lowest (modules_of t) (free S P u) (need_at t j) m) (P.plan.uses i m))

      pub slot_more : SlotsOf S Q (with_job t s j u)
      unfolding with_slot
      slot_more = record {
        start = placed_more s.start j u P.placed P.plan.start Q.plan.start (omega (arith, is.start-length)) is.start
            (λ i e. rw e) (λ i e. rw e);
        end = placed_more s.end j (u + minutes_at t j) P.placed (finish S P.plan) (finish S Q.plan)
            (omega (arith, is.end-length)) is.end
            (λ i e. rw e (ap (λ (k : ℕ). u + minutes_at t k) (sym (eqb-true i j e)))) (λ i e. rw e);
        modules = placed_more s.modules j taken P.placed (λ i. set_of (modules_of t) (P.plan.uses i)) (λ i. set_of (modules_of t) (Q.plan.uses i))
            (omega (arith, is.modules-length)) is.modules
            (λ i e. lowest_same (modules_of t) (outside (busy_at s (count_of t) (changeover_of t) u)) (free S P u) (need_at t j) (free_is u)
            ∙ ap (uses_where i) (sym e))
            (λ i e. ap (uses_where i) (sym e));
        start-length = length-set s.start j u ∙ is.start-length;
        end-length = length-set s.end j (u + minutes_at t j) ∙ is.end-length;
        modules-length = length-set s.modules j taken ∙ is.modules-length;
      }
