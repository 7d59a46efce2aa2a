-- The least count: what a count serves every larger one serves, and none narrower than the widest job serves.
use mathlib.Core.Path.{◌≡◌, refl, sym, subst, ◌∙◌}
use mathlib.Core.Logic.{◌⊎◌, inl, inr, ◌↔◌}
use mathlib.Core.Bool.{Bool, true, false, not}
use mathlib.Core.List.{List}
use Prim.Native.Nat.{ℕ, zero, suc, ◌+◌, ◌-◌, ◌/◌, ◌≤◌, ◌<◌}
use native.Mathlib.Omega.{arith}
use lib.Dec.{ltb}
use borrow.Author.Tests.{lt-ltb, le-ltb}
use Rattle.figures.specs.Figures.{most_jobs, most_modules}
use Rattle.counting.proofs.Tests.{true-or-false, clash, less-or-not, same_test}
use Rattle.schedule.specs.Plan.{Sheet, Lasting, Circular, over_wide}
use Rattle.schedule.specs.ListPlan.{first_minute}
use Rattle.schedule.specs.Ends.{EndsBy}
use Rattle.schedule.specs.Cabinets.{with_modules, ends_by}
use Rattle.schedule.proofs.Starts.{first-minute_ge, first-minute-le, first-minute_passes}
use Rattle.schedule.proofs.Same.{SameJobs, same_back, marks_of, circular_same, wide_same}
use Rattle.schedule.proofs.Larger.{ends_by_when, ends_by_larger, wide_ends_by-none, ends_by_same, ends_by_test_same, same_with, marks_with}
use Rattle.tables.specs.declared.Jobs.{Jobs}
use Rattle.tables.specs.Tables.{sheet_of, count_of, Fit}
use Rattle.job_table.specs.Table.{for_cabinet}
use Rattle.job_table.proofs.Cabinets.{same_for, fit_for}
use Rattle.cabinets.specs.declared.Between.{Between}
use Rattle.cabinets.specs.Counts.{least_count, Askable, Holds}

-- ---- the first minute that passes a test, where there is none

first-none : (p : ℕ → Bool) (k t : ℕ) → ((u : ℕ) → t ≤ u → u < t + k → p u ≡ false) → first_minute p k t ≡ t + k
unfolding first_minute
first-none p zero t h = omega arith
first-none p (suc k) t h =
    rw (h t (omega arith) (omega arith), first_minute) (first-none p k (suc t) (λ u l m. h u (omega arith) (omega arith)) ∙ omega arith)

-- ---- the least count

module _ (S : Sheet) (t : ℕ) where
  abbrev serves : ℕ → Bool
  serves k = ends_by (with_modules S k) t

  pub least-some : 0 < least_count S t
  unfolding least_count
  least-some = first-minute_ge serves most_modules 1

  -- none below it serves
  pub least_below : (k : ℕ) → 0 < k → k < least_count S t → serves k ≡ false
  unfolding least_count
  least_below k some l = go (true-or-false (serves k))
    where
      go : (serves k ≡ true) ⊎ (serves k ≡ false) → serves k ≡ false
      go (inl e) = absurd (omega (arith, first-minute-le serves most_modules 1 k (omega arith) e))
      go (inr e) = e

  -- where a count serves, it does
  some_serves : (k : ℕ) → 0 < k → k ≤ most_modules → serves k ≡ true → (least_count S t ≤ k) × (serves (least_count S t) ≡ true)
  unfolding least_count
  some_serves k some most e = (
    first-minute-le serves most_modules 1 k (omega arith) e,
    first-minute_passes serves most_modules 1 k (omega arith) (omega arith) e,
  )

  -- a count that serves and below which none does
  pub least_is : (k : ℕ) → 0 < k → k ≤ most_modules → serves k ≡ true → ((i : ℕ) → 0 < i → i < k → serves i ≡ false)
      → k ≡ least_count S t
  least_is k some most e none = go (less-or-not (least_count S t) k)
    where
      there : (least_count S t ≤ k) × (serves (least_count S t) ≡ true)
      there = some_serves k some most e

      go : (least_count S t < k) ⊎ (k ≤ least_count S t) → k ≡ least_count S t
      go (inl l) = clash (serves (least_count S t)) there.1 (none (least_count S t) least-some l)
      go (inr l) = omega (arith, there.0)

  module _ (w : Lasting S) where
    -- what serves, every larger count serves, and so what does not, no smaller one does
    pub smaller-not : (k i : ℕ) → serves k ≡ false → i ≤ k → serves i ≡ false
    smaller-not k i e l = go (true-or-false (serves i))
      where
        go : (serves i ≡ true) ⊎ (serves i ≡ false) → serves i ≡ false
        go (inl y) = clash (serves k) (ends_by_larger S w t i k l y) e
        go (inr n) = n

    -- whether some count serves is whether the largest does
    pub none_serves : serves most_modules ≡ false → least_count S t ≡ 1 + most_modules
    unfolding least_count
    none_serves e = first-none serves most_modules 1 (λ u l m. smaller-not most_modules u e (omega arith))

    pub largest_decides : ltb most_modules (least_count S t) ≡ not (serves most_modules)
    largest_decides = go (true-or-false (serves most_modules))
      where
        go : (serves most_modules ≡ true) ⊎ (serves most_modules ≡ false) → ltb most_modules (least_count S t) ≡ not (serves most_modules)
        go (inl y) = rw y (le-ltb most_modules (least_count S t) (some_serves most_modules (omega arith) (omega arith) y).0)
        go (inr n) = rw n (lt-ltb most_modules (least_count S t) (omega (arith, none_serves n)))

    largest_serves_when : least_count S t ≤ most_modules → serves most_modules ≡ true
    largest_serves_when l = go (true-or-false (serves most_modules))
      where
        go : (serves most_modules ≡ true) ⊎ (serves most_modules ≡ false) → serves most_modules ≡ true
        go (inl y) = y
        go (inr n) = absurd (omega (arith, none_serves n))

    pub least_serves : least_count S t ≤ most_modules → serves (least_count S t) ≡ true
    least_serves l = (some_serves most_modules (omega arith) (omega arith) (largest_serves_when l)).1

    -- ---- halving

    -- all counts, where one serves
    pub whole_range : least_count S t ≤ most_modules → Holds S t (record { low = 1; high = most_modules })
    whole_range l = record {
      some = omega arith;
      most = omega arith;
      ordered = omega arith;
      enough = largest_serves_when l;
      below = λ k z m. absurd (omega arith);
    }

    module _ (r : Between) (h : Holds S t r) (l : r.low < r.high) (b : Bool) (q : b ≡ serves ((r.low + r.high) / 2)) where
      abbrev middle : ℕ
      middle = (r.low + r.high) / 2

      pub lower_half : b ≡ true → Holds S t (record { low = r.low; high = middle }) × (middle - r.low < r.high - r.low)
      lower_half y = (
        record { some = h.some; most = omega (arith, h.most); ordered = omega arith; enough = sym q ∙ y; below = h.below },
        omega arith,
      )

      pub upper_half : b ≡ false → Holds S t (record { low = middle + 1; high = r.high }) × (r.high - (middle + 1) < r.high - r.low)
      upper_half n = (
        record {
          some = omega arith;
          most = h.most;
          ordered = omega arith;
          enough = h.enough;
          below = λ k z m. smaller-not middle k (sym q ∙ n) (omega arith);
        },
        omega arith,
      )

  -- one count is left
  pub one_left : (r : Between) → Holds S t r → r.high ≤ r.low → r.low ≡ least_count S t
  one_left r h l =
      let e : r.high ≡ r.low = omega (arith, h.ordered) in
      least_is r.low h.some (omega (arith, h.most)) (subst (λ (k : ℕ). serves k ≡ true) e h.enough) h.below

-- two sheets that say the same of every job have the same
pub least_same : {S T : Sheet} → SameJobs S T → Lasting S → (t : ℕ) → least_count S t ≡ least_count T t
unfolding least_count
least_same h w t = λ i. first_minute (λ k. ends_by_test_same (same_with h k) w t i) most_modules 1

-- ---- asked of a table

module _ (t : Jobs) (a : Askable t) (k by : ℕ) (u : Jobs) (e : u ≡ for_cabinet t k) where
  abbrev S : Sheet
  S = with_modules (sheet_of t) k

  pub same-table : SameJobs (sheet_of u) S
  same-table = subst (λ (v : Jobs). SameJobs (sheet_of v) S) (sym e) (same_for t a.jobs k)

  pub few_jobs : count_of u ≤ most_jobs
  few_jobs = omega (arith, same-table.jobs, a.jobs.few)

  module _ (b : Bool) (w : b ≡ over_wide (sheet_of u)) where
    pub too_wide : b ≡ true → false ≡ ends_by S by
    too_wide y = sym (wide_ends_by-none S by (sym (wide_same same-table) ∙ sym w ∙ y))

    pub can_ask : 0 < k → k ≤ most_modules → b ≡ false → Fit u × (¬ Circular (sheet_of u))
    can_ask some most n = (
      subst (λ (v : Jobs). over_wide (sheet_of v) ≡ false → Fit v) (sym e) (fit_for t a.jobs k some most) (sym w ∙ n),
      λ c. a.free (circular_same (marks_with (sheet_of t) k) (circular_same (marks_of same-table) c)),
    )

  pub asked : (r : Bool) → ((r ≡ true) ↔ EndsBy (sheet_of u) by) → r ≡ ends_by S by
  asked r h =
      let w = ends_by_when S a.jobs.lasting by in
      same_test r (ends_by S by) (λ y. w.1 (ends_by_same same-table by (h.0 y))) (λ y. h.1 (ends_by_same (same_back same-table) by (w.0 y)))

  -- where it serves, the table is planning's
  pub can_plan : 0 < k → k ≤ most_modules → ends_by S by ≡ true → Fit u × (¬ Circular (sheet_of u))
  can_plan some most y = go (true-or-false (over_wide (sheet_of u)))
    where
      go : (over_wide (sheet_of u) ≡ true) ⊎ (over_wide (sheet_of u) ≡ false) → Fit u × (¬ Circular (sheet_of u))
      go (inl w) = clash (ends_by S by) y (sym (too_wide (over_wide (sheet_of u)) refl w))
      go (inr n) = can_ask (over_wide (sheet_of u)) refl some most n
