-- What the modules can serve until all are given back.
use mathlib.Core.Path.{◌≡◌, sym, ap, ◌∙◌}
use mathlib.Core.Logic.{◌⊎◌, inl, inr}
use mathlib.Core.List.{List}
use Prim.Native.Nat.{ℕ, ◌+◌, ◌-◌, ◌*◌, ◌≤◌, ◌<◌, zero-le}
use native.Mathlib.Omega.{arith}
use native.Mathlib.Nat.{le_trans, le_refl, mul-le-mul_left, mul-le-mul_right}
use native.Mathlib.Numerals.{add-one}
use lib.Dec.{ltb, leb}
use lib.ListN.{get_or}
use borrow.Author.Tests.{lt-ltb, le-ltb, le-leb, lt-leb}
use Rattle.counting.specs.Counting.{only, sum}
use Rattle.counting.proofs.Tests.{less-or-not}
use Rattle.counting.proofs.Sums.{sum_same, sum-zero, le-sum}
use Rattle.figures.specs.Figures.{most_modules}
use Rattle.tables.specs.declared.Jobs.{Jobs}
use Rattle.tables.specs.Tables.{count_of, modules_of, Fit}
use Rattle.tables.specs.declared.Part.{Part}
use Rattle.placement.specs.Profile.{held_of, held_from}
use Rattle.placement.proofs.Profiles.{held-at-le, held_from-le}
use Rattle.choices.specs.Choices.{SumsOf, longest}
use Rattle.sums.specs.Serving.{Running, Narrow, served_from, most16, cabinet_serves, Unserved}
use Rattle.choices.proofs.Longest.{longest-le, longest-rises, longest_bounds}

-- what at most a cabinet's modules serve in minutes of 16 bits
pub few_modules : (w x : ℕ) → w ≤ most_modules → x ≤ most16 → w * x ≤ cabinet_serves
few_modules w x a b = le_trans (mul-le-mul_left w b) (mul-le-mul_right most16 a)

-- what the modules of the k-th placed job serve from when they are given back up to minute C
abbrev served_at : (ℕ → ℕ) → Part → ℕ → ℕ → ℕ
served_at reach p C k = get_or p.held k 0 * reach (C - get_or p.until k 0)

-- ---- the sum, job by job

-- the sum over the first i jobs
pub record Serving (sums : List ℕ) (count : ℕ) (p : Part) (gone C total i : ℕ) : Type 0 where
  pub held : Narrow p gone
  pub close : C ≤ most16
  pub from : gone ≤ i
  pub inside : i ≤ p.placed
  pub total_is : total ≡ sum i (λ k. only (leb gone k) (served_at (longest sums count) p C k))
  pub small : total ≤ cabinet_serves * i

-- what is given back already adds nothing
pub serving_start : {sums : List ℕ} {count : ℕ} {p : Part} {gone C : ℕ} → Narrow p gone → C ≤ most16 → Serving sums count p gone C 0 gone
serving_start {sums} {count} {p} {gone} {C} n t = record {
  held = n;
  close = t;
  from = le_refl gone;
  inside = n.inside;
  total_is = sym (sum_same gone _ (λ k. 0) (λ k m. ap (λ b. only b (served_at (longest sums count) p C k)) (lt-leb gone k m)) ∙ sum-zero gone);
  small = zero-le;
}

module _ {sums : List ℕ} {count : ℕ} {p : Part} {gone C total i : ℕ} (s : Serving sums count p gone C total i) where
  pub serving_fits : i < p.placed → served_at (longest sums count) p C i ≤ cabinet_serves
  serving_fits m = few_modules (get_or p.held i 0) _ (s.held.narrow i s.from m)
      (omega (arith, longest-le sums count (C - get_or p.until i 0), s.close))

  pub serving-step : i < p.placed → Serving sums count p gone C (total + served_at (longest sums count) p C i) (i + 1)
  unfolding sum
  serving-step m = record {
    held = s.held;
    close = s.close;
    from = omega (arith, s.from);
    inside = omega arith;
    total_is = rw (add-one, le-leb gone i s.from) (ap (λ (x : ℕ). x + served_at (longest sums count) p C i) s.total_is);
    small = omega (arith, s.small, serving_fits m);
  }

  pub serving_all : p.placed ≤ i → total ≡ served_from (longest sums count) p gone C
  unfolding served_from
  serving_all m =
      let e : i ≡ p.placed = omega (arith, s.inside) in
      s.total_is ∙ ap (λ (n : ℕ). sum n (λ k. only (leb gone k) (served_at (longest sums count) p C k))) e

-- ---- the whole bound

module _ {t : Jobs} {p : Part} {gone free l : ℕ} (fit : Fit t) (r : Running t p gone free l) where
  -- a job that runs holds no more than all modules
  pub running_narrow : Narrow p gone
  unfolding held_from
  running_narrow = record {
    few = r.profile.few;
    inside = r.profile.inside;
    narrow = λ k m n.
        let one : get_or p.held k 0 ≤ held_from p.held p.placed gone =
        rw (le-leb gone k m) at (le-sum p.placed (λ i. only (leb gone i) (get_or p.held i 0)) k n) in
        omega (arith, r.profile.balance, fit.most);
  }

  -- the modules that no job holds are free
  free_modules : free ≡ modules_of t - held_of p l
  free_modules =
      let most = held-at-le p.until p.held p.placed gone l r.profile.ended in
      omega (arith, r.profile.balance, held_from-le p.until p.held p.placed gone l r.live)

  -- those that run are those behind the first `gone`
  running_served : (reach : ℕ → ℕ) (C : ℕ)
      → served_from reach p gone C ≡ sum p.placed (λ k. only (ltb l (get_or p.until k 0)) (served_at reach p C k))
  unfolding served_from
  running_served reach C = sum_same p.placed _ _ (λ k m. one k m (less-or-not k gone))
    where
      one : (k : ℕ) → k < p.placed → (k < gone) ⊎ (gone ≤ k)
          → only (leb gone k) (served_at reach p C k) ≡ only (ltb l (get_or p.until k 0)) (served_at reach p C k)
      one k m (inl n) = rw (lt-leb gone k n, le-ltb l (get_or p.until k 0) (r.profile.ended k n))
      one k m (inr n) = rw (le-leb gone k n, lt-ltb l (get_or p.until k 0) (r.live k n m))

  -- the sums show that some module-minutes stay unserved
  pub too_little : {sums : List ℕ} {count : ℕ} (C : ℕ) → SumsOf t p.unplaced (count_of t) sums count → 0 < count
      → served_from (longest sums count) p gone C + free * longest sums count (C - l) < p.left → Unserved t p l C
  too_little {sums} {count} C s some h = record {
    reach = longest sums count;
    rises = longest-rises sums count;
    bounds = longest_bounds sums count s some;
    short = rw (free_modules, running_served (longest sums count) C) at h;
  }
