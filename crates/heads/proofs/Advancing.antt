-- Heads, by chains one job longer at a time.
use mathlib.Core.Path.{◌≡◌, ap, ◌∙◌}
use mathlib.Core.Logic.{◌⊎◌, inl, inr}
use mathlib.Core.List.{List}
use Prim.Native.Nat.{ℕ, zero, suc, ◌+◌, ◌*◌, ◌≤◌, ◌<◌, zero-le, max}
use native.Mathlib.Omega.{arith}
use native.Mathlib.Nat.{le_trans, not-suc-le-zero}
use native.Mathlib.Numerals.{add-one}
use lib.ListN.{length, get_or, set, length-set, replicate}
use lib.Seq.{get_or-set_same, get_or-set_other}
use Rattle.figures.specs.Figures.{most_jobs, most_minutes}
use Rattle.counting.specs.Counting.{only, largest}
use Rattle.counting.proofs.Tests.{same_or_not, only-le}
use Rattle.counting.proofs.Ranges.{largest-le, largest_same}
use Rattle.bits.specs.Bits.{bit}
use Rattle.schedule.specs.Bounds.{head}
use Rattle.tables.specs.declared.Jobs.{Jobs}
use Rattle.tables.specs.Tables.{sheet_of, minutes_at, arrival_at, earlier_at, count_of, Fit}
use Rattle.tables.proofs.Laws.{zeros}
use Rattle.heads.specs.Heads.{HeadsOf, AllShort}

-- a chain of k jobs puts a start off to minute 1440 for the arrival of the first and 1440 minutes for each before the last
pub head_short : (t : Jobs) → Fit t → (k j : ℕ) → j < count_of t → head (sheet_of t) k j ≤ most_minutes * k
unfolding head
head_short t fit zero j l = zero-le
head_short t fit (suc k) j l =
    let most = largest-le (count_of t) (λ i. only (bit (earlier_at t j) i) (head (sheet_of t) k i + minutes_at t i)) (1440 * suc k)
    (λ i m. le_trans (only-le (bit (earlier_at t j) i) _) (omega (arith, head_short t fit k i m, fit.short i m))) in
    omega (arith, fit.arrived j l, most)

pub all_short : {t : Jobs} {heads : List ℕ} {k : ℕ} → Fit t → HeadsOf t heads k → k < most_jobs → AllShort t heads
all_short {t} {heads} {k} fit h l i m = omega (arith, h.each i m, head_short t fit k i m, fit.short i m)

-- the last end of the earlier jobs of job j, by the heads of other jobs
abbrev latest_to : Jobs → List ℕ → ℕ → ℕ
latest_to t heads j = largest (count_of t) (λ i. only (bit (earlier_at t j) i) (get_or heads i 0 + minutes_at t i))

-- what is found for the first n jobs
pub record Advancing (t : Jobs) (k : ℕ) (heads next : List ℕ) (n : ℕ) : Type 0 where
  pub fit : Fit t
  pub old : HeadsOf t heads k
  pub low : k < most_jobs
  pub inside : n ≤ count_of t
  pub size : length next ≡ most_jobs
  pub each : (j : ℕ) → j < n → get_or next j 0 ≡ head (sheet_of t) (k + 1) j

pub advancing-none : {t : Jobs} {k : ℕ} {heads : List ℕ} (next : List ℕ)
    → Fit t → HeadsOf t heads k → k < most_jobs → length next ≡ most_jobs → Advancing t k heads next 0
advancing-none next f c l e = record {
  fit = f;
  old = c;
  low = l;
  inside = zero-le;
  size = e;
  each = λ j m. absurd (not-suc-le-zero m);
}

module _ {t : Jobs} {k : ℕ} {heads next : List ℕ} {n : ℕ} (h : Advancing t k heads next n) where
  pub advancing-step : n < count_of t → Advancing t k heads (set next n (max (arrival_at t n) (latest_to t heads n))) (n + 1)
  unfolding head
  advancing-step l = record {
    fit = h.fit;
    old = h.old;
    low = h.low;
    inside = omega arith;
    size = length-set next n x ∙ h.size;
    each = λ j m. go j m (same_or_not j n);
  }
    where
      x : ℕ
      x = max (arrival_at t n) (latest_to t heads n)

      here : x ≡ head (sheet_of t) (suc k) n
      here = ap (λ (y : ℕ). max (arrival_at t n) y)
          (largest_same (count_of t) _ _ (λ i m. ap (λ (y : ℕ). only (bit (earlier_at t n) i) (y + minutes_at t i)) (h.old.each i m)))

      go : (j : ℕ) → j < n + 1 → (j ≡ n) ⊎ (¬ (j ≡ n)) → get_or (set next n x) j 0 ≡ head (sheet_of t) (k + 1) j
      go j m (inl e) = rw (e, add-one) (get_or-set_same next n x 0 (omega (arith, h.size, h.fit.few)) ∙ here)
      go j m (inr d) = get_or-set_other next n j x 0 d ∙ h.each j (omega arith)

  pub advancing_all : count_of t ≤ n → HeadsOf t next (k + 1)
  advancing_all l = record { each = λ j m. h.each j (omega arith) }

-- no chain yet
pub heads-none : (t : Jobs) → HeadsOf t (replicate most_jobs 0) 0
unfolding head
heads-none t = record { each = λ j l. zeros 20 j }

-- a list that has the same at the jobs' places
pub heads_same : {t : Jobs} {a : List ℕ} {k : ℕ} (b : List ℕ) → count_of t ≤ most_jobs → ((j : ℕ) → j < most_jobs → get_or b j 0 ≡ get_or a j 0)
    → HeadsOf t a k → HeadsOf t b k
heads_same b few same h = record { each = λ j l. same j (omega arith) ∙ h.each j l }
