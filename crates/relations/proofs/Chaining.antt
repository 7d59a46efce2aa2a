-- The longest chains, one job longer at a time.
use mathlib.Core.Path.{◌≡◌, ap, ◌∙◌}
use mathlib.Core.Logic.{◌⊎◌, inl, inr}
use mathlib.Core.List.{List}
use Prim.Native.Nat.{ℕ, zero, suc, ◌+◌, ◌*◌, ◌≤◌, ◌<◌, zero-le}
use native.Mathlib.Omega.{arith}
use native.Mathlib.Nat.{le_trans, not-suc-le-zero}
use native.Mathlib.Numerals.{add-one}
use lib.ListN.{length, get_or, set, length-set, replicate}
use lib.Seq.{get_or-set_same, get_or-set_other}
use Rattle.counting.specs.Counting.{only, largest}
use Rattle.counting.proofs.Tests.{same_or_not, only-le}
use Rattle.counting.proofs.Ranges.{largest-le, largest_same}
use Rattle.bits.specs.Bits.{bit}
use Rattle.tables.specs.declared.Jobs.{Jobs}
use Rattle.tables.specs.Tables.{sheet_of, minutes_at, earlier_at, count_of, Fit}
use Rattle.tables.proofs.Laws.{zeros}
use Rattle.relations.specs.Relations.{ChainsOf}
use Rattle.schedule.specs.Bounds.{chain}

-- a chain of k jobs takes 1440 minutes a job at the most
pub chain_short : (t : Jobs) → Fit t → (k j : ℕ) → j < count_of t → chain (sheet_of t) k j ≤ 1440 * k
unfolding chain
chain_short t fit zero j l = zero-le
chain_short t fit (suc k) j l =
    let most = largest-le (count_of t) (λ i. only (bit (earlier_at t i) j) (chain (sheet_of t) k i)) (1440 * k)
    (λ i m. le_trans (only-le (bit (earlier_at t i) j) _) (chain_short t fit k i m)) in
    omega (arith, fit.short j l)

-- the longest chain behind job j, by the chains of other jobs
abbrev longest_to : Jobs → List ℕ → ℕ → ℕ
longest_to t tails j = largest (count_of t) (λ i. only (bit (earlier_at t i) j) (get_or tails i 0))

-- what is found for the first n jobs
pub record Lengthening (t : Jobs) (k : ℕ) (tails next : List ℕ) (n : ℕ) : Type 0 where
  pub fit : Fit t
  pub old : ChainsOf t tails k
  pub low : k < 20
  pub inside : n ≤ count_of t
  pub size : length next ≡ 20
  pub each : (j : ℕ) → j < n → get_or next j 0 ≡ chain (sheet_of t) (k + 1) j

pub lengthening-none : {t : Jobs} {k : ℕ} {tails : List ℕ} (next : List ℕ)
    → Fit t → ChainsOf t tails k → k < 20 → length next ≡ 20 → Lengthening t k tails next 0
lengthening-none next f c l e = record {
  fit = f;
  old = c;
  low = l;
  inside = zero-le;
  size = e;
  each = λ j m. absurd (not-suc-le-zero m);
}

module _ {t : Jobs} {k : ℕ} {tails next : List ℕ} {n : ℕ} (h : Lengthening t k tails next n) where
  -- the longest chain behind a job
  pub behind_short : longest_to t tails n ≤ 27360
  behind_short =
      largest-le (count_of t) _ 27360 (λ i m. le_trans (only-le (bit (earlier_at t i) n) _)
      (omega (arith, h.old.each i m, chain_short t h.fit k i m, h.low)))

  pub lengthening-step : n < count_of t → Lengthening t k tails (set next n (minutes_at t n + longest_to t tails n)) (n + 1)
  unfolding chain
  lengthening-step l = record {
    fit = h.fit;
    old = h.old;
    low = h.low;
    inside = omega arith;
    size = length-set next n x ∙ h.size;
    each = λ j m. go j m (same_or_not j n);
  }
    where
      x : ℕ
      x = minutes_at t n + longest_to t tails n

      here : x ≡ chain (sheet_of t) (suc k) n
      here = ap (λ (y : ℕ). minutes_at t n + y)
          (largest_same (count_of t) _ _ (λ i m. ap (λ (y : ℕ). only (bit (earlier_at t i) n) y) (h.old.each i m)))

      go : (j : ℕ) → j < n + 1 → (j ≡ n) ⊎ (¬ (j ≡ n)) → get_or (set next n x) j 0 ≡ chain (sheet_of t) (k + 1) j
      go j m (inl e) = rw (e, add-one) (get_or-set_same next n x 0 (omega (arith, h.size, h.fit.few)) ∙ here)
      go j m (inr d) = get_or-set_other next n j x 0 d ∙ h.each j (omega arith)

  pub lengthening_all : count_of t ≤ n → ChainsOf t next (k + 1)
  lengthening_all l = record { each = λ j m. h.each j (omega arith) }

-- no chain yet
pub chains-none : (t : Jobs) → ChainsOf t (replicate 20 0) 0
unfolding chain
chains-none t = record { each = λ j l. zeros 20 j }

-- a list that has the same at the jobs' places
pub chains_same : {t : Jobs} {a : List ℕ} {k : ℕ} (b : List ℕ) → count_of t ≤ 20 → ((j : ℕ) → j < 20 → get_or b j 0 ≡ get_or a j 0)
    → ChainsOf t a k → ChainsOf t b k
chains_same b few same h = record { each = λ j l. same j (omega arith) ∙ h.each j l }
