-- The latest starts in rounds: after k of them, those by the chains of at most k + 1 jobs.
use mathlib.Core.Path.{◌≡◌, refl, sym, ap, ap₂, ◌∙◌}
use mathlib.Core.Bool.{Bool, true, false, cond}
use mathlib.Core.List.{List}
use Prim.Native.Nat.{ℕ, zero, suc, ◌+◌, ◌-◌, ◌*◌, ◌≤◌, ◌<◌, min}
use native.Mathlib.Omega.{arith}
use native.Mathlib.Nat.{le_refl}
use native.Mathlib.Numerals.{add-one}
use lib.IntN.{ℤ, pos, ◌-ℤ◌}
use lib.ListN.{get_or}
use Rattle.figures.specs.Figures.{most_jobs, most_minutes}
use Rattle.bits.specs.Bits.{bit}
use Rattle.schedule.specs.Plan.{Sheet}
use Rattle.tables.specs.declared.Jobs.{Jobs}
use Rattle.tables.specs.Tables.{minutes_at, earlier_at, count_of, sheet_of, Fit}
use Rattle.latest.specs.Latest.{smaller, least_of, latest_within}
use Rattle.latest.specs.Counted.{minute_zero, departure_at, own_start, least_from, start_by, Ample, OwnStarts, NextStarts, LatestStarts}
use Rattle.latest.proofs.Signed.{diff, less_more, diff_same, smaller_diff}

-- ---- the least

-- one number more
pub start_none : (t : Jobs) (departures starts : List ℕ) (j : ℕ) → own_start t departures j ≡ start_by t departures starts 0 j
unfolding least_from
start_none t departures starts j = refl

pub start_more : (t : Jobs) (departures starts : List ℕ) (i j : ℕ)
    → cond (bit (earlier_at t i) j) (min (start_by t departures starts i j) (get_or starts i 0 - minutes_at t j)) (start_by t departures starts i j)
    ≡ start_by t departures starts (i + 1) j
unfolding least_from
start_more t departures starts i j = rw (add-one i) refl

module _ (p : ℕ → Bool) (f : ℕ → ℕ) (x : ℕ) where
  -- the least of natural numbers, and of the same counted from another minute
  least_diff : (n : ℕ) (g : ℕ → ℤ) (y : ℤ) (s : ℕ) → ((i : ℕ) → i < n → diff (f i) s ≡ g i) → diff x s ≡ y
      → diff (least_from n p f x) s ≡ least_of n p g y
  unfolding least_from least_of
  least_diff zero g y s h e = e
  least_diff (suc n) g y s h e = go (p n) (least_diff n g y s (λ i l. h i (omega arith)) e)
    where
      go : (b : Bool) → diff (least_from n p f x) s ≡ least_of n p g y
          → diff (cond b (min (least_from n p f x) (f n)) (least_from n p f x)) s ≡ cond b (smaller (least_of n p g y) (g n)) (least_of n p g y)
      go true rest = sym (smaller_diff (least_from n p f x) (f n) s) ∙ ap₂ smaller rest (h n (le_refl (suc n)))
      go false rest = rest

  -- it is no less than all are
  least_low : (n low : ℕ) → ((i : ℕ) → i < n → low ≤ f i) → low ≤ x → low ≤ least_from n p f x
  unfolding least_from
  least_low zero low h l = l
  least_low (suc n) low h l = go (p n) (least_low n low (λ i m. h i (omega arith)) l)
    where
      go : (b : Bool) → low ≤ least_from n p f x → low ≤ cond b (min (least_from n p f x) (f n)) (least_from n p f x)
      go true rest = omega (arith, h n (le_refl (suc n)))
      go false rest = rest

-- ---- the rounds

module _ (t : Jobs) (departures : List ℕ) (fit : Fit t) where
  abbrev S : Sheet
  S = sheet_of t

  -- x is the latest start of job j by the chains of at most k + 1 jobs, counted
  record CountedIn (k j x : ℕ) : Type 0 where
    is : diff x minute_zero ≡ latest_within S (departure_at departures) k j
    low : minute_zero ≤ x + suc k * most_minutes

  pub After : ℕ → List ℕ → Type 0
  After k xs = (j : ℕ) → j < count_of t → CountedIn k j (get_or xs j 0)

  pub after_none : (xs : List ℕ) → OwnStarts t departures (count_of t) xs → After 0 xs
  unfolding After latest_within
  after_none xs h j l =
      let short = fit.short j l in
      rw (h j l) (record {
        is = diff_same (own_start t departures j) minute_zero (departure_at departures j) (minutes_at t j) (omega arith);
        low = omega arith;
      })

  pub after_ample : (k : ℕ) (xs : List ℕ) → k < most_jobs → After k xs → Ample t xs
  unfolding After
  after_ample k xs m h j l = omega (arith, (h j l).low)

  pub after_more : (k : ℕ) (xs ys : List ℕ) → k < most_jobs → After k xs → NextStarts t departures xs (count_of t) ys → After (k + 1) ys
  unfolding After latest_within
  after_more k xs ys m h next j l = rw (add-one k, next j l) (record { is = same; low = low })
    where
      short : minutes_at t j ≤ most_minutes
      short = fit.short j l

      one : (i : ℕ) → i < count_of t
          → diff (get_or xs i 0 - minutes_at t j) minute_zero ≡ latest_within S (departure_at departures) k i -ℤ pos (minutes_at t j)
      one i y =
          diff_same (get_or xs i 0 - minutes_at t j) minute_zero (get_or xs i 0) (minute_zero + minutes_at t j)
          (omega (arith, short, after_ample k xs m h i y))
          ∙ sym (less_more (get_or xs i 0) minute_zero (minutes_at t j))
          ∙ ap (λ (z : ℤ). z -ℤ pos (minutes_at t j)) (h i y).is

      same : diff (start_by t departures xs (count_of t) j) minute_zero ≡ latest_within S (departure_at departures) (suc k) j
      same =
          least_diff (λ i. bit (earlier_at t i) j) (λ i. get_or xs i 0 - minutes_at t j) (own_start t departures j) (count_of t)
          (λ i. latest_within S (departure_at departures) k i -ℤ pos (minutes_at t j)) (diff (departure_at departures j) (minutes_at t j)) minute_zero one
          (diff_same (own_start t departures j) minute_zero (departure_at departures j) (minutes_at t j) (omega (arith, short)))

      low : minute_zero ≤ start_by t departures xs (count_of t) j + suc (suc k) * most_minutes
      low =
          let l = least_low (λ i. bit (earlier_at t i) j) (λ i. get_or xs i 0 - minutes_at t j) (own_start t departures j) (count_of t)
          (minute_zero - suc (suc k) * most_minutes) (λ i y. omega (arith, short, (h i y).low)) (omega (arith, short)) in
          omega arith

  -- as many rounds as there are jobs
  pub after_all : (xs : List ℕ) → After (count_of t) xs → LatestStarts t departures xs
  unfolding After
  after_all xs h j l = (h j l).is
