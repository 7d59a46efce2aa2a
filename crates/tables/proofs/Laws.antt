-- Lists of zeros, lists that begin alike, and bounds on the figures of a job table that fits.
use mathlib.Core.Path.{◌≡◌, refl, ◌∙◌, sym}
use mathlib.Core.List.{List}
use Prim.Native.Nat.{ℕ, zero, suc, ◌+◌, ◌*◌, ◌≤◌, ◌<◌}
use native.Mathlib.Omega.{arith}
use native.Mathlib.Nat.{le_trans, mul-le-mul_left, mul-le-mul_right}
use lib.ListN.{length, get_or, take, replicate}
use lib.Seq.{get_or-take, length-take-le, ext_get_or}
use Rattle.counting.specs.Counting.{sum}
use Rattle.counting.proofs.Sums.{sum_most}
use Rattle.tables.specs.declared.Jobs.{Jobs}
use Rattle.tables.specs.Tables.{need_at, minutes_at, kept_at, most_kept, count_of, changeover_of, Fit}

pub zeros : (n i : ℕ) → ◌≡◌ {A = ℕ} (get_or (replicate n 0) i 0) 0
zeros zero i = refl
zeros (suc n) zero = refl
zeros (suc n) (suc i) = zeros n i

-- lists that agree below n begin with the same n numbers
pub take_alike : (n : ℕ) (a b : List ℕ) → n ≤ length a → n ≤ length b → ((k : ℕ) → k < n → get_or a k 0 ≡ get_or b k 0) → take n a ≡ take n b
take_alike n a b l m h =
    let e = length-take-le n a l in
    let f = length-take-le n b m in
    ext_get_or 0 (take n a) (take n b) (e ∙ sym f)
    (λ k i. let j : k < n = omega arith in get_or-take n a k 0 j ∙ h k j ∙ sym (get_or-take n b k 0 j))

module _ (t : Jobs) (fit : Fit t) where
  -- how long one job keeps its modules from others
  pub kept_short : (i : ℕ) → i < count_of t → kept_at t i ≤ most_kept
  kept_short i l = omega (arith, fit.keeps i l, fit.short i l, fit.rests)

  -- the module-minutes that it keeps from others
  pub job_area : (i : ℕ) → i < count_of t → need_at t i * kept_at t i ≤ 64 * 1470
  job_area i l =
      let w : need_at t i ≤ 64 = omega (arith, fit.narrow i l, fit.most) in
      le_trans (mul-le-mul_left (need_at t i) (kept_short i l)) (mul-le-mul_right 1470 w)

  -- the minutes of all jobs, each but the first with a changeover before it
  pub all_minutes : 0 < count_of t → sum (count_of t) (λ i. minutes_at t i + changeover_of t) ≤ 28800 + (19 * 30 + changeover_of t)
  all_minutes some =
      let h = sum_most (count_of t) (λ i. minutes_at t i + changeover_of t) (1440 + changeover_of t) (λ i l. omega (arith, fit.short i l)) in
      let k : count_of t * (1440 + changeover_of t) ≤ 20 * (1440 + changeover_of t) = mul-le-mul_right (1440 + changeover_of t) fit.few in
      omega (arith, fit.rests)
