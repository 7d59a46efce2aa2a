-- Two sheets that say the same of every job, with the same departures, have the same latest starts.
use mathlib.Core.Path.{◌≡◌, ap, ap₂, ◌∙◌}
use mathlib.Core.Bool.{Bool, cond}
use Prim.Native.Nat.{ℕ, zero, suc, ◌<◌}
use native.Mathlib.Omega.{arith}
use native.Mathlib.Nat.{le_refl}
use lib.IntN.{ℤ, pos, ◌-ℤ◌}
use Rattle.schedule.specs.Plan.{Sheet}
use Rattle.schedule.proofs.Same.{SameJobs}
use Rattle.latest.specs.Latest.{smaller, least_of, latest_within, latest_start_of}

least_same : (n : ℕ) (p q : ℕ → Bool) (f g : ℕ → ℤ) {x y : ℤ} → ((i : ℕ) → i < n → p i ≡ q i) → ((i : ℕ) → i < n → f i ≡ g i) → x ≡ y
    → least_of n p f x ≡ least_of n q g y
unfolding least_of
least_same zero p q f g a b e = e
least_same (suc n) p q f g a b e =
    let rest = least_same n p q f g (λ i l. a i (omega arith)) (λ i l. b i (omega arith)) e in
    λ t. cond (a n (le_refl (suc n)) t) (smaller (rest t) (b n (le_refl (suc n)) t)) (rest t)

module _ {S T : Sheet} (h : SameJobs S T) (d e : ℕ → ℕ) (same : (j : ℕ) → j < S.jobs → d j ≡ e j) where
  own_same : (j : ℕ) → j < S.jobs → (pos (d j) -ℤ pos (S.minutes j)) ≡ (pos (e j) -ℤ pos (T.minutes j))
  own_same j l = ap₂ (λ (x m : ℕ). pos x -ℤ pos m) (same j l) (h.minutes j l)

  within_same : (k j : ℕ) → j < S.jobs → latest_within S d k j ≡ latest_within T e k j
  unfolding latest_within
  within_same zero j l = own_same j l
  within_same (suc k) j l =
      least_same S.jobs (S.before j) (T.before j) (λ i. latest_within S d k i -ℤ pos (S.minutes j)) (λ i. latest_within T e k i -ℤ pos (T.minutes j))
      (λ i m. h.before j i l m) (λ i m. ap₂ (λ (z : ℤ) (x : ℕ). z -ℤ pos x) (within_same k i m) (h.minutes j l)) (own_same j l)
      ∙ ap (λ (n : ℕ). least_of n (T.before j) (λ i. latest_within T e k i -ℤ pos (T.minutes j)) (pos (e j) -ℤ pos (T.minutes j))) h.jobs

  pub latest_same : (j : ℕ) → j < S.jobs → latest_start_of S d j ≡ latest_start_of T e j
  latest_same j l = within_same S.jobs j l ∙ ap (λ (n : ℕ). latest_within T e n j) h.jobs
