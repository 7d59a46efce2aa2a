-- Two sheets that say the same of every job have the same marks implied.
use mathlib.Core.Path.{◌≡◌, ap, ap₂, ◌∙◌}
use mathlib.Core.Bool.{Bool, ◌&&◌, ◌||◌}
use Prim.Native.Nat.{ℕ, zero, suc, ◌<◌}
use Rattle.counting.specs.Counting.{any}
use Rattle.counting.proofs.Ranges.{any_same}
use Rattle.bits.specs.Bits.{set_of}
use Rattle.bits.proofs.Sets.{set_of_same}
use Rattle.schedule.specs.Plan.{Sheet}
use Rattle.schedule.proofs.Same.{SameJobs}
use Rattle.marks.specs.Following.{follows_within, follows}
use Rattle.marks.specs.Implied.{implied, implied_marks}

module _ {S T : Sheet} (h : SameJobs S T) where
  -- a mark from i to some job, and on from there
  on_same : (f g : ℕ → Bool) (i : ℕ) → i < S.jobs → ((a : ℕ) → a < S.jobs → f a ≡ g a)
      → any S.jobs (λ a. S.before i a && f a) ≡ any T.jobs (λ a. T.before i a && g a)
  on_same f g i l e =
      any_same S.jobs (λ a. S.before i a && f a) (λ a. T.before i a && g a) (λ a m. ap₂ ◌&&◌ (h.before i a l m) (e a m))
      ∙ ap (λ (n : ℕ). any n (λ a. T.before i a && g a)) h.jobs

  within_same : (k i j : ℕ) → i < S.jobs → j < S.jobs → follows_within S k i j ≡ follows_within T k i j
  unfolding follows_within
  within_same zero i j l m = h.before i j l m
  within_same (suc k) i j l m =
      ap₂ ◌||◌ (h.before i j l m) (on_same (λ a. follows_within S k a j) (λ a. follows_within T k a j) i l (λ a x. within_same k a j x m))

  follows_same : (i j : ℕ) → i < S.jobs → j < S.jobs → follows S i j ≡ follows T i j
  follows_same i j l m = within_same S.jobs i j l m ∙ ap (λ (n : ℕ). follows_within T n i j) h.jobs

  pub implied_same : (j : ℕ) → j < S.jobs → implied_marks S j ≡ implied_marks T j
  unfolding implied_marks implied
  implied_same j m =
      set_of_same S.jobs (λ i. implied S i j) (λ i. implied T i j)
      (λ i l. ap₂ ◌&&◌ (h.before i j l m) (on_same (λ a. follows S a j) (λ a. follows T a j) i l (λ a x. follows_same a j x m)))
      ∙ ap (λ (n : ℕ). set_of n (λ i. implied T i j)) h.jobs
