-- The job sets of a sheet are those that the split counts.
use mathlib.Core.Path.{◌≡◌, ap, ◌∙◌}
use mathlib.Core.Bool.{Bool, true, not, ◌&&◌, ◌||◌}
use Prim.Native.Nat.{ℕ, ◌^◌, ◌<◌}
use Rattle.counting.specs.Counting.{every, count}
use Rattle.counting.proofs.Tests.{same_test, and_left, and_right, and_both, implied, implication}
use Rattle.counting.proofs.Counts.{count_same}
use Rattle.counting.proofs.Ranges.{every-at, every_intro}
use Rattle.bits.specs.Bits.{bit}
use native.Mathlib.Omega.{arith}
use Rattle.schedule.proofs.Same.{SameJobs, same_back}
use Rattle.schedule.specs.Plan.{Sheet, MustPrecede, directly, through, Circular}
use Rattle.marks.specs.Following.{follows}
use Rattle.marks.proofs.Levels.{follows_when}
use Rattle.job_sets.specs.Sets.{closed, closed_sets, closed_in, sets_in}

-- what a closed set says
pub closed_says : (S : Sheet) (d : ℕ → Bool) → closed S d ≡ true
    → (i j : ℕ) → i < S.jobs → j < S.jobs → S.before i j ≡ true → d j ≡ true → d i ≡ true
unfolding closed
closed_says S d e i j a b m x =
    implied (S.before i j) (d i) (every-at S.jobs (λ i. not (S.before i j) || d i)
    (implied (d j) _ (every-at S.jobs (λ j. not (d j) || every S.jobs (λ i. not (S.before i j) || d i)) e j b) x) i a) m

pub says-closed : (S : Sheet) (d : ℕ → Bool)
    → ((i j : ℕ) → i < S.jobs → j < S.jobs → S.before i j ≡ true → d j ≡ true → d i ≡ true) → closed S d ≡ true
unfolding closed
says-closed S d h = every_intro S.jobs _ (λ j b. implication (d j) _ (λ x. every_intro S.jobs _ (λ i a.
    implication (S.before i j) (d i) (λ m. h i j a b m x))))

-- two sheets that say the same of every job
closed_same : {S T : Sheet} → SameJobs S T → (d : ℕ → Bool) → closed S d ≡ true → closed T d ≡ true
closed_same {S} {T} h d e = says-closed T d (λ i j a b m x.
    let k : i < S.jobs = omega (arith, h.jobs) in
    let l : j < S.jobs = omega (arith, h.jobs) in
    closed_says S d e i j k l (h.before i j k l ∙ m) x)

pub sets_same : {S T : Sheet} → SameJobs S T → closed_sets S ≡ closed_sets T
unfolding closed_sets
sets_same {S} {T} h =
    count_same (2 ^ S.jobs) (λ x. closed S (bit x)) (λ x. closed T (bit x))
    (λ x l. same_test _ _ (closed_same h (bit x)) (closed_same (same_back h) (bit x)))
    ∙ ap (λ (n : ℕ). count (2 ^ n) (λ x. closed T (bit x))) h.jobs

-- L has every job
module _ (S : Sheet) (c : ¬ Circular S) (L : ℕ → Bool) (all : (i : ℕ) → i < S.jobs → L i ≡ true) where
  pub closed_is : (d : ℕ → Bool) → closed S d ≡ closed_in S.jobs (follows S) L d
  closed_is d = same_test _ _ there back
    where
      along : closed S d ≡ true → {i j : ℕ} → MustPrecede S i j → d j ≡ true → d i ≡ true
      along e (directly a b m) x = closed_says S d e _ _ a b m x
      along e (through a b m p) x = closed_says S d e _ _ a b m (along e p x)

      there : closed S d ≡ true → closed_in S.jobs (follows S) L d ≡ true
      there e = every_intro S.jobs _ (λ k b. implication (d k) _ (λ x. and_both (L k) _ (all k b) (every_intro S.jobs _ (λ i a.
          implication (follows S i k && L i) (d i) (λ y. along e ((follows_when S c i k a b).0 (and_left (follows S i k) (L i) y)) x)))))

      back : closed_in S.jobs (follows S) L d ≡ true → closed S d ≡ true
      back e = says-closed S d (λ i j a b m x.
          implied (follows S i j && L i) (d i) (every-at S.jobs (λ i. not (follows S i j && L i) || d i)
          (and_right (L j) _ (implied (d j) _ (every-at S.jobs (λ k. not (d k) || (L k && every S.jobs (λ i. not (follows S i k && L i) || d i))) e j b) x)) i a)
          (and_both (follows S i j) (L i) ((follows_when S c i j a b).1 (directly a b m)) (all i a)))

  pub sets_are : closed_sets S ≡ sets_in S.jobs (follows S) L
  unfolding closed_sets sets_in
  sets_are = count_same (2 ^ S.jobs) (λ x. closed S (bit x)) (λ x. closed_in S.jobs (follows S) L (bit x)) (λ x l. closed_is (bit x))
