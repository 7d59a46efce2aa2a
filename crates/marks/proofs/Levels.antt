-- Which jobs follow a job: within as many steps as there are jobs.
use mathlib.Core.Path.{◌≡◌, refl}
use mathlib.Core.Bool.{Bool, true, false, ◌&&◌}
use mathlib.Core.List.{List, [], ◌∷◌}
use Prim.Native.Nat.{ℕ, zero, suc, ◌+◌, ◌≤◌, ◌<◌, zero-le}
use native.Mathlib.Omega.{arith}
use Rattle.counting.proofs.Sums.{sum_const}
use Rattle.counting.proofs.Tests.{or_second, and_left, and_right, and_both}
use Rattle.counting.proofs.Ranges.{any_some, any_at}
use Rattle.schedule.specs.Plan.{Sheet, MustPrecede, directly, through, Circular}
use Rattle.schedule.specs.ListPlan.{Order, no_jobs, placing, ready, Follows, empty_part, list_plan}
use Rattle.schedule.proofs.Sound.{completes_all, order_completes, list_plan_valid}
use Rattle.schedule.proofs.Existence.{has_order}
use Rattle.schedule.proofs.Horizon.{ends_within}
use Rattle.marks.specs.Following.{follows_within, follows, FollowsWhen}

-- the marks alone: no modules, and a minute for each job
abbrev marks : Sheet → Sheet
marks S = record { jobs = S.jobs; modules = 0; need = λ j. 0; minutes = λ j. 1; before = S.before; arrival = λ j. 0; rest = 0 }

marks_follow : (S : Sheet) (d : ℕ → Bool) (o : List ℕ) → Follows S d o → Follows (marks S) d o
unfolding ready
marks_follow S d [] f = tt
marks_follow S d (j ∷ o) f = (f.0, marks_follow S (placing d j) o f.1)

-- a level for each job, below the number of jobs, that rises along every mark
pub record Level (S : Sheet) : Type 0 where
  pub at : ℕ → ℕ
  pub low : (i : ℕ) → i < S.jobs → at i < S.jobs
  pub rises : (i j : ℕ) → i < S.jobs → j < S.jobs → S.before i j ≡ true → at i < at j

pub levels : (S : Sheet) → ¬ Circular S → Level S
levels S c =
    let t = (has_order S).1 c in
    let o = t.0 in
    let h : Order (marks S) o = record { all = t.1.all; follows = marks_follow S no_jobs o t.1.follows } in
    let v = list_plan_valid (marks S) (λ j l. zero-le) o h in
    let top = ends_within (marks S) (λ j l. zero-le) 0 (λ j l. zero-le) o h.follows in
    let all = completes_all (marks S) empty_part o (order_completes (marks S) o h) in
    record {
      at = (list_plan (marks S) o).start;
      low = λ i l. omega (arith, top i l (all i l), sum_const S.jobs 1);
      rises = λ i j l m e. omega (arith, v.after i j l m e);
    }

module _ (S : Sheet) (lv : Level S) where
  level-rises : {i j : ℕ} → MustPrecede S i j → lv.at i < lv.at j
  level-rises (directly a b e) = lv.rises _ _ a b e
  level-rises (through a b e m) = omega (arith, lv.rises _ _ a b e, level-rises m)

  -- a chain takes no more marks than the levels between its ends
  within : (k : ℕ) {i j : ℕ} → MustPrecede S i j → lv.at j ≤ lv.at i + suc k → follows_within S k i j ≡ true
  unfolding follows_within
  within zero (directly a b e) l = e
  within zero (through a b e m) l = absurd (omega (arith, lv.rises _ _ a b e, level-rises m))
  within (suc k) {i} {j} (directly a b e) l = rw e refl
  within (suc k) {i} {j} (through {k = x} a b e m) l =
      or_second (S.before i j) _ (any_at S.jobs (λ a. S.before i a && follows_within S k a j) x b
      (and_both (S.before i x) (follows_within S k x j) e (within k m (omega (arith, lv.rises _ _ a b e)))))

  is-chain : (k : ℕ) (i j : ℕ) → i < S.jobs → j < S.jobs → follows_within S k i j ≡ true → MustPrecede S i j
  unfolding follows_within
  is-chain zero i j a b e = directly a b e
  is-chain (suc k) i j a b e = go (S.before i j) refl (λ x n. is-chain k x j n b)
    where
      go : (t : Bool) → S.before i j ≡ t → ((x : ℕ) → x < S.jobs → follows_within S k x j ≡ true → MustPrecede S x j) → MustPrecede S i j
      go true q r = directly a b q
      go false q r =
          let s = any_some S.jobs (λ x. S.before i x && follows_within S k x j) (rw q at e) in
          through a s.1 (and_left (S.before i s.0) (follows_within S k s.0 j) s.2)
          (r s.0 s.1 (and_right (S.before i s.0) (follows_within S k s.0 j) s.2))

pub follows_when : FollowsWhen
follows_when S c i j a b =
    let lv = levels S c in
    (is-chain S lv S.jobs i j a b, λ m. within S lv S.jobs m (omega (arith, lv.low j b)))

-- chains one behind another
pub joins : {S : Sheet} {i a j : ℕ} → MustPrecede S i a → MustPrecede S a j → MustPrecede S i j
joins (directly l m e) q = through l m e q
joins (through l m e p) q = through l m e (joins p q)

-- what follows goes on
pub chains : (S : Sheet) → ¬ Circular S → (i j k : ℕ) → i < S.jobs → j < S.jobs → k < S.jobs
    → follows S i j ≡ true → follows S j k ≡ true → follows S i k ≡ true
chains S c i j k a b d p q = (follows_when S c i k a d).1 (joins ((follows_when S c i j a b).0 p) ((follows_when S c j k b d).0 q))
