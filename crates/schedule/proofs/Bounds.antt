-- The bounds by weights, by lanes and by modules, jobs that must overlap, and those that arrive late, as cuts.
use mathlib.Core.Path.{◌≡◌}
use mathlib.Core.Logic.{◌⊎◌, inl, inr}
use mathlib.Core.Bool.{true, false, not, cond, ◌&&◌}
use mathlib.Core.List.{List, [], ◌∷◌}
use Prim.Native.Nat.{ℕ, suc, ◌+◌, ◌-◌, ◌*◌, ◌≤◌, ◌<◌, max, zero-le}
use native.Mathlib.Omega.{arith}
use native.Mathlib.Nat.{le_trans}
use lib.Dec.{leb}
use Rattle.counting.specs.Counting.{only, sum, Rises, Holds}
use Rattle.counting.proofs.Tests.{true-or-false, clash, less-or-not}
use Rattle.schedule.specs.Plan.{Sheet, Plan, Valid, finish, plan_end, Narrow, Lasting}
use Rattle.schedule.specs.ListPlan.{PartPlan, no_jobs, Follows, occupies, place_all, part_of, occupied}
use Rattle.schedule.specs.Bounds.{kept, chain, head, must_run, minutes_behind, gain, Lasts, ServesFrom}
use Rattle.schedule.specs.PartPlans.{Sound, Completes, NoneBefore}
use Rattle.schedule.specs.Beginnings.{CannotBeat}
use Rattle.schedule.proofs.Sound.{part_sound, place_all_sound, completes_all, complete_valid}
use Rattle.schedule.proofs.Earliest.{valid_timed}
use Rattle.schedule.proofs.Along.{place_all_keeps}
use Rattle.schedule.proofs.Branch.{next_first}
use Rattle.schedule.proofs.Cuts.{by_completions}
use Rattle.schedule.proofs.Chains.{chain-le}
use Rattle.schedule.proofs.Heads.{head-le}
use Rattle.schedule.proofs.Late.{late_bound}
use Rattle.schedule.proofs.Weights.{GoesOn, weights_bound}
use Rattle.schedule.proofs.Reach.{reach_bound}
use Rattle.schedule.proofs.Overlaps.{must_fit}
use Rattle.schedule.proofs.Modulewise.{GoesOnWith, modules_bound, by_profile}

module _ (S : Sheet) (lasting : Lasting S) (n : Narrow S) (w : List ℕ) (f : Follows S no_jobs w) (l : ℕ) (from : (part_of S w).last ≤ l)
    (next : NoneBefore S (part_of S w) l) (T : ℕ) where
  abbrev P : PartPlan
  P = part_of S w

  sound : Sound S P
  sound = part_sound S n w f

  -- ---- a completion goes on from P

  module _ (p : List ℕ) (c : Completes S P p) where
    abbrev Q : Plan
    Q = (place_all S P p).plan

    valid : Valid S Q
    valid = complete_valid S (place_all S P p) (place_all_sound S n P p sound c.0) (completes_all S P p c)

    pub later : (k : ℕ) → k < S.jobs → P.placed k ≡ false → l ≤ Q.start k
    unfolding place_all
    later = go p c
      where
        go : (p : List ℕ) → Completes S P p → (k : ℕ) → k < S.jobs → P.placed k ≡ false → l ≤ (place_all S P p).plan.start k
        go [] c k x z = clash (P.placed k) (completes_all S P [] c k x) z
        go (j ∷ o) c k x z = le_trans (next j c.0.0) (next_first S n P j o c.0 k z (completes_all S P (j ∷ o) c k x))

    goes_on : GoesOn S P l Q
    goes_on = record {
      timed = valid_timed S Q valid;
      kept = λ k x z. (place_all_keeps S P p c.0 k z).start;
      early = λ k x z. le_trans (sound.early k x z) from;
      later = later;
    }

    goes_on_with : GoesOnWith S P l Q
    goes_on_with = record {
      on = goes_on;
      valid = valid;
      uses = λ k m x z. (place_all_keeps S P p c.0 k z).uses m;
    }

  -- ---- the cuts

  -- the minute by which a plan that ends by T has given back all modules
  abbrev close : ℕ
  close = T + S.rest

  -- what all completions that end by T would break
  by_end : ((p : List ℕ) (c : Completes S P p) → plan_end S (Q p c) + S.rest ≤ close → ⊥) → CannotBeat S (suc T) w
  by_end h = by_completions S n w f (suc T) (λ p c. go p c (less-or-not T (plan_end S (Q p c))))
    where
      go : (p : List ℕ) (c : Completes S P p) → (T < plan_end S (Q p c)) ⊎ (plan_end S (Q p c) ≤ T) → suc T ≤ plan_end S (Q p c)
      go p c (inl x) = x
      go p c (inr x) = absurd (h p c (omega arith))

  pub weights_cut : (y K : ℕ → ℕ) → Holds S.need S.jobs S.modules y K
      → sum close (λ t. only (leb l t) (K (S.modules - occupied S P t))) < sum S.jobs (λ k. only (not (P.placed k)) (kept S k * y k))
      → CannotBeat S (suc T) w
  weights_cut y K most over = by_end (λ p c x. omega (arith, over, weights_bound S P l (Q p c) (goes_on p c) close x y K most))

  -- each job that is left starts from its minute r on, whatever completes P
  pub release_cut : (r y v K Z : ℕ → ℕ)
      → ((k : ℕ) → k < S.jobs → P.placed k ≡ false → (p : List ℕ) → Completes S P p → r k ≤ (place_all S P p).plan.start k)
      → Holds S.need S.jobs S.modules y K → Rises S.modules K → ServesFrom S P close r v Z → Z 0 ≡ 0 → Rises close Z
      → sum close (λ t. only (leb l t) (K (S.modules - occupied S P t) * gain Z close t))
      < sum S.jobs (λ k. only (not (P.placed k)) (y k * v k))
      → CannotBeat S (suc T) w
  release_cut r y v K Z released most more serves none rises over = by_end (λ p c x.
      omega (
        arith,
        over,
        reach_bound S lasting P l (Q p c) (goes_on p c) close x r y v K Z (λ k m z. released k m z p c) most more serves none rises,
      ))

  pub reach_cut : (y v K Z : ℕ → ℕ) → Holds S.need S.jobs S.modules y K → Rises S.modules K
      → Holds (kept S) S.jobs close v Z → Z 0 ≡ 0 → Rises close Z
      → sum close (λ t. only (leb l t) (K (S.modules - occupied S P t) * gain Z close t))
      < sum S.jobs (λ k. only (not (P.placed k)) (y k * v k))
      → CannotBeat S (suc T) w
  reach_cut y v K Z most more lasts =
      release_cut (λ k. 0) y v K Z (λ k m z p c. zero-le) most more (λ X x m left short late. lasts X x m short)

  -- a job that is left starts neither before minute l nor before its head
  abbrev first : ℕ → ℕ → ℕ
  first a k = max l (head S a k)

  starts_from : (p : List ℕ) (c : Completes S P p) (a k : ℕ) → k < S.jobs → P.placed k ≡ false → first a k ≤ (Q p c).start k
  starts_from p c a k x z = omega (arith, later p c k x z, head-le S (Q p c) (goes_on p c).timed a k x)

  pub overlap_cut : (a b m : ℕ) → l ≤ m
      → S.modules < sum S.jobs (λ k. only (not (P.placed k) && must_run (max l (head S a k)) (chain S b k) T m (kept S k)) (S.need k))
      + occupied S P m
      → CannotBeat S (suc T) w
  overlap_cut a b m on over = by_end (λ p c x.
      omega (
        arith,
        over,
        must_fit S P l (Q p c) (goes_on p c) m on T (first a) (chain S b) (starts_from p c a)
            (λ k y. omega (arith, chain-le S (Q p c) (valid p c) b k y)),
      ))

  pub head_cut : (a b k : ℕ) → k < S.jobs → T < head S a k + chain S b k → CannotBeat S (suc T) w
  head_cut a b k x over = by_end (λ p c z.
      omega (arith, over, head-le S (Q p c) (goes_on p c).timed a k x, chain-le S (Q p c) (valid p c) b k x))

  pub late_cut : (a m : ℕ) → l ≤ m
      → S.modules * (close - m)
      < sum S.jobs (λ k. S.need k
      * cond (P.placed k) (finish S P.plan k + S.rest - m) (minutes_behind (max l (head S a k)) m (kept S k)))
      → CannotBeat S (suc T) w
  late_cut a m on over = by_end (λ p c x. omega (arith, over, late_bound S (Q p c) (goes_on p c).timed close x m _ (busy p c)))
    where
      busy : (p : List ℕ) (c : Completes S P p) (k : ℕ) → k < S.jobs
          → cond (P.placed k) (finish S P.plan k + S.rest - m) (minutes_behind (first a k) m (kept S k))
          ≤ (Q p c).start k + kept S k - max m ((Q p c).start k)
      busy p c k x = go (true-or-false (P.placed k))
        where
          go : (P.placed k ≡ true) ⊎ (P.placed k ≡ false)
              → cond (P.placed k) (finish S P.plan k + S.rest - m) (minutes_behind (first a k) m (kept S k))
              ≤ (Q p c).start k + kept S k - max m ((Q p c).start k)
          go (inl z) = rw z (omega (arith, (goes_on p c).kept k x z, (goes_on p c).early k x z))
          go (inr z) = rw z (omega (arith, starts_from p c a k x z))

  pub modules_cut : (y Z : ℕ → ℕ) → Lasts S P y Z → ((a b : ℕ) → a ≤ b → Z a ≤ Z b)
      → sum S.jobs (λ k. only (occupies S P l k) (S.need k * Z (close - (finish S P.plan k + S.rest))))
      + (S.modules - occupied S P l) * Z (close - l)
      < sum S.jobs (λ k. only (not (P.placed k)) (S.need k * y k))
      → CannotBeat S (suc T) w
  modules_cut y Z most mono over = by_end (λ p c x.
      omega (arith, over, by_profile S P sound l from close Z mono, modules_bound S lasting P l (Q p c) (goes_on_with p c) close x y Z most))
