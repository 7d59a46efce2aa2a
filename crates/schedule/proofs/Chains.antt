-- The longest-chain bound: a job that can follow, and the longest chain of jobs that wait for it, must still fit before the end.
use mathlib.Core.Path.{◌≡◌, refl, sym}
use mathlib.Core.Bool.{Bool, true, false, ◌&&◌, or-true}
use mathlib.Core.List.{List, [], ◌∷◌}
use Prim.Native.Nat.{ℕ, zero, suc, ◌+◌, ◌-◌, ◌≤◌, ◌<◌}
use native.Mathlib.Omega.{arith}
use native.Mathlib.Nat.{le_trans, le_of_eq}
use lib.Dec.{eqb}
use lib.ListN.{length}
use borrow.Author.Tests.{eqb-true, ne_eqb, not-true}
use Rattle.counting.specs.Counting.{only, count}
use Rattle.counting.proofs.Tests.{clash, not_of_false, only_within}
use Rattle.counting.proofs.Ranges.{le-largest, largest-le, any_none, none_any}
use Rattle.counting.proofs.Counts.{count_mono, count_insert}
use Rattle.schedule.specs.Plan.{Sheet, Plan, Valid, finish, plan_end, Narrow}
use Rattle.schedule.specs.ListPlan.{PartPlan, ready, occupies, free, start_of, place, place_all, MayStart}
use Rattle.schedule.specs.PartPlans.{Sound, Completes}
use Rattle.schedule.specs.Bounds.{chain}
use Rattle.schedule.proofs.Starts.{Ready, ready_says, start-le, start_may}
use Rattle.schedule.proofs.Sound.{place_all_sound, complete_valid, completes_all}
use Rattle.schedule.proofs.Along.{next_start-kept}

-- in a valid plan the chain fits between the job's start and the plan's end
pub chain-le : (S : Sheet) (P : Plan) → Valid S P → (k j : ℕ) → j < S.jobs → P.start j + chain S k j ≤ plan_end S P
unfolding chain
chain-le S P v zero j l = omega (arith, le-largest S.jobs (finish S P) j l)
chain-le S P v (suc k) j l =
    let e = le-largest S.jobs (finish S P) j l in
    let b = largest-le S.jobs (λ i. only (S.before j i) (chain S k i)) (plan_end S P - finish S P j)
    (λ i m. only_within (S.before j i) (chain S k i) _ (λ q. omega (arith, v.after j i l m q, chain-le S P v k i m))) in
    omega arith

-- ---- a job that can follow starts no earlier for waiting

module _ (S : Sheet) (P : PartPlan) (i t : ℕ) (r : Ready S P.placed i) (m : P.last ≤ t) where
  free_fewer : (u n : ℕ) → free S (place S P i t) u n ≡ true → free S P u n ≡ true
  free_fewer u n e = not_of_false _ (none_any S.jobs _ (λ k l. one k l (eqb k i) refl))
    where
      Q : PartPlan
      Q = place S P i t

      none : (k : ℕ) → k < S.jobs → (occupies S Q u k && Q.plan.uses k n) ≡ false
      none = any_none S.jobs (λ k. occupies S Q u k && Q.plan.uses k n) (not-true _ e)

      one : (k : ℕ) → k < S.jobs → (b : Bool) → eqb k i ≡ b → (occupies S P u k && P.plan.uses k n) ≡ false
      one k l true q = let z : P.placed k ≡ false = rw (eqb-true k i q) r.new in rw z
      one k l false q = rw q at (none k l)

  may_before : (j u : ℕ) → Ready S P.placed j → MayStart S (place S P i t) j u → MayStart S P j u
  may_before j u q f = record {
    later = le_trans m f.later;
    arrived = f.arrived;
    after = λ k l b.
        let z : eqb k i ≡ false = ne_eqb k i (λ y. clash (P.placed k) (q.after k l b) (rw y r.new)) in
        rw z at (f.after k l b);
    room = le_trans f.room (count_mono S.modules _ _ (λ n l. free_fewer u n));
  }

  pub start-rises : (j : ℕ) → S.need j ≤ S.modules → Ready S P.placed j → start_of S P j ≤ start_of S (place S P i t) j
  start-rises j w q = start-le S P j _ (may_before j _ q (start_may S (place S P i t) j w))

pub start-waits : (S : Sheet) → Narrow S → (P : PartPlan) (o : List ℕ) → Completes S P o → (j : ℕ) → Ready S P.placed j
    → start_of S P j ≤ (place_all S P o).plan.start j
unfolding place_all
start-waits S w P [] c j q = clash (P.placed j) (completes_all S P [] c j q.job) q.new
start-waits S w P (i ∷ o) (f, c) j q = go (eqb j i) refl (λ d. start-waits S w Q o (f.1, full) j d)
  where
    r : Ready S P.placed i
    r = ready_says S P.placed i f.0

    Q : PartPlan
    Q = place S P i (start_of S P i)

    full : count S.jobs Q.placed + length o ≡ S.jobs
    full = omega (arith, count_insert S.jobs P.placed i r.job r.new)

    still : eqb j i ≡ false → Ready S Q.placed j
    still e = record { job = q.job; new = rw e q.new; after = λ k l b. rw (q.after k l b) (or-true (eqb k i)) }

    go : (b : Bool) → eqb j i ≡ b → (Ready S Q.placed j → start_of S Q j ≤ (place_all S Q o).plan.start j)
        → start_of S P j ≤ (place_all S Q o).plan.start j
    go true e h = rw (eqb-true j i e) (le_of_eq (sym (next_start-kept S P i o f)))
    go false e h =
        le_trans (start-rises S P i (start_of S P i) r (start_may S P i (w i r.job)).later j (w j q.job) q) (h (still e))

-- Whatever order completes P: the end is at least the start of a job that can follow plus any chain that begins with it.
pub chain_bound : (S : Sheet) → Narrow S → (P : PartPlan) → Sound S P → (o : List ℕ) → Completes S P o
    → (k j : ℕ) → ready S P.placed j ≡ true → start_of S P j + chain S k j ≤ plan_end S (place_all S P o).plan
chain_bound S w P h o c k j e =
    let q = ready_says S P.placed j e in
    let v = complete_valid S (place_all S P o) (place_all_sound S w P o h c.0) (completes_all S P o c) in
    omega (arith, start-waits S w P o c j q, chain-le S (place_all S P o).plan v k j q.job)
