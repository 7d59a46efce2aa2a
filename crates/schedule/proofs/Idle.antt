-- A next job that leaves time enough for another one: where job i can end before j would start, it may as well come first.
use mathlib.Core.Path.{◌≡◌, refl}
use mathlib.Core.Logic.{◌⊎◌, inl, inr}
use mathlib.Core.Bool.{Bool, true, false, cond}
use mathlib.Core.List.{List, [], ◌∷◌, ◌++◌}
use Prim.Native.Nat.{ℕ, ◌+◌, ◌≤◌, ◌<◌, zero-le}
use native.Mathlib.Omega.{arith}
use native.Mathlib.Nat.{le_refl, le_trans}
use lib.Dec.{eqb}
use borrow.Author.Tests.{eqb-true, eq-eqb, ne_eqb}
use Rattle.counting.specs.Counting.{only}
use Rattle.counting.proofs.Tests.{true-or-false, clash}
use Rattle.counting.proofs.Sums.{sum-le}
use Rattle.counting.proofs.Ranges.{le-largest, largest-le}
use Rattle.schedule.specs.Plan.{Sheet, Plan, finish, plan_end, Narrow, Lasting}
use Rattle.schedule.specs.ListPlan.{PartPlan, no_jobs, ready, Follows, start_of, part_of, MayStart}
use Rattle.schedule.specs.Beginnings.{CannotBeat}
use Rattle.schedule.proofs.Starts.{Ready, ready_says, start_may}
use Rattle.schedule.proofs.Sound.{part_sound}
use Rattle.schedule.proofs.Timed.{runs, runs_from, runs_to, load, Timed}
use Rattle.schedule.proofs.Beside.{beside-room}
use Rattle.schedule.proofs.Settled.{StartsNext, settled_next, Completion, by_plans}

module _ (S : Sheet) (w : Lasting S) (n : Narrow S) (v : List ℕ) (f : Follows S no_jobs v) (i j : ℕ)
    (r : ready S (part_of S v).placed i ≡ true)
    (idle : start_of S (part_of S v) i + S.minutes i + S.rest ≤ start_of S (part_of S v) j) where
  abbrev P : PartPlan
  P = part_of S v

  abbrev s : ℕ
  s = start_of S P i

  ri : Ready S P.placed i
  ri = ready_says S P.placed i r

  may : MayStart S P i s
  may = start_may S P i (n i ri.job)

  module _ (Q : Plan) (c : Completion S v j Q) where
    -- the same with job i first
    abbrev moved : Plan
    moved = record { start = λ k. cond (eqb k i) s (Q.start k); uses = Q.uses }

    i_later : s + S.minutes i + S.rest ≤ Q.start i
    i_later = omega (arith, idle, c.next, c.first i ri.job ri.new)

    no_later : (k : ℕ) → moved.start k ≤ Q.start k
    no_later k = go (eqb k i) refl
      where
        go : (b : Bool) → eqb k i ≡ b → cond (eqb k i) s (Q.start k) ≤ Q.start k
        go true e = rw (e, eqb-true k i e) (omega (arith, i_later))
        go false e = rw e (le_refl _)

    at_i : moved.start i ≡ s
    at_i = let self : eqb i i ≡ true = eq-eqb i i refl in rw self refl

    kept : (k : ℕ) → k < S.jobs → P.placed k ≡ true → moved.start k ≡ P.plan.start k
    kept k l p = rw (ne_eqb k i (λ y. clash (P.placed k) p (rw y ri.new))) (c.kept k l p)

    -- ---- the load

    otherwise : (t : ℕ) → runs S moved t i ≡ false → load S moved t ≤ S.modules
    otherwise t e = le_trans (sum-le S.jobs _ (λ k. only (runs S Q t k) (S.need k)) (λ k l. one k (eqb k i) refl)) (c.timed.room t)
      where
        one : (k : ℕ) → (b : Bool) → eqb k i ≡ b → only (runs S moved t k) (S.need k) ≤ only (runs S Q t k) (S.need k)
        one k true q = rw (eqb-true k i q, e) zero-le
        one k false q = rw q (le_refl _)

    room : (t : ℕ) → (runs S moved t i ≡ true) ⊎ (runs S moved t i ≡ false) → load S moved t ≤ S.modules
    room t (inl e) =
        beside-room S P (part_sound S n v f) i s ri.job may moved kept t (omega (arith, at_i, runs_from S moved i t e)) (λ k l p d.
        rw (ne_eqb k i d) (omega (arith, at_i, runs_to S moved i t e, idle, c.next, c.first k l p)))
    room t (inr e) = otherwise t e

    -- ---- the rest

    after : (a b : ℕ) → a < S.jobs → b < S.jobs → S.before a b ≡ true → (x : Bool) → eqb b i ≡ x → finish S moved a ≤ moved.start b
    after a b l m e true q =
        let y = eqb-true b i q in
        let p = ri.after a l (rw (← y) e) in
        let d = may.after a l (rw (← y) e) in
        rw q (omega (arith, no_later a, c.kept a l p))
    after a b l m e false q = rw q (omega (arith, no_later a, c.timed.after a b l m e))

    arrived : (k : ℕ) → k < S.jobs → (x : Bool) → eqb k i ≡ x → S.arrival k ≤ moved.start k
    arrived k l true q = rw (q, eqb-true k i q) may.arrived
    arrived k l false q = rw q (c.timed.arrived k l)

    timed : Timed S moved
    timed = record {
      room = λ t. room t (true-or-false (runs S moved t i));
      after = λ a b l m e. after a b l m e (eqb b i) refl;
      arrived = λ k l. arrived k l (eqb k i) refl;
    }

    next : StartsNext S w n v f i r moved
    next = record {
      timed = timed;
      kept = kept;
      reached = rw at_i (le_refl s);
      first = λ k l p. first k l p (eqb k i) refl;
    }
      where
        first : (k : ℕ) → k < S.jobs → P.placed k ≡ false → (x : Bool) → eqb k i ≡ x → moved.start i ≤ moved.start k
        first k l p true q = rw (eqb-true k i q) (le_refl _)
        first k l p false q = rw (at_i, q) (omega (arith, idle, c.next, c.first k l p))

    ends : plan_end S moved ≤ plan_end S Q
    ends = largest-le S.jobs (finish S moved) (plan_end S Q) (λ k l. omega (arith, no_later k, le-largest S.jobs (finish S Q) k l))

  pub idle_cut : (e : ℕ) → CannotBeat S e (v ++ (i ∷ [])) → CannotBeat S e (v ++ (j ∷ []))
  idle_cut e cut = by_plans S n v j e (λ Q c. le_trans (settled_next S w n v f i r e cut (moved Q c) (next Q c)) (ends Q c))
