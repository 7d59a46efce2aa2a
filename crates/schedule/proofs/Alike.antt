-- Two next jobs of equal modules and minutes: where every job that waits for j waits for i, and i can start as early, i may as well come
-- first.
use mathlib.Core.Path.{◌≡◌, ◌∙◌}
use mathlib.Core.Logic.{◌≢◌}
use mathlib.Core.Bool.{true, false}
use mathlib.Core.List.{List, [], ◌∷◌, ◌++◌}
use Prim.Native.Nat.{ℕ, ◌+◌, ◌≤◌, ◌<◌}
use native.Mathlib.Omega.{arith}
use native.Mathlib.Nat.{le_refl, le_trans}
use Rattle.counting.specs.Counting.{only}
use Rattle.counting.proofs.Tests.{clash}
use Rattle.counting.proofs.Ranges.{le-largest}
use Rattle.schedule.specs.Plan.{Sheet, Plan, finish, plan_end, Narrow, Lasting}
use Rattle.schedule.specs.ListPlan.{PartPlan, no_jobs, ready, Follows, start_of, part_of, MayStart}
use Rattle.schedule.specs.Beginnings.{CannotBeat}
use Rattle.schedule.proofs.Starts.{Ready, ready_says, start_may}
use Rattle.schedule.proofs.Timed.{runs, Timed}
use Rattle.schedule.proofs.Settled.{StartsNext, settled_next, Completion, by_plans}
use Rattle.schedule.proofs.Exchange.{of_each, exchanged, start_one, start_two, start_other, exchange_timed, exchange_ends}

module _ (S : Sheet) (w : Lasting S) (n : Narrow S) (v : List ℕ) (f : Follows S no_jobs v) (i j : ℕ) (d : i ≢ j)
    (r : ready S (part_of S v).placed i ≡ true) (r2 : ready S (part_of S v).placed j ≡ true)
    (need : S.need i ≡ S.need j) (minutes : S.minutes i ≡ S.minutes j)
    (waits : (k : ℕ) → k < S.jobs → S.before j k ≡ true → S.before i k ≡ true)
    (soon : start_of S (part_of S v) i ≤ start_of S (part_of S v) j) where
  abbrev P : PartPlan
  P = part_of S v

  ri : Ready S P.placed i
  ri = ready_says S P.placed i r

  rj : Ready S P.placed j
  rj = ready_says S P.placed j r2

  may : MayStart S P i (start_of S P i)
  may = start_may S P i (n i ri.job)

  may2 : MayStart S P j (start_of S P j)
  may2 = start_may S P j (n j rj.job)

  module _ (Q : Plan) (c : Completion S v j Q) where
    -- the two change places
    abbrev R : Plan
    R = exchanged Q i (Q.start j) j (Q.start i)

    at_i : R.start i ≡ Q.start j
    at_i = start_one Q i (Q.start j) j (Q.start i) d

    at_j : R.start j ≡ Q.start i
    at_j = start_two Q i (Q.start j) j (Q.start i) d

    other : (k : ℕ) → k ≢ i → k ≢ j → R.start k ≡ Q.start k
    other = start_other Q i (Q.start j) j (Q.start i) d

    j_first : Q.start j ≤ Q.start i
    j_first = c.first i ri.job ri.new

    two : (t : ℕ) → only (runs S R t i) (S.need i) + only (runs S R t j) (S.need i)
        ≤ only (runs S Q t i) (S.need i) + only (runs S Q t j) (S.need i)
    two t = rw (at_i, at_j, minutes) (omega arith)

    -- a placed job is neither
    not_i : (k : ℕ) → P.placed k ≡ true → k ≢ i
    not_i k p y = clash (P.placed k) p (rw y ri.new)

    not_j : (k : ℕ) → P.placed k ≡ true → k ≢ j
    not_j k p y = clash (P.placed k) p (rw y rj.new)

    kept : (k : ℕ) → k < S.jobs → P.placed k ≡ true → R.start k ≡ P.plan.start k
    kept k l p = other k (not_i k p) (not_j k p) ∙ c.kept k l p

    timed : Timed S R
    timed =
        exchange_timed Q i (Q.start j) j (Q.start i) d S c.timed ri.job rj.job need two
        (λ k l e. omega (arith, kept k l (ri.after k l e), may.after k l e, soon, c.next))
        (λ k l e. omega (arith, kept k l (rj.after k l e), may2.after k l e, c.next, j_first))
        (λ k l e. omega (arith, c.timed.after i k ri.job l e, j_first))
        (λ k l e. omega (arith, minutes, c.timed.after i k ri.job l (waits k l e))) (omega (arith, may.arrived, soon, c.next))
        (omega (arith, may2.arrived, c.next, j_first))

    first : (k : ℕ) → k < S.jobs → P.placed k ≡ false → R.start i ≤ R.start k
    first = of_each {C = λ k. k < S.jobs → P.placed k ≡ false → R.start i ≤ R.start k} i j (λ l p. le_refl _)
        (λ l p. omega (arith, at_i, at_j, j_first)) (λ k x y l p. omega (arith, at_i, other k x y, c.first k l p))

    next : StartsNext S w n v f i r R
    next = record {
      timed = timed;
      kept = kept;
      reached = omega (arith, at_i, soon, c.next);
      first = first;
    }

    ends : plan_end S R ≤ plan_end S Q
    ends =
        exchange_ends Q i (Q.start j) j (Q.start i) d S c.timed ri.job rj.job
        (omega (arith, minutes, le-largest S.jobs (finish S Q) j rj.job))
        (omega (arith, minutes, le-largest S.jobs (finish S Q) i ri.job))

  pub alike_cut : (e : ℕ) → CannotBeat S e (v ++ (i ∷ [])) → CannotBeat S e (v ++ (j ∷ []))
  alike_cut e cut = by_plans S n v j e (λ Q c. le_trans (settled_next S w n v f i r e cut (R Q c) (next Q c)) (ends Q c))
