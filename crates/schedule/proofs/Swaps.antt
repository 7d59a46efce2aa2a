-- A next job that would start as soon as a placed job of its width has ended: where it was settled in that job's place, and every job that
-- waits for that one waits for it too, the two may as well come the other way round.
use mathlib.Core.Path.{◌≡◌, ap, ◌∙◌}
use mathlib.Core.Logic.{◌⊎◌, inl, inr, ◌≢◌}
use mathlib.Core.Bool.{true, false}
use mathlib.Core.List.{List, [], ◌∷◌, ◌++◌}
use Prim.Native.Nat.{ℕ, ◌+◌, ◌≤◌, ◌<◌, zero-le}
use native.Mathlib.Omega.{arith}
use native.Mathlib.Nat.{le_refl, le_trans}
use Rattle.counting.specs.Counting.{only}
use Rattle.counting.proofs.Tests.{true-or-false, clash, less-or-not}
use Rattle.counting.proofs.Ranges.{le-largest}
use Rattle.schedule.specs.Plan.{Sheet, Plan, finish, plan_end, Narrow, Lasting}
use Rattle.schedule.specs.ListPlan.{PartPlan, no_jobs, ready, Follows, start_of, part_of}
use Rattle.schedule.specs.Beginnings.{CannotBeat}
use Rattle.schedule.proofs.Starts.{Ready, ready_says, start_may}
use Rattle.schedule.proofs.Timed.{runs, runs_on, runs-not_yet, runs_no_more, Timed}
use Rattle.schedule.proofs.Branch.{branch_follows, branch_kept, branch-placed, branch_start, branch-behind}
use Rattle.schedule.proofs.Settled.{StartsNext, settled_next, Completion, by_plans}
use Rattle.schedule.proofs.Exchange.{of_each, exchanged, start_one, start_two, start_other, exchange_timed, exchange_ends}

-- one job behind the other on the same modules: at each minute, one of them runs whichever comes first
module _ (S : Sheet) (Q R : Plan) (i j t : ℕ) (qi : Q.start i ≡ t) (qj : Q.start j ≡ t + S.minutes i + S.rest)
    (rj : R.start j ≡ t) (ri : R.start i ≡ t + S.minutes j + S.rest) where
  -- in R at most one runs, and then one runs in Q
  pub turned_round : (x u : ℕ) → only (runs S R u i) x + only (runs S R u j) x ≤ only (runs S Q u i) x + only (runs S Q u j) x
  turned_round x u = before (less-or-not u t)
    where
      in_q : t ≤ u → u < t + S.minutes i + S.rest + S.minutes j + S.rest
          → (u < t + S.minutes i + S.rest) ⊎ (t + S.minutes i + S.rest ≤ u) → x ≤ only (runs S Q u i) x + only (runs S Q u j) x
      in_q a b (inl y) = let e = runs_on S Q i u (omega (arith, qi)) (omega (arith, qi)) in rw e (omega arith)
      in_q a b (inr y) = let e = runs_on S Q j u (omega (arith, qj)) (omega (arith, qj)) in rw e (omega arith)

      in_r : t ≤ u → u < t + S.minutes i + S.rest + S.minutes j + S.rest
          → (u < t + S.minutes j + S.rest) ⊎ (t + S.minutes j + S.rest ≤ u) → only (runs S R u i) x + only (runs S R u j) x ≤ x
      in_r a b (inl y) = let e = runs-not_yet S R i u (omega (arith, ri)) in rw (
        e,
        runs_on S R j u (omega (arith, rj)) (omega
            (arith, rj)),
      ) (omega arith)
      in_r a b (inr y) = let e = runs_no_more S R j u (omega (arith, rj)) in rw (
        e,
        runs_on S R i u (omega (arith, ri)) (omega
            (arith, ri)),
      ) (omega arith)

      within : t ≤ u → (u < t + S.minutes i + S.rest + S.minutes j + S.rest) ⊎ (t + S.minutes i + S.rest + S.minutes j + S.rest ≤ u)
          → only (runs S R u i) x + only (runs S R u j) x ≤ only (runs S Q u i) x + only (runs S Q u j) x
      within a (inl b) =
          le_trans (in_r a b (less-or-not u (t + S.minutes j + S.rest))) (in_q a b (less-or-not u (t + S.minutes i + S.rest)))
      within a (inr b) = rw (runs_no_more S R i u (omega (arith, ri)), runs_no_more S R j u (omega (arith, rj))) zero-le

      before : (u < t) ⊎ (t ≤ u) → only (runs S R u i) x + only (runs S R u j) x ≤ only (runs S Q u i) x + only (runs S Q u j) x
      before (inl a) = rw (runs-not_yet S R i u (omega (arith, ri)), runs-not_yet S R j u (omega (arith, rj))) zero-le
      before (inr a) = within a (less-or-not u (t + S.minutes i + S.rest + S.minutes j + S.rest))

module _ (S : Sheet) (w : Lasting S) (n : Narrow S) (u : List ℕ) (i : ℕ) (q : List ℕ) (f : Follows S no_jobs (u ++ (i ∷ q))) (j : ℕ)
    (r : ready S (part_of S u).placed j ≡ true) (new : (part_of S (u ++ (i ∷ q))).placed j ≡ false) (need : S.need i ≡ S.need j)
    (waits : (k : ℕ) → k < S.jobs → S.before i k ≡ true → S.before j k ≡ true)
    (soon : start_of S (part_of S u) j ≤ (part_of S (u ++ (i ∷ q))).plan.start i)
    (then : start_of S (part_of S (u ++ (i ∷ q))) j ≡ (part_of S (u ++ (i ∷ q))).plan.start i + S.minutes i + S.rest) where
  abbrev P : PartPlan
  P = part_of S u

  abbrev A : PartPlan
  A = part_of S (u ++ (i ∷ q))

  abbrev t : ℕ
  t = A.plan.start i

  Ri : Ready S P.placed i
  Ri = ready_says S P.placed i (branch_follows S n u i q f).1.0

  Rj : Ready S P.placed j
  Rj = ready_says S P.placed j r

  i-placed : A.placed i ≡ true
  i-placed = branch-placed S n u i q f

  apart : i ≢ j
  apart e = clash (A.placed i) i-placed (ap A.placed e ∙ new)

  module _ (Q : Plan) (c : Completion S (u ++ (i ∷ q)) j Q) where
    abbrev R : Plan
    R = exchanged Q i (t + S.minutes j + S.rest) j t

    q_i : Q.start i ≡ t
    q_i = c.kept i Ri.job i-placed

    q_j : Q.start j ≡ t + S.minutes i + S.rest
    q_j = c.next ∙ then

    at_i : R.start i ≡ t + S.minutes j + S.rest
    at_i = start_one Q i (t + S.minutes j + S.rest) j t apart

    at_j : R.start j ≡ t
    at_j = start_two Q i (t + S.minutes j + S.rest) j t apart

    other : (k : ℕ) → k ≢ i → k ≢ j → R.start k ≡ Q.start k
    other = start_other Q i (t + S.minutes j + S.rest) j t apart

    -- a job of u is neither
    kept : (k : ℕ) → k < S.jobs → P.placed k ≡ true → R.start k ≡ P.plan.start k
    kept k l p =
        let h = branch_kept S n u i q f k p in
        other k (λ y. clash (P.placed k) p (rw y Ri.new)) (λ y. clash (P.placed k) p (rw y Rj.new)) ∙ c.kept k l h.0 ∙ h.1

    -- the earlier jobs of both are jobs of u
    before_i : (a : ℕ) → a < S.jobs → S.before a i ≡ true → finish S R a ≤ t
    before_i a l e =
        let k = kept a l (Ri.after a l e) in
        omega (arith, k, branch_start S n u i q f, (start_may S P i (n i Ri.job)).after a l e)

    before_j : (a : ℕ) → a < S.jobs → S.before a j ≡ true → finish S R a ≤ t
    before_j a l e =
        let k = kept a l (Rj.after a l e) in
        omega (arith, k, soon, (start_may S P j (n j Rj.job)).after a l e)

    timed : Timed S R
    timed =
        exchange_timed Q i (t + S.minutes j + S.rest) j t apart S c.timed Ri.job Rj.job need
        (turned_round S Q R i j t q_i q_j at_j at_i (S.need i)) (λ a l e. omega (arith, before_i a l e)) before_j
        (λ b l e. omega (arith, q_j, c.timed.after j b Rj.job l (waits b l e)))
        (λ b l e. omega (arith, q_j, c.timed.after j b Rj.job l e)) (omega (arith, q_i, c.timed.arrived i Ri.job))
        (omega (arith, soon, (start_may S P j (n j Rj.job)).arrived))

    first : (k : ℕ) → k < S.jobs → P.placed k ≡ false → R.start j ≤ R.start k
    first = of_each {C = λ k. k < S.jobs → P.placed k ≡ false → R.start j ≤ R.start k} i j (λ l p. omega (arith, at_i, at_j))
        (λ l p. le_refl _) (λ k x y l p. omega (arith, at_j, other k x y, from k l p (true-or-false (A.placed k))))
      where
        from : (k : ℕ) → k < S.jobs → P.placed k ≡ false → (A.placed k ≡ true) ⊎ (A.placed k ≡ false) → t ≤ Q.start k
        from k l p (inl z) = omega (arith, c.kept k l z, branch-behind S n u i q f k p z)
        from k l p (inr z) = omega (arith, c.first k l z, q_j)

    next : StartsNext S w n u (branch_follows S n u i q f).0 j r R
    next = record {
      timed = timed;
      kept = kept;
      reached = omega (arith, at_j, soon);
      first = first;
    }

    ends : plan_end S R ≤ plan_end S Q
    ends =
        exchange_ends Q i (t + S.minutes j + S.rest) j t apart S c.timed Ri.job Rj.job
        (omega (arith, q_j, le-largest S.jobs (finish S Q) j Rj.job))
        (omega (arith, q_j, le-largest S.jobs (finish S Q) j Rj.job))

  pub swap_cut : (e : ℕ) → CannotBeat S e (u ++ (j ∷ [])) → CannotBeat S e ((u ++ (i ∷ q)) ++ (j ∷ []))
  swap_cut e cut =
      by_plans S n (u ++ (i ∷ q)) j e (λ Q c.
      le_trans (settled_next S w n u (branch_follows S n u i q f).0 j r e cut (R Q c) (next Q c)) (ends Q c))
