-- A next job that would start when all others have ended: where it was settled at a minute at which those before had all ended too, and
-- no job that is left waits for one of those in between, it and what comes behind it may as well come before them.
use mathlib.Core.Path.{◌≡◌, refl, ◌∙◌}
use mathlib.Core.Logic.{◌⊎◌, inl, inr}
use mathlib.Core.Bool.{true, false, cond}
use mathlib.Core.List.{List, [], ◌∷◌, ◌++◌}
use Prim.Native.Nat.{ℕ, ◌+◌, ◌-◌, ◌≤◌, ◌<◌}
use native.Mathlib.Omega.{arith}
use native.Mathlib.Nat.{le_trans}
use Rattle.counting.specs.Counting.{only}
use Rattle.counting.proofs.Tests.{true-or-false, clash, less-or-not, only_mono}
use Rattle.counting.proofs.Sums.{sum-le}
use Rattle.counting.proofs.Ranges.{le-largest, largest-le}
use Rattle.schedule.specs.Plan.{Sheet, Plan, finish, plan_end, Narrow, Lasting}
use Rattle.schedule.specs.ListPlan.{PartPlan, no_jobs, ready, Follows, start_of, part_of}
use Rattle.schedule.specs.Beginnings.{CannotBeat}
use Rattle.schedule.specs.PartPlans.{Block}
use Rattle.schedule.proofs.Starts.{ready_says}
use Rattle.schedule.proofs.Timed.{runs, runs_on, runs_from, runs_to, load, Timed}
use Rattle.schedule.proofs.Branch.{branch_follows, branch_kept, branch-placed, branch-behind}
use Rattle.schedule.proofs.Settled.{StartsNext, settled_next, Completion, by_plans}

module _ (S : Sheet) (w : Lasting S) (n : Narrow S) (u : List ℕ) (i : ℕ) (q : List ℕ) (f : Follows S no_jobs (u ++ (i ∷ q))) (j : ℕ)
    (r : ready S (part_of S u).placed j ≡ true) where
  abbrev P : PartPlan
  P = part_of S u

  abbrev A : PartPlan
  A = part_of S (u ++ (i ∷ q))

  -- the minute at which the block begins, and the one at which j would start
  abbrev b : ℕ
  b = A.plan.start i

  abbrev s : ℕ
  s = start_of S A j

  module _ (block : Block S u i (u ++ (i ∷ q)) j) (Q : Plan) (c : Completion S (u ++ (i ∷ q)) j Q) where
    abbrev T : ℕ
    T = plan_end S Q

    -- the block moves up by so many minutes, and the jobs that are left move down
    abbrev up : ℕ
    up = T + S.rest - s

    abbrev down : ℕ
    down = s - b

    abbrev moved : Plan
    moved = record {
      start = λ k. cond (P.placed k) (Q.start k) (cond (A.placed k) (Q.start k + up) (Q.start k - down));
      uses = Q.uses;
    }

    -- ---- the three kinds of jobs

    record Stays (k : ℕ) : Type 0 where
      pub placed : P.placed k ≡ true
      pub start : moved.start k ≡ Q.start k
      pub ended : Q.start k + S.minutes k + S.rest ≤ b

    record Later (k : ℕ) : Type 0 where
      pub new : P.placed k ≡ false
      pub placed : A.placed k ≡ true
      pub start : moved.start k ≡ Q.start k + up
      pub from : b ≤ Q.start k
      pub ended : Q.start k + S.minutes k + S.rest ≤ s

    record Earlier (k : ℕ) : Type 0 where
      pub left : A.placed k ≡ false
      pub start : moved.start k + down ≡ Q.start k
      pub from : s ≤ Q.start k
      pub ends : Q.start k + S.minutes k ≤ T

    begins : b + S.minutes i + S.rest ≤ s
    begins = block.ended i block.within (branch-placed S n u i q f)

    ends_by : (k : ℕ) → k < S.jobs → Q.start k + S.minutes k ≤ T
    ends_by = le-largest S.jobs (finish S Q)

    lasts : s < T
    lasts = let l = (ready_says S P.placed j r).job in omega (arith, ends_by j l, c.next, w j l)

    stays : (k : ℕ) → k < S.jobs → P.placed k ≡ true → Stays k
    stays k l p =
        let a = (branch_kept S n u i q f k p).0 in
        record { placed = p; start = rw p refl; ended = omega (arith, block.before k l p, c.kept k l a) }

    earlier : (k : ℕ) → k < S.jobs → P.placed k ≡ false → A.placed k ≡ false → Earlier k
    earlier k l p a =
        let from : s ≤ Q.start k = omega (arith, c.next, c.first k l a) in
        record { left = a; start = rw (p, a) (omega (arith, from, begins)); from = from; ends = ends_by k l }

    kind : (k : ℕ) → k < S.jobs → Stays k ⊎ (Later k ⊎ Earlier k)
    kind k l = go (true-or-false (P.placed k)) (true-or-false (A.placed k))
      where
        go : (P.placed k ≡ true) ⊎ (P.placed k ≡ false) → (A.placed k ≡ true) ⊎ (A.placed k ≡ false)
            → Stays k ⊎ (Later k ⊎ Earlier k)
        go (inl p) x = inl (stays k l p)
        go (inr p) (inl a) = inr (inl (record {
          new = p;
          placed = a;
          start = rw (p, a) refl;
          from = omega (arith, branch-behind S n u i q f k p a, c.kept k l a);
          ended = omega (arith, block.ended k l a, c.kept k l a);
        }))
        go (inr p) (inr a) = inr (inr (earlier k l p a))

    -- ---- the load

    -- what runs at minute t ran at minute t'
    by_load : (t t' : ℕ) → ((k : ℕ) → k < S.jobs → runs S moved t k ≡ true → runs S Q t' k ≡ true) → load S moved t ≤ S.modules
    by_load t t' h = le_trans (sum-le S.jobs _ (λ k. only (runs S Q t' k) (S.need k)) (λ k l. only_mono _ _ _ (h k l))) (c.timed.room t')

    room : (t : ℕ) → (t < b) ⊎ (b ≤ t) → (t < b + up) ⊎ (b + up ≤ t) → load S moved t ≤ S.modules
    room t (inl x) y = by_load t t (λ k l e. go k e (kind k l))
      where
        go : (k : ℕ) → runs S moved t k ≡ true → Stays k ⊎ (Later k ⊎ Earlier k) → runs S Q t k ≡ true
        go k e (inl h) =
            runs_on S Q k t (omega (arith, h.start, runs_from S moved k t e)) (omega (arith, h.start, runs_to S moved k t e))
        go k e (inr (inl h)) = absurd (omega (arith, h.start, h.from, runs_from S moved k t e))
        go k e (inr (inr h)) = absurd (omega (arith, h.start, h.from, begins, runs_from S moved k t e))
    room t (inr x) (inl y) = by_load t (t + down) (λ k l e. go k e (kind k l))
      where
        go : (k : ℕ) → runs S moved t k ≡ true → Stays k ⊎ (Later k ⊎ Earlier k) → runs S Q (t + down) k ≡ true
        go k e (inl h) = absurd (omega (arith, h.start, h.ended, runs_to S moved k t e))
        go k e (inr (inl h)) = absurd (omega (arith, h.start, h.from, runs_from S moved k t e))
        go k e (inr (inr h)) =
            runs_on S Q k (t + down) (omega (arith, h.start, runs_from S moved k t e)) (omega (arith, h.start, runs_to S moved k t e))
    room t (inr x) (inr y) = by_load t (t - up) (λ k l e. go k e (kind k l))
      where
        go : (k : ℕ) → runs S moved t k ≡ true → Stays k ⊎ (Later k ⊎ Earlier k) → runs S Q (t - up) k ≡ true
        go k e (inl h) = absurd (omega (arith, h.start, h.ended, runs_to S moved k t e))
        go k e (inr (inl h)) =
            runs_on S Q k (t - up) (omega (arith, h.start, runs_from S moved k t e)) (omega (arith, h.start, runs_to S moved k t e, y))
        go k e (inr (inr h)) = absurd (omega (arith, h.start, h.ends, begins, lasts, runs_to S moved k t e))

    -- ---- the rest

    after : (k x : ℕ) → k < S.jobs → x < S.jobs → S.before k x ≡ true → Stays k ⊎ (Later k ⊎ Earlier k)
        → Stays x ⊎ (Later x ⊎ Earlier x) → finish S moved k ≤ moved.start x
    after k x l m e (inl g) (inl h) = omega (arith, g.start, h.start, c.timed.after k x l m e)
    after k x l m e (inl g) (inr (inl h)) = omega (arith, g.start, h.start, c.timed.after k x l m e)
    after k x l m e (inl g) (inr (inr h)) = omega (arith, g.start, g.ended, h.start, h.from, begins)
    after k x l m e (inr (inl g)) (inl h) = absurd (omega (arith, g.from, h.ended, w k l, c.timed.after k x l m e))
    after k x l m e (inr (inl g)) (inr (inl h)) = omega (arith, g.start, h.start, c.timed.after k x l m e)
    after k x l m e (inr (inl g)) (inr (inr h)) = clash (S.before k x) e (block.unawaited k x l m g.new g.placed h.left)
    after k x l m e (inr (inr g)) (inl h) = absurd (omega (arith, g.from, h.ended, begins, w k l, c.timed.after k x l m e))
    after k x l m e (inr (inr g)) (inr (inl h)) = absurd (omega (arith, g.from, h.ended, w k l, c.timed.after k x l m e))
    after k x l m e (inr (inr g)) (inr (inr h)) = omega (arith, g.start, h.start, c.timed.after k x l m e)

    arrived : (k : ℕ) → k < S.jobs → Stays k ⊎ (Later k ⊎ Earlier k) → S.arrival k ≤ moved.start k
    arrived k l (inl h) = omega (arith, h.start, c.timed.arrived k l)
    arrived k l (inr (inl h)) = omega (arith, h.start, c.timed.arrived k l)
    arrived k l (inr (inr h)) = omega (arith, h.start, h.from, begins, block.here k l h.left)

    timed : Timed S moved
    timed = record {
      room = λ t. room t (less-or-not t b) (less-or-not t (b + up));
      after = λ k x l m e. after k x l m e (kind k l) (kind x m);
      arrived = λ k l. arrived k l (kind k l);
    }

    next : StartsNext S w n u (branch_follows S n u i q f).0 j r moved
    next = record {
      timed = timed;
      kept = λ k l p. let h = branch_kept S n u i q f k p in (stays k l p).start ∙ c.kept k l h.0 ∙ h.1;
      reached = omega (arith, first_is.start, c.next, begins, block.soon);
      first = λ k l p. first k l p (kind k l);
    }
      where
        first_is : Earlier j
        first_is = let z = ready_says S P.placed j r in earlier j z.job z.new block.new

        first : (k : ℕ) → k < S.jobs → P.placed k ≡ false → Stays k ⊎ (Later k ⊎ Earlier k) → moved.start j ≤ moved.start k
        first k l p (inl h) = clash (P.placed k) h.placed p
        first k l p (inr (inl h)) = omega (arith, first_is.start, c.next, begins, h.start, h.from)
        first k l p (inr (inr h)) = omega (arith, first_is.start, c.next, h.start, h.from)

    ends : plan_end S moved ≤ T
    ends = largest-le S.jobs (finish S moved) T (λ k l. go k l (kind k l))
      where
        go : (k : ℕ) → k < S.jobs → Stays k ⊎ (Later k ⊎ Earlier k) → finish S moved k ≤ T
        go k l (inl h) = omega (arith, h.start, ends_by k l)
        go k l (inr (inl h)) = omega (arith, h.start, h.ended, lasts)
        go k l (inr (inr h)) = omega (arith, h.start, h.ends)

  pub block_cut : Block S u i (u ++ (i ∷ q)) j → (e : ℕ) → CannotBeat S e (u ++ (j ∷ [])) → CannotBeat S e ((u ++ (i ∷ q)) ++ (j ∷ []))
  block_cut block e cut = by_plans S n (u ++ (i ∷ q)) j e (λ Q c.
      le_trans (settled_next S w n u (branch_follows S n u i q f).0 j r e cut (moved block Q c) (next block Q c)) (ends block Q c))
