-- A next job that was settled earlier on: where no job has started since before the minute at which it would start, it comes to the
-- same as having tried it there.
use mathlib.Core.Path.{◌≡◌, ◌∙◌}
use mathlib.Core.Logic.{◌⊎◌, inl, inr}
use mathlib.Core.Bool.{true, false}
use mathlib.Core.List.{List, [], ◌∷◌, ◌++◌}
use Prim.Native.Nat.{ℕ, ◌≤◌, ◌<◌}
use native.Mathlib.Omega.{arith}
use Rattle.counting.proofs.Tests.{true-or-false}
use Rattle.schedule.specs.Plan.{Sheet, Plan, Narrow, Lasting}
use Rattle.schedule.specs.ListPlan.{PartPlan, no_jobs, ready, Follows, start_of, part_of}
use Rattle.schedule.specs.Beginnings.{CannotBeat}
use Rattle.schedule.proofs.Branch.{branch_follows, branch_kept, branch-behind}
use Rattle.schedule.proofs.Settled.{StartsNext, settled_next, Completion, by_plans}

module _ (S : Sheet) (w : Lasting S) (n : Narrow S) (u : List ℕ) (i : ℕ) (q : List ℕ) (f : Follows S no_jobs (u ++ (i ∷ q))) (j : ℕ)
    (r : ready S (part_of S u).placed j ≡ true) where
  abbrev A : PartPlan
  A = part_of S (u ++ (i ∷ q))

  -- j would start with i, which was chosen when j was settled
  pub same-minute_cut : (e : ℕ) → start_of S (part_of S u) j ≤ A.plan.start i → start_of S A j ≡ A.plan.start i
      → CannotBeat S e (u ++ (j ∷ [])) → CannotBeat S e ((u ++ (i ∷ q)) ++ (j ∷ []))
  same-minute_cut e soon same cut =
      by_plans S n (u ++ (i ∷ q)) j e (λ Q c. settled_next S w n u (branch_follows S n u i q f).0 j r e cut Q (next Q c))
    where
      first : (Q : Plan) → Completion S (u ++ (i ∷ q)) j Q → (k : ℕ) → k < S.jobs → (part_of S u).placed k ≡ false
          → (A.placed k ≡ true) ⊎ (A.placed k ≡ false) → Q.start j ≤ Q.start k
      first Q c k l p (inl a) = omega (arith, c.next, same, branch-behind S n u i q f k p a, c.kept k l a)
      first Q c k l p (inr a) = c.first k l a

      next : (Q : Plan) → Completion S (u ++ (i ∷ q)) j Q → StartsNext S w n u (branch_follows S n u i q f).0 j r Q
      next Q c = record {
        timed = c.timed;
        kept = λ k l p. let h = branch_kept S n u i q f k p in c.kept k l h.0 ∙ h.1;
        reached = omega (arith, soon, same, c.next);
        first = λ k l p. first Q c k l p (true-or-false (A.placed k));
      }
