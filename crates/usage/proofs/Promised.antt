-- What is promised of the use of the cabinet: the first refusal of 1 to 9, 19 and 23, and figures that are exact of the plan on planning's card.
use mathlib.Core.Path.{◌≡◌, refl, sym, ap, subst, ◌∙◌}
use mathlib.Core.Logic.{◌↔◌}
use mathlib.Core.List.{List}
use mathlib.Core.Option.{Option, none, some}
use Prim.Native.Nat.{ℕ, ◌*◌, ◌<◌}
use native.Mathlib.Nat.{pos_of_ne-zero}
use lib.ListN.{length}
use borrow.Author.Tests.{eqb-false}
use Rattle.checking.specs.Checking.{FirstFails, NoneFails}
use Rattle.checking.proofs.Order.{all_passed, both_passed, refused_exactly, answered_exactly}
use Rattle.schedule.specs.Plan.{plan_end}
use Rattle.schedule.specs.ListPlan.{list_plan}
use Rattle.schedule.specs.TieRule.{best_order}
use Rattle.schedule.specs.Ends.{EarliestEnd}
use Rattle.schedule.proofs.Theorems.{best_exists}
use Rattle.planable.specs.Planable.{sheet_in, planable_checks}
use Rattle.planable.proofs.Circles.{ordered_when}
use Rattle.planable.proofs.Tables.{lasting_read, some_read}
use Rattle.planable.proofs.Planable.{number_of_answer, passes}
use Rattle.planner.specs.Planned.{our_plan}
use Rattle.planner.proofs.Planning.{front_passes, plan-answered}
use Rattle.earliest.proofs.Ends.{earliest_one, best_earliest_end, earliest_end_is}
use Rattle.occupancy.specs.declared.Usage.{Usage}
use Rattle.occupancy.specs.Occupancy.{work_in, share_of, usage_of, UsedFor}
use Rattle.usage.specs.Usage.{no_usage, job_checks, use_checks, use_refusal, usage, UseAnswered}
use Rattle.occupancy.proofs.Shares.{whole-some, used_for, usage_is}
use Rattle.usage.proofs.Answers.{usage_of_end}

-- The number is k exactly when check k fails and no earlier one of 1 to 9, 19 and 23 does.
pub use-refused : (s : List ℕ) (k : ℕ) → 0 < k → (use_refusal s ≡ k) ↔ FirstFails (use_checks s) k
unfolding use_refusal
use-refused s k h = refused_exactly (use_checks s) k h

-- And 0 exactly when none fails.
pub use_passed : (s : List ℕ) → (use_refusal s ≡ 0) ↔ NoneFails (use_checks s)
unfolding use_refusal
use_passed s = answered_exactly (use_checks s) refl

-- the answer has that number
pub use_number : (s : List ℕ) → (usage s).refusal ≡ use_refusal s
unfolding usage
use_number s = number_of_answer (λ (u : Usage). u.refusal) (use_refusal s) _ _ (found (best_order (sheet_in s))) refl
  where
    found : (o : Option (List ℕ))
        → (elim o as (λ x. Usage) [ none ↦ no_usage 0 | some p ↦ usage_of (sheet_in s) (list_plan (sheet_in s) p) ]).refusal ≡ 0
    found none = refl
    found (some p) = refl

-- 23 passes where there is a job
some-job : (s : List ℕ) → use_refusal s ≡ 0 → 0 < (sheet_in s).jobs
unfolding use_refusal
some-job s e =
    let p = both_passed (planable_checks s) (job_checks (sheet_in s)) (all_passed (use_checks s) refl e) in
    pos_of_ne-zero (eqb-false (sheet_in s).jobs 0 p.1.0)

-- of the plan on whatever card planning writes
pub use-answered : UseAnswered
use-answered s card e written =
    let S = sheet_in s in
    let P = our_plan s card in
    let passed = front_passes s (length card) written in
    let p = passes s passed in
    let a = (plan-answered s card written).1 in
    let lasting = lasting_read s p.reads in
    let b = best_exists S ((ordered_when S).0 p.ordered) in
    let ours : EarliestEnd S (plan_end S P) = record { some = (P, a.valid, refl); least = a.earliest } in
    let end = earliest_end_is S b.0 b.1 ∙ earliest_one (best_earliest_end S p.narrow lasting b.0 b.2) ours in
    let same : usage s ≡ usage_of S P =
    usage_of_end s passed e ∙ ap (λ (t : ℕ). share_of (work_in S) (S.modules * t)) end ∙ sym (usage_is S P a.valid) in (
      use_number s ∙ e,
      subst (UsedFor S P) (sym same) (used_for S P a.valid (whole-some S P lasting (some-job s e) (some_read s p.reads))),
    )
