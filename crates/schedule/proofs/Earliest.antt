-- Every valid plan, however it was made, is matched by a list plan that starts no job later: so the best list plan ends no later.
use mathlib.Core.Path.{◌≡◌, refl, sym, ap, ◌∙◌}
use mathlib.Core.Logic.{⊎_elim}
use mathlib.Core.Bool.{Bool, true, false, ◌&&◌}
use mathlib.Core.List.{List}
use Prim.Native.Nat.{ℕ, ◌+◌, ◌≤◌, ◌<◌, zero-le}
use native.Mathlib.Omega.{arith}
use lib.Dec.{leb, eqb}
use borrow.Author.Tests.{ltb-true, leb-true, eqb-true, eqb-false}
use Rattle.counting.specs.Counting.{only, sum, count}
use Rattle.counting.proofs.Tests.{clash, and_left, and_right}
use Rattle.counting.proofs.Sums.{sum-le, sum_same, sum_swap, sum_const}
use Rattle.counting.proofs.Ranges.{le-largest, largest-le}
use Rattle.counting.proofs.Counts.{count-le, count_one, count_none, only-count}
use Rattle.schedule.specs.Plan.{Sheet, Plan, Valid, finish, plan_end, Narrow, Lasting}
use Rattle.schedule.specs.ListPlan.{Order, no_jobs, empty_part, list_plan}
use Rattle.schedule.specs.TieRule.{end_of}
use Rattle.schedule.proofs.Sound.{empty_sound}
use Rattle.schedule.proofs.Timed.{runs, load, Timed, KeepsUp, keep_up}

pub valid_narrow : (S : Sheet) (P : Plan) → Valid S P → Narrow S
valid_narrow S P v j l = omega (arith, v.enough j l, count-le S.modules (P.uses j))

-- ---- the load of a plan

-- at no minute do the running jobs need more modules than there are
pub load-le : (S : Sheet) (P : Plan) → Valid S P → (t : ℕ) → load S P t ≤ S.modules
load-le S P v t =
    let n = S.jobs in
    let N = S.modules in
    let swap : sum n (λ i. only (runs S P t i) (S.need i)) ≡ sum N (λ m. count n (λ i. runs S P t i && P.uses i m)) =
    sum_same n _ _ (λ i l. ap (λ x. only (runs S P t i) x) (sym (v.enough i l)) ∙ only-count (runs S P t i) N (P.uses i))
    ∙ sum_swap n N (λ i m. only (runs S P t i && P.uses i m) 1) in
    let each : sum N (λ m. count n (λ i. runs S P t i && P.uses i m)) ≤ sum N (λ m. 1) =
    sum-le N _ _ (λ m l. count_one n (λ i. runs S P t i && P.uses i m) (λ i k p q a b. one m i k p q a b (eqb i k) refl)) in
    omega (arith, sum_const N 1)
  where
    one : (m i k : ℕ) → i < S.jobs → k < S.jobs → (runs S P t i && P.uses i m) ≡ true → (runs S P t k && P.uses k m) ≡ true
        → (b : Bool) → eqb i k ≡ b → i ≡ k
    one m i k p q a b true e = eqb-true i k e
    one m i k p q a b false e =
        let ra = and_left (runs S P t i) _ a in
        let rb = and_left (runs S P t k) _ b in
        let a1 = leb-true (P.start i) t (and_left (leb (P.start i) t) _ ra) in
        let a2 = ltb-true t (finish S P i + S.rest) (and_right (leb (P.start i) t) _ ra) in
        let b1 = leb-true (P.start k) t (and_left (leb (P.start k) t) _ rb) in
        let b2 = ltb-true t (finish S P k + S.rest) (and_right (leb (P.start k) t) _ rb) in
        ⊎_elim (λ x. absurd (omega arith)) (λ x. absurd (omega arith))
        (v.apart i k m p q (eqb-false i k e) (and_right (runs S P t i) _ a) (and_right (runs S P t k) _ b))

pub valid_timed : (S : Sheet) (P : Plan) → Valid S P → Timed S P
valid_timed S P v = record { room = load-le S P v; after = v.after; arrived = v.arrived }

-- ---- from the first minute on

module _ (S : Sheet) (Q : Plan) (v : Valid S Q) (w : Lasting S) where
  empty_keeps_up : KeepsUp S Q empty_part
  empty_keeps_up = record {
    starts = λ i l e. clash false e refl;
    sorted = λ i k l m e q. clash false e refl;
    last = λ k l e. zero-le;
  }

  -- Some order's list plan starts no job later than Q,
  pub matched : (o : List ℕ) × Order S o × ((j : ℕ) → j < S.jobs → (list_plan S o).start j ≤ Q.start j)
  matched =
      let r = keep_up S Q (valid_timed S Q v) w S.jobs empty_part (empty_sound S) empty_keeps_up (omega (
        arith,
        count_none
            S.jobs no_jobs (λ i l. refl),
      )) in
      (r.0, record { all = r.1; follows = r.2 }, r.3)

  -- and so ends no later.
  pub matched_end : (o : List ℕ) × Order S o × (end_of S o ≤ plan_end S Q)
  matched_end =
      let r = matched in
      (r.0, r.1, largest-le S.jobs _ _ (λ i l. omega (arith, r.2 i l, le-largest S.jobs (finish S Q) i l)))
