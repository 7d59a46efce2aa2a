-- A settled part-plan: no order that begins with it ends before e. Then no plan ends before e either that starts its jobs first: so a
-- completion of another part-plan is cut wherever it can be changed into such a plan that ends no later.
use mathlib.Core.Path.{◌≡◌, refl, sym, ap, ◌∙◌, subst}
use mathlib.Core.Bool.{Bool, true, false}
use mathlib.Core.List.{List, [], ◌∷◌, ◌++◌, append_assoc}
use Prim.Native.Nat.{ℕ, ◌-◌, ◌≤◌, ◌<◌}
use native.Mathlib.Omega.{arith}
use lib.Dec.{eqb}
use borrow.Author.Tests.{eqb-true}
use Rattle.counting.specs.Counting.{count}
use Rattle.counting.proofs.Tests.{or_right}
use Rattle.counting.proofs.Ranges.{le-largest, largest-le}
use Rattle.counting.proofs.Counts.{count-le}
use Rattle.schedule.specs.Plan.{Sheet, Plan, finish, plan_end, Narrow, Lasting}
use Rattle.schedule.specs.ListPlan.{Order, PartPlan, no_jobs, ready, Follows, start_of, place, empty_part, place_all, part_of, list_plan}
use Rattle.schedule.specs.TieRule.{end_of}
use Rattle.schedule.specs.PartPlans.{Sound, Completes}
use Rattle.schedule.specs.Beginnings.{CannotBeat}
use Rattle.schedule.proofs.Starts.{ready_says, start_may}
use Rattle.schedule.proofs.Sound.{part_sound, completes_all, list_plan_valid}
use Rattle.schedule.proofs.Timed.{Timed, KeepsUp, timed_narrow, keep_up}
use Rattle.schedule.proofs.Earliest.{valid_timed}
use Rattle.schedule.proofs.Along.{place_all-append, place_all_keeps, next_start-kept}
use Rattle.schedule.proofs.Prefixes.{order_split, order_join, end_split, part_count, part_more, follows_more}
use Rattle.schedule.proofs.Branch.{next_first}

-- A plan that has the jobs of v no earlier than v's part-plan, and the others behind them, ends no earlier than v's completions.
pub settled : (S : Sheet) → Lasting S → (e : ℕ) (v : List ℕ) → Follows S no_jobs v → CannotBeat S e v
    → (Q : Plan) → Timed S Q → KeepsUp S Q (part_of S v) → e ≤ plan_end S Q
unfolding CannotBeat
settled S w e v f cut Q q h =
    let A = part_of S v in
    let c = part_count S v f in
    let r = keep_up S Q q w (S.jobs - count S.jobs A.placed) A (part_sound S (timed_narrow S Q q w) v f) h (omega (
      arith,
      count-le
          S.jobs A.placed,
    )) in
    let d : Completes S A r.0 = (r.2, omega (arith, r.1, count-le S.jobs A.placed)) in
    let last = largest-le S.jobs (finish S (place_all S A r.0).plan) (plan_end S Q)
    (λ i l. omega (arith, r.3 i l, le-largest S.jobs (finish S Q) i l)) in
    omega (arith, cut (v ++ r.0) (order_join S v r.0 f d) (r.0, refl), end_split S v r.0)

-- ---- a settled next job

module _ (S : Sheet) (w : Lasting S) (n : Narrow S) (u : List ℕ) (f : Follows S no_jobs u) (x : ℕ) (r : ready S
    (part_of S u).placed x ≡ true) where
  abbrev P : PartPlan
  P = part_of S u

  -- Q keeps the jobs of u where they are, and starts x before the others
  pub record StartsNext (Q : Plan) : Type 0 where
    pub timed : Timed S Q
    pub kept : (k : ℕ) → k < S.jobs → P.placed k ≡ true → Q.start k ≡ P.plan.start k
    pub reached : start_of S P x ≤ Q.start x
    pub first : (k : ℕ) → k < S.jobs → P.placed k ≡ false → Q.start x ≤ Q.start k

  -- The one law of settled next jobs: where u and then x cannot beat e, no such plan ends before e.
  pub settled_next : (e : ℕ) → CannotBeat S e (u ++ (x ∷ [])) → (Q : Plan) → StartsNext Q → e ≤ plan_end S Q
  settled_next e cut Q h =
      settled S w e (u ++ (x ∷ [])) (follows_more S u x f r) cut Q h.timed (subst (KeepsUp S Q) (sym (part_more S u x)) keeps)
    where
      sound : Sound S P
      sound = part_sound S n u f

      from : P.last ≤ start_of S P x
      from = (start_may S P x (n x (ready_says S P.placed x r).job)).later

      starts : (i : ℕ) → i < S.jobs → (b : Bool) → eqb i x ≡ b → (place S P x (start_of S P x)).placed i ≡ true
          → (place S P x (start_of S P x)).plan.start i ≤ Q.start i
      starts i l true q p = rw (q, eqb-true i x q) h.reached
      starts i l false q p = let z : P.placed i ≡ true = rw q at p in rw q (omega (arith, h.kept i l z))

      sorted : (i k : ℕ) → i < S.jobs → k < S.jobs → (b : Bool) → eqb i x ≡ b → (place S P x (start_of S P x)).placed i ≡ true
          → P.placed k ≡ false → Q.start i ≤ Q.start k
      sorted i k l m true q p z = rw (eqb-true i x q) (h.first k m z)
      sorted i k l m false q p z =
          let y : P.placed i ≡ true = rw q at p in
          omega (arith, h.kept i l y, sound.early i l y, from, h.reached, h.first k m z)

      keeps : KeepsUp S Q (place S P x (start_of S P x))
      keeps = record {
        starts = λ i l. starts i l (eqb i x) refl;
        sorted = λ i k l m p z. sorted i k l m (eqb i x) refl p (or_right (eqb k x) _ z);
        last = λ k m z. omega (arith, h.reached, h.first k m (or_right (eqb k x) _ z));
      }

-- ---- completions

-- Q is the list plan of an order that begins with v and then j
pub record Completion (S : Sheet) (v : List ℕ) (j : ℕ) (Q : Plan) : Type 0 where
  pub timed : Timed S Q
  pub kept : (k : ℕ) → k < S.jobs → (part_of S v).placed k ≡ true → Q.start k ≡ (part_of S v).plan.start k
  pub next : Q.start j ≡ start_of S (part_of S v) j
  pub first : (k : ℕ) → k < S.jobs → (part_of S v).placed k ≡ false → Q.start j ≤ Q.start k

-- What lets no completion end before e cuts v and then j.
pub by_plans : (S : Sheet) → Narrow S → (v : List ℕ) (j e : ℕ) → ((Q : Plan) → Completion S v j Q → e ≤ plan_end S Q)
    → CannotBeat S e (v ++ (j ∷ []))
unfolding CannotBeat
by_plans S n v j e h o d (p, q) =
    let A = part_of S v in
    let g = q ∙ append_assoc v (j ∷ []) p in
    let ord : Order S (v ++ (j ∷ p)) = subst (λ (x : List ℕ). Order S x) g d in
    let c = (order_split S v (j ∷ p) ord).1 in
    let Q = (place_all S A (j ∷ p)).plan in
    let same : list_plan S (v ++ (j ∷ p)) ≡ Q = ap (λ (P : PartPlan). P.plan) (place_all-append S empty_part v (j ∷ p)) in
    let k = next_start-kept S A j p c.0 in
    let is : Completion S v j Q = record {
      timed = subst (λ (X : Plan). Timed S X) same (valid_timed S _ (list_plan_valid S n (v ++ (j ∷ p)) ord));
      kept = λ i l z. (place_all_keeps S A (j ∷ p) c.0 i z).start;
      next = k;
      first = λ i l z. subst (λ (t : ℕ). t ≤ Q.start i) (sym k) (next_first S n A j p c.0 i z (completes_all S A (j ∷ p) c i l));
    } in
    omega (arith, ap (end_of S) g, end_split S v (j ∷ p), h Q is)
