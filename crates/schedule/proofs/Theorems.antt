-- What is proved of plans, in the words of the demands. Each theorem assembles what its file proves.
use mathlib.Core.Path.{◌≡◌, refl, ap, ◌∙◌, subst}
use mathlib.Core.Logic.{◌⊎◌, inl, inr, ⊎_elim, ◌↔◌}
use mathlib.Core.Bool.{true, false, ◌&&◌}
use mathlib.Core.List.{List}
use mathlib.Core.Option.{Option, none, some}
use Prim.Native.Nat.{ℕ, ◌≤◌, ◌<◌}
use native.Mathlib.Omega.{arith}
use lib.Dec.{ltb, eqb}
use borrow.Author.Tests.{ltb-true, lt-ltb, eq-eqb}
use Rattle.counting.specs.Counting.{count}
use Rattle.counting.proofs.Tests.{true-or-false, clash, and_left, and_right, and_both}
use Rattle.counting.proofs.Counts.{count_up}
use Rattle.schedule.specs.Plan.{Sheet, Plan, Valid, plan_end, over_wide, Circular, Narrow, Lasting}
use Rattle.schedule.specs.ListPlan.{Order, PartPlan, free, lowest, start_of, place, part_of, list_plan, MayStart}
use Rattle.schedule.specs.Ends.{EarliestEnd, EndsBy}
use Rattle.schedule.specs.TieRule.{end_of, Best, best_order, wide, circular, planned, plan_answer, answer_of, Planned}
use Rattle.schedule.proofs.Starts.{start-le, start_may}
use Rattle.schedule.proofs.Sound.{list_plan_valid}
use Rattle.schedule.proofs.Earliest.{matched_end}
use Rattle.schedule.proofs.Existence.{narrow_says, order-or_circular, order-not_circular, has_plan}
use Rattle.schedule.proofs.Orders.{best_found, best_order_lem}

-- ---- the list plan

-- A job's start is the least minute at which it may start (P-12), after whatever jobs are placed.
pub start_least : (S : Sheet) → over_wide S ≡ false → (w : List ℕ) (j : ℕ) → j < S.jobs
    → MayStart S (part_of S w) j (start_of S (part_of S w) j) × ((t : ℕ) → MayStart S (part_of S w) j t → start_of S (part_of S w) j ≤ t)
start_least S e w j l = (start_may S (part_of S w) j (narrow_says S e j l), start-le S (part_of S w) j)

-- And it takes the lowest-numbered modules that are free then: it has none above a free one that it leaves.
pub takes-lowest : (S : Sheet) (P : PartPlan) (j t i m : ℕ) → i < m → (place S P j t).plan.uses j m ≡ true → free S P t i ≡ true
    → (place S P j t).plan.uses j i ≡ true
takes-lowest S P j t i m l u f =
    let self : eqb j j ≡ true = eq-eqb j j refl in
    let low : lowest S.modules (free S P t) (S.need j) m ≡ true = rw self at u in
    let inside = ltb-true m S.modules (and_left (ltb m S.modules) _ (and_left (ltb m S.modules && free S P t m) _ low)) in
    let few = ltb-true (count m (free S P t)) (S.need j) (and_right (ltb m S.modules && free S P t m) _ low) in
    let fewer = count_up i m (free S P t) (omega arith) in
    rw self (and_both _ _ (and_both _ _ (lt-ltb i S.modules (omega arith)) f) (lt-ltb (count i (free S P t)) (S.need j) (omega arith)))

-- ---- the tie rule's order

-- There is one exactly when no job must end before itself, and it is the computed one.
pub best_exists : (S : Sheet) → ¬ Circular S → (o : List ℕ) × (best_order S ≡ some o) × Best S o
best_exists S h = ⊎_elim (λ t. best_found S t.0 t.1) (λ c. absurd (h c)) (order-or_circular S)

pub none_circular : (S : Sheet) → best_order S ≡ none → Circular S
none_circular S e = ⊎_elim (λ t. absurd (clashing (best_found S t.0 t.1))) (λ c. c) (order-or_circular S)
  where
    clashing : (o : List ℕ) × (best_order S ≡ some o) × Best S o → ⊥
    clashing (o, f, b) = let z : ◌≡◌ {A = ℕ} 0 1 = cc in omega arith

pub best-not_circular : (S : Sheet) (o : List ℕ) → Best S o → ¬ Circular S
best-not_circular S o b = order-not_circular S o b.order

-- Its list plan is a valid plan,
pub best_valid : (S : Sheet) → over_wide S ≡ false → (o : List ℕ) → Best S o → Valid S (list_plan S o)
best_valid S e o b = list_plan_valid S (narrow_says S e) o b.order

-- and every valid plan, whoever finds it and however, ends no earlier.
pub best_earliest : (S : Sheet) → Lasting S → (o : List ℕ) → Best S o → (Q : Plan) → Valid S Q → end_of S o ≤ plan_end S Q
best_earliest S w o b Q v =
    let d = matched_end S Q v w in
    omega (arith, d.2, b.early d.0 d.1)

-- ---- the two questions: orders answer them for all valid plans

module _ (S : Sheet) (w : Lasting S) (n : Narrow S) where
  -- The end of an order before which none ends is the earliest end.
  pub earliest_of_orders : (o : List ℕ) → Order S o → ((p : List ℕ) → Order S p → end_of S o ≤ end_of S p) → EarliestEnd S (end_of S o)
  earliest_of_orders o d least = record {
    some = (list_plan S o, list_plan_valid S n o d, refl);
    least = λ Q v. let m = matched_end S Q v w in omega (arith, m.2, least m.0 m.1);
  }

  -- An order that ends by minute t is a plan that does,
  pub order_ends_by : (o : List ℕ) → Order S o → (t : ℕ) → end_of S o ≤ t → EndsBy S t
  order_ends_by o d t l = (list_plan S o, list_plan_valid S n o d, l)

  -- and where no order does, no plan does.
  pub none_ends_by : (t : ℕ) → ((o : List ℕ) → Order S o → t < end_of S o) → ¬ EndsBy S t
  none_ends_by t h (Q, v, l) = let m = matched_end S Q v w in omega (arith, m.2, h m.0 m.1)

-- ---- the answer of a sheet

module _ (S : Sheet) where
  data Case : Type 0 where
    too_wide : over_wide S ≡ true → answer_of S ≡ wide → Case
    in_circle : over_wide S ≡ false → Circular S → answer_of S ≡ circular → Case
    has_best : (o : List ℕ) → over_wide S ≡ false → Best S o → answer_of S ≡ planned o (end_of S o) → Case

  cases : Case
  unfolding answer_of
  cases = go (true-or-false (over_wide S)) (best_order S) refl
    where
      go : (over_wide S ≡ true) ⊎ (over_wide S ≡ false) → (b : Option (List ℕ)) → best_order S ≡ b → Case
      go (inl e) b f = too_wide e (rw (e, answer_of))
      go (inr e) none f = in_circle e (none_circular S f) (rw (e, answer_of) (ap (plan_answer S) f))
      go (inr e) (some o) f = has_best o e (best_order_lem S o f) (rw (e, answer_of) (ap (plan_answer S) f))

  -- Planning refuses a sheet as over-wide exactly when some job needs more modules than there are,
  pub wide_exactly : (answer_of S ≡ wide) ↔ (over_wide S ≡ true)
  wide_exactly = (there cases, back cases)
    where
      there : Case → answer_of S ≡ wide → over_wide S ≡ true
      there (too_wide e a) h = e
      there (in_circle e c a) h = absurd (let z : ◌≡◌ {A = ℕ} 0 1 = cc in omega arith)
      there (has_best o e b a) h = absurd (let z : ◌≡◌ {A = ℕ} 0 1 = cc in omega arith)

      back : Case → over_wide S ≡ true → answer_of S ≡ wide
      back (too_wide e a) h = a
      back (in_circle e c a) h = clash (over_wide S) h e
      back (has_best o e b a) h = clash (over_wide S) h e

  -- as circular exactly when it is not over-wide and some job would have to end before itself,
  pub circular_exactly : (answer_of S ≡ circular) ↔ ((over_wide S ≡ false) × Circular S)
  circular_exactly = (there cases, back cases)
    where
      there : Case → answer_of S ≡ circular → (over_wide S ≡ false) × Circular S
      there (too_wide e a) h = absurd (let z : ◌≡◌ {A = ℕ} 0 1 = cc in omega arith)
      there (in_circle e c a) h = (e, c)
      there (has_best o e b a) h = absurd (let z : ◌≡◌ {A = ℕ} 0 1 = cc in omega arith)

      back : Case → (over_wide S ≡ false) × Circular S → answer_of S ≡ circular
      back (too_wide e a) h = clash (over_wide S) e h.0
      back (in_circle e c a) h = a
      back (has_best o e b a) h = absurd (best-not_circular S o b h.1)

  -- and as one or the other exactly when it has no valid plan.
  pub refused_exactly : Lasting S → ((answer_of S ≡ wide) ⊎ (answer_of S ≡ circular)) ↔ (¬ ((P : Plan) × Valid S P))
  refused_exactly w = (there, back cases)
    where
      there : (answer_of S ≡ wide) ⊎ (answer_of S ≡ circular) → ¬ ((P : Plan) × Valid S P)
      there (inl h) p = clash (over_wide S) (wide_exactly.0 h) ((has_plan S w).0 p).0
      there (inr h) p = ((has_plan S w).0 p).1 (circular_exactly.0 h).1

      back : Case → ¬ ((P : Plan) × Valid S P) → (answer_of S ≡ wide) ⊎ (answer_of S ≡ circular)
      back (too_wide e a) h = inl a
      back (in_circle e c a) h = inr a
      back (has_best o e b a) h = absurd (h (list_plan S o, best_valid S e o b))

  -- Otherwise it answers the tie rule's plan, which is valid, and no valid plan ends earlier.
  pub planned_says : Lasting S → (o : List ℕ) (e : ℕ) → answer_of S ≡ planned o e → Planned S o e
  planned_says w o e h = go cases
    where
      go : Case → Planned S o e
      go (too_wide f a) = absurd (let z : ◌≡◌ {A = ℕ} 0 1 = cc in omega arith)
      go (in_circle f c a) = absurd (let z : ◌≡◌ {A = ℕ} 0 1 = cc in omega arith)
      go (has_best p f b a) =
          let x : p ≡ o = cc in
          let y : e ≡ end_of S p = cc in
          let c : Best S o = subst (λ (q : List ℕ). Best S q) x b in
          let d : e ≡ end_of S o = y ∙ ap (end_of S) x in
          record { best = c; end = d; valid = best_valid S f o c; earliest = λ Q v. rw d (best_earliest S w o c Q v) }
