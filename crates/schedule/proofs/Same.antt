-- Two sheets that say the same of every job: they have the same orders, list plans and best orders.
use mathlib.Core.Path.{◌≡◌, refl, sym, ap, ap₂, ◌∙◌}
use mathlib.Core.Logic.{inl, inr, ⊎_elim}
use mathlib.Core.Bool.{Bool, not, cond, ◌&&◌}
use mathlib.Core.List.{List, [], ◌∷◌}
use Prim.Native.Nat.{ℕ, ◌+◌, ◌<◌, max}
use native.Mathlib.Omega.{arith}
use lib.Dec.{ltb, leb, eqb}
use Rattle.counting.specs.Counting.{only, largest, any, count}
use Rattle.counting.proofs.Ranges.{largest_same, any_same}
use Rattle.schedule.specs.Plan.{Sheet, Plan, Valid, Lasting, finish, plan_end, over_wide, MustPrecede, directly, through, Circular}
use Rattle.schedule.specs.ListPlan.{Order, no_jobs, placing, Follows, PartPlan, free, not_before, first_minute, all_free_from, start_of, lowest, place, empty_part, place_all, list_plan}
use Rattle.schedule.specs.TieRule.{Best, end_of}
use Rattle.schedule.proofs.Starts.{Ready, ready_says, ready_when}

-- the two sheets say the same of every job
pub record SameJobs (S T : Sheet) : Type 0 where
  pub jobs : S.jobs ≡ T.jobs
  pub modules : S.modules ≡ T.modules
  pub rest : S.rest ≡ T.rest
  pub need : (j : ℕ) → j < S.jobs → S.need j ≡ T.need j
  pub minutes : (j : ℕ) → j < S.jobs → S.minutes j ≡ T.minutes j
  pub before : (i j : ℕ) → i < S.jobs → j < S.jobs → S.before i j ≡ T.before i j
  pub arrival : (j : ℕ) → j < S.jobs → S.arrival j ≡ T.arrival j

pub same_back : {S T : Sheet} → SameJobs S T → SameJobs T S
same_back {S} {T} h = record {
  jobs = sym h.jobs;
  modules = sym h.modules;
  rest = sym h.rest;
  need = λ j l. sym (h.need j (omega (arith, h.jobs)));
  minutes = λ j l. sym (h.minutes j (omega (arith, h.jobs)));
  before = λ i j k l. sym (h.before i j (omega (arith, h.jobs)) (omega (arith, h.jobs)));
  arrival = λ j l. sym (h.arrival j (omega (arith, h.jobs)));
}

-- ---- orders and circles

follow_same : {S T : Sheet} → SameJobs S T → (o : List ℕ) (d : ℕ → Bool) → Follows S d o → Follows T d o
follow_same h [] d f = tt
follow_same {S} {T} h (j ∷ o) d f = (ready_when T d j carried, follow_same h o (placing d j) f.1)
  where
    r : Ready S d j
    r = ready_says S d j f.0

    carried : Ready T d j
    carried = record {
      job = omega (arith, h.jobs, r.job);
      new = r.new;
      after = λ i l b. let k : i < S.jobs = omega (arith, h.jobs) in r.after i k (h.before i j k r.job ∙ b);
    }

pub order_same : {S T : Sheet} → SameJobs S T → (o : List ℕ) → Order S o → Order T o
order_same h o w = record { all = w.all ∙ h.jobs; follows = follow_same h o no_jobs w.follows }

-- the two sheets have the same jobs and marks, whatever their cabinets
pub record SameMarks (S T : Sheet) : Type 0 where
  pub jobs : S.jobs ≡ T.jobs
  pub before : (i j : ℕ) → i < S.jobs → j < S.jobs → S.before i j ≡ T.before i j

pub marks_of : {S T : Sheet} → SameJobs S T → SameMarks S T
marks_of h = record { jobs = h.jobs; before = h.before }

pub marks_back : {S T : Sheet} → SameMarks S T → SameMarks T S
marks_back h = record {
  jobs = sym h.jobs;
  before = λ i j k l. sym (h.before i j (omega (arith, h.jobs)) (omega (arith, h.jobs)));
}

precede_same : {S T : Sheet} → SameMarks S T → {i j : ℕ} → MustPrecede S i j → MustPrecede T i j
precede_same h (directly {i} {j} a b e) =
    directly {i = i} {j = j} (omega (arith, h.jobs)) (omega (arith, h.jobs)) (sym (h.before i j a b) ∙ e)
precede_same h (through {i} {k} {j} a b e m) =
    through {i = i} {k = k} (omega (arith, h.jobs)) (omega (arith, h.jobs)) (sym (h.before i k a b) ∙ e) (precede_same h m)

pub circular_same : {S T : Sheet} → SameMarks S T → Circular S → Circular T
circular_same h c = (c.0, precede_same h c.1)

pub wide_same : {S T : Sheet} → SameJobs S T → over_wide S ≡ over_wide T
unfolding over_wide
wide_same {S} {T} h =
    any_same S.jobs (λ j. ltb S.modules (S.need j)) (λ j. ltb T.modules (T.need j))
    (λ j l. ap₂ ltb h.modules (h.need j l))
    ∙ ap (λ (n : ℕ). any n (λ j. ltb T.modules (T.need j))) h.jobs

-- ---- valid plans

pub lasting_same : {S T : Sheet} → SameJobs S T → Lasting S → Lasting T
lasting_same {S} h w j l = let k : j < S.jobs = omega (arith, h.jobs) in omega (arith, w j k, h.minutes j k)

module _ {S T : Sheet} (h : SameJobs S T) (P : Plan) where
  ends_same : (j : ℕ) → j < S.jobs → finish S P j ≡ finish T P j
  ends_same j l = ap (λ (x : ℕ). P.start j + x) (h.minutes j l)

  pub end_of_same : plan_end S P ≡ plan_end T P
  end_of_same =
      largest_same S.jobs (finish S P) (finish T P) ends_same ∙ ap (λ (n : ℕ). largest n (finish T P)) h.jobs

  pub valid_same : Valid S P → Valid T P
  valid_same v = record {
    inside = λ j m l u. omega (arith, v.inside j m (low l) u, h.modules);
    enough = λ j l. ap (λ (n : ℕ). count n (P.uses j)) (sym h.modules) ∙ v.enough j (low l) ∙ h.need j (low l);
    apart = λ i j m k l n u w. ⊎_elim
        (λ x. inl (omega (arith, x, ends_same i (low k), h.rest)))
        (λ x. inr (omega (arith, x, ends_same j (low l), h.rest)))
        (v.apart i j m (low k) (low l) n u w);
    after = λ i j k l b. omega (arith, v.after i j (low k) (low l) (h.before i j (low k) (low l) ∙ b), ends_same i (low k));
    arrived = λ j l. omega (arith, v.arrived j (low l), h.arrival j (low l));
  }
    where
      low : {j : ℕ} → j < T.jobs → j < S.jobs
      low l = omega (arith, l, h.jobs)

-- ---- list plans

module _ {S T : Sheet} (h : SameJobs S T) where
  free_same : (P : PartPlan) → free S P ≡ free T P
  free_same P = λ i t m. each t m i
    where
      each : (t m : ℕ) → free S P t m ≡ free T P t m
      each t m =
          ap not
          (any_same S.jobs _ (λ i. (P.placed i && ltb t (finish T P.plan i + T.rest)) && P.plan.uses i m)
          (λ i l. ap₂ (λ (x y : ℕ). (P.placed i && ltb t (P.plan.start i + x + y)) && P.plan.uses i m) (h.minutes i l) h.rest)
          ∙ ap (λ (n : ℕ). any n (λ i. (P.placed i && ltb t (finish T P.plan i + T.rest)) && P.plan.uses i m)) h.jobs)

  all-free_same : (P : PartPlan) → all_free_from S P ≡ all_free_from T P
  all-free_same P =
      largest_same S.jobs _ (λ i. only (P.placed i) (finish T P.plan i + T.rest))
      (λ i l. ap₂ (λ (x y : ℕ). only (P.placed i) (P.plan.start i + x + y)) (h.minutes i l) h.rest)
      ∙ ap (λ (n : ℕ). largest n (λ i. only (P.placed i) (finish T P.plan i + T.rest))) h.jobs

  not_before_same : (P : PartPlan) (j : ℕ) → j < S.jobs → not_before S P j ≡ not_before T P j
  not_before_same P j l =
      ap₂ (λ (x y : ℕ). max P.last (max x y)) (h.arrival j l)
      (largest_same S.jobs _ (λ i. only (T.before i j) (finish T P.plan i))
      (λ i k. ap₂ (λ (b : Bool) (x : ℕ). only b (P.plan.start i + x)) (h.before i j k l) (h.minutes i k))
      ∙ ap (λ (n : ℕ). largest n (λ i. only (T.before i j) (finish T P.plan i))) h.jobs)

  start_same : (P : PartPlan) (j : ℕ) → j < S.jobs → start_of S P j ≡ start_of T P j
  unfolding start_of
  start_same P j l = λ i.
      first_minute (λ t. leb (h.need j l i) (count (h.modules i) (free_same P i t))) (all-free_same P i) (not_before_same P j l i)

  place_same : (P : PartPlan) (j : ℕ) → j < S.jobs → place S P j (start_of S P j) ≡ place T P j (start_of T P j)
  place_same P j l = λ i.
      let t = start_same P j l i in
      record {
        placed = placing P.placed j;
        plan = record {
          start = λ k. cond (eqb k j) t (P.plan.start k);
          uses = λ k m. cond (eqb k j) (lowest (h.modules i) (free_same P i t) (h.need j l i) m) (P.plan.uses k m);
        };
        last = t;
      }

  all_same : (o : List ℕ) (d : ℕ → Bool) (P : PartPlan) → Follows S d o → place_all S P o ≡ place_all T P o
  unfolding place_all
  all_same [] d P f = refl
  all_same (j ∷ o) d P f =
      all_same o (placing d j) (place S P j (start_of S P j)) f.1
      ∙ ap (λ (Q : PartPlan). place_all T Q o) (place_same P j (ready_says S d j f.0).job)

  module _ (o : List ℕ) (w : Order S o) where
    pub plan_same : list_plan S o ≡ list_plan T o
    plan_same = ap (λ (P : PartPlan). P.plan) (all_same o no_jobs empty_part w.follows)

    pub finish_same : (j : ℕ) → j < S.jobs → finish S (list_plan S o) j ≡ finish T (list_plan T o) j
    finish_same j l = ap₂ (λ (P : Plan) (x : ℕ). P.start j + x) plan_same (h.minutes j l)

    pub end_same : end_of S o ≡ end_of T o
    end_same =
        largest_same S.jobs (finish S (list_plan S o)) (finish T (list_plan T o)) finish_same
        ∙ ap (λ (n : ℕ). largest n (finish T (list_plan T o))) h.jobs

-- ---- best orders

pub best_same : {S T : Sheet} → SameJobs S T → (o : List ℕ) → Best S o → Best T o
best_same {S} {T} h o b = record {
  order = order_same h o b.order;
  early = λ p w. let v = back p w in omega (arith, end_same h o b.order, end_same h p v, b.early p v);
  first = λ p w e. let v = back p w in b.first p v (end_same h p v ∙ e ∙ sym (end_same h o b.order));
}
  where
    back : (p : List ℕ) → Order T p → Order S p
    back p w = order_same (same_back h) p w
