-- The laws of lanes: weights chosen, values set one after another, the reach of a lane with one job more, and the tables side by side.
use mathlib.Core.Path.{◌≡◌, refl, sym, ap, ◌∙◌, subst}
use mathlib.Core.Logic.{◌⊎◌, inl, inr, ◌≢◌}
use mathlib.Core.List.{List}
use Prim.Native.Nat.{ℕ, ◌+◌, ◌-◌, ◌*◌, ◌/◌, ◌≤◌, ◌<◌}
use native.Mathlib.Omega.{arith}
use native.Mathlib.Nat.{mul-le-mul, mul-le-mul_right, lt-div-mul-add}
use lib.ListN.{length, get_or, set, replicate, length-replicate}
use lib.Seq.{get_or-set_same, get_or-set_other}
use Rattle.counting.specs.Counting.{only, sum}
use Rattle.counting.proofs.Tests.{same_or_not, less-or-not}
use Rattle.counting.proofs.Sums.{sum_same}
use Rattle.figures.specs.Figures.{most_jobs, most_modules}
use Rattle.tables.specs.declared.Jobs.{Jobs}
use Rattle.tables.specs.Tables.{need_at, kept_at, count_of, modules_of, Fit}
use Rattle.tables.proofs.Laws.{zeros}
use Rattle.weights.specs.Weights.{weightings, widths, all_weight, weight_in, most_with, Put, Weighs, MostOf}
use Rattle.weights.proofs.Knapsack.{job_light, most_with_narrow, most_with_wide, knapsack-none, knapsack_more}
use Rattle.values.specs.Values.{steps, most_place, worth_place, step_place, lanes_size, most_value, Chosen, Valued, Reached, Joined, Laned}

-- ---- weights

-- a weight for each job, put in, and the most that can stand
chosen_by : {t : Jobs} {weight most : List ℕ} (y : ℕ → ℕ) → Put (λ k. k) (replicate most_jobs 0) weight (count_of t) y
    → ((k : ℕ) → k < count_of t → y k ≤ most_modules) → Weighs t y (λ x. get_or most x 0)
    → ((a b : ℕ) → a ≤ b → b ≤ modules_of t → get_or most a 0 ≤ get_or most b 0) → ((x : ℕ) → get_or most x 0 ≤ all_weight)
    → Chosen t weight most
chosen_by {t} {weight} {most} y put light weighs rises small = record {
  weighs = λ X x l fits. omega (
    arith,
    weighs X x l fits,
    sum_same (count_of t) (λ k. only (X k) (get_or weight k 0)) (λ k. only (X k) (y k))
        (λ k m. ap (λ (v : ℕ). only (X k) v) (put.each k m)),
  );
  rises = rises;
  light = put.small most_modules (λ p. omega (arith, zeros most_jobs p)) light;
  small = small;
}

-- each job weighs as much as it needs
pub chosen-own : {t : Jobs} {weight most : List ℕ} → Fit t → Put (λ k. k) (replicate most_jobs 0) weight (count_of t) (need_at t)
    → Put (λ x. x) (replicate widths 0) most (modules_of t + 1) (λ x. x) → Chosen t weight most
chosen-own {t} {weight} {most} fit put put' =
    chosen_by (need_at t) put (λ k l. omega (arith, fit.most, fit.narrow k l))
    (λ X x l fits. omega (arith, at x l)) (λ a b l m. omega (arith, at a (omega arith), at b m))
    (put'.small all_weight (λ p. omega (arith, zeros widths p)) (λ x l. omega (arith, fit.most)))
  where
    at : (x : ℕ) → x ≤ modules_of t → get_or most x 0 ≡ x
    at x l = put'.each x (omega arith)

-- each job weighs what it weighs in weighting q
pub chosen_in : {t : Jobs} {weight most : List ℕ} {q : ℕ} → Fit t → q < weightings
    → Put (λ k. k) (replicate most_jobs 0) weight (count_of t) (λ k. weight_in (modules_of t) q (need_at t k)) → MostOf t (count_of t) q most
    → Chosen t weight most
chosen_in {t} {q = q} fit low put table =
    chosen_by (λ k. weight_in (modules_of t) q (need_at t k)) put (λ k l. omega (arith, job_light fit q low k l))
    table.holds table.rises (λ x. omega (arith, table.small x, fit.few))

-- one of two choices
pub chosen_of : {t : Jobs} {weight most weight₁ most₁ weight₂ most₂ : List ℕ}
    → ((weight ≡ weight₁) × (most ≡ most₁)) ⊎ ((weight ≡ weight₂) × (most ≡ most₂)) → Chosen t weight₁ most₁
    → Chosen t weight₂ most₂ → Chosen t weight most
chosen_of (inl e) h h' = rw (e.0, e.1) h
chosen_of (inr e) h h' = rw (e.0, e.1) h'

-- ---- values

pub valued-none : (t : Jobs) (step : ℕ) → Valued t step (replicate most_jobs 0)
valued-none t step = record {
  small = λ k. omega (arith, zeros most_jobs k);
  short = λ k l. omega (arith, zeros most_jobs k);
}

-- one job's value set
pub valued_more : {t : Jobs} {step : ℕ} {value : List ℕ} → Valued t step value → (k v : ℕ) → k < length value → v ≤ most_value
    → (kept_at t k < step → v ≡ 0) → Valued t step (set value k v)
valued_more {t} {step} {value} h k v l low none = record {
  small = λ p. small p (same_or_not p k);
  short = λ p m. short p m (same_or_not p k);
}
  where
    small : (p : ℕ) → (p ≡ k) ⊎ (p ≢ k) → get_or (set value k v) p 0 ≤ most_value
    small p (inl e) = rw e (omega (arith, get_or-set_same value k v 0 l))
    small p (inr d) = omega (arith, get_or-set_other value k p v 0 d, h.small p)

    short : (p : ℕ) → kept_at t p < step → (p ≡ k) ⊎ (p ≢ k) → get_or (set value k v) p 0 ≡ 0
    short p m (inl e) = rw e (get_or-set_same value k v 0 l ∙ none (rw e at m))
    short p m (inr d) = get_or-set_other value k p v 0 d ∙ h.short p m

-- one of two lists of values
pub valued_of : {t : Jobs} {value value₁ value₂ : List ℕ} {step : ℕ} → (value ≡ value₁) ⊎ (value ≡ value₂) → Valued t step value₁
    → Valued t step value₂ → Valued t step value
valued_of (inl e) h h' = rw e h
valued_of (inr e) h h' = rw e h'

-- ---- the reach

-- in fewer steps than a job lasts, the table with it is the table without
pub put_narrow : (old : List ℕ) (width value : ℕ) → Put (λ x. x) old old width (most_with old width value)
put_narrow old width value = record {
  size = refl;
  kept = λ p m. refl;
  each = λ x l. sym (most_with_narrow old width value x l);
  small = λ b before after p. before p;
}

pub reached-none : (t : Jobs) (value : List ℕ) (step : ℕ) → Reached t value 0 step (replicate steps 0)
reached-none t value step = record {
  size = length-replicate {A = ℕ} steps 0;
  table = knapsack-none (λ k. kept_at t k / step) (λ k. get_or value k 0) (steps - 1) most_value steps;
  none = omega (arith, zeros steps 0);
}

pub reached_more : {t : Jobs} {value old new : List ℕ} {n step : ℕ} → 0 < step → Valued t step value → Reached t value n step old
    → Put (λ x. x) old new steps (most_with old (kept_at t n / step) (get_or value n 0)) → Reached t value (n + 1) step new
reached_more {t} {value} {old} {new} {n} {step} some valued h put = record {
  size = put.size ∙ h.size;
  table = knapsack_more h.table h.table.small put (valued.small n);
  none = put.each 0 (omega arith) ∙ none (less-or-not 0 (kept_at t n / step));
}
  where
    width : ℕ
    width = kept_at t n / step

    none : (0 < width) ⊎ (width ≤ 0) → most_with old width (get_or value n 0) 0 ≡ 0
    none (inl l) = most_with_narrow old width (get_or value n 0) 0 l ∙ h.none
    none (inr l) =
        let most = mul-le-mul_right step l in
        let short : kept_at t n < step = omega (arith, lt-div-mul-add {a = kept_at t n} some) in
        let here : 0 - width ≡ 0 = omega arith in
        omega (
          arith,
          most_with_wide old width (get_or value n 0) 0 l,
          valued.short n short,
          h.none,
          ap (λ (i : ℕ). get_or old i 0) here,
        )

-- ---- the tables side by side

pub joined_of : {reach most weight value zero first second third : List ℕ} (step : ℕ) → length third ≡ lanes_size
    → Put (λ x. 0 + x) zero first steps (λ x. get_or reach x 0) → Put (λ x. most_place + x) first second widths (λ x. get_or most x 0)
    → Put (λ k. worth_place + k) second third most_jobs (λ k. get_or weight k 0 * get_or value k 0)
    → Joined reach most weight value step (set third step_place step)
joined_of {first = first} {third = third} step size put put' put'' = record {
  reach_is = λ x l. get_or-set_other third step_place x step 0 (λ e. omega arith) ∙ put''.kept x (λ k m e. omega arith)
      ∙ put'.kept x (λ k m e. omega arith) ∙ at x ∙ put.each x l;
  most_is = λ x l. get_or-set_other third step_place (most_place + x) step 0 (λ e. omega arith)
      ∙ put''.kept (most_place + x) (λ k m e. omega arith) ∙ put'.each x l;
  worth_is = λ k l. get_or-set_other third step_place (worth_place + k) step 0 (λ e. omega arith) ∙ put''.each k l;
  step_is = get_or-set_same third step_place step 0 (omega (arith, size));
}
  where
    at : (x : ℕ) → get_or first x 0 ≡ get_or first (0 + x) 0
    at x = ap (λ (i : ℕ). get_or first i 0) (omega arith)

pub laned : {t : Jobs} {reach most weight value lanes : List ℕ} {step : ℕ} → Fit t → 0 < step → Chosen t weight most → Valued t step value
    → Reached t value (count_of t) step reach → Joined reach most weight value step lanes → Laned t lanes
laned {t} {weight = weight} {value = value} fit some choice valued reached joined = record {
  weight = λ k. get_or weight k 0;
  value = λ k. get_or value k 0;
  worth_is = λ k l. joined.worth_is k (omega (arith, fit.few));
  weighs = λ X x l fits. omega (arith, choice.weighs X x l fits, joined.most_is x (omega (arith, fit.most)));
  most-rises = λ a b l m. omega (
    arith,
    choice.rises a b l m,
    joined.most_is a (omega (arith, fit.most)),
    joined.most_is b (omega (arith, fit.most)),
  );
  step-some = omega (arith, joined.step_is);
  serves = λ X x l fits. omega (
    arith,
    joined.reach_is x l,
    reached.table.holds X x (omega arith)
        (subst (λ (s : ℕ). sum (count_of t) (λ k. only (X k) (kept_at t k / s)) ≤ x) joined.step_is fits),
  );
  reach-rises = λ a b l m. omega (
    arith,
    reached.table.rises a b l (omega arith),
    joined.reach_is a (omega arith),
    joined.reach_is b m,
  );
  reach-none = joined.reach_is 0 (omega arith) ∙ reached.none;
  worth_small = λ k l. omega (
    arith,
    joined.worth_is k l,
    mul-le-mul {n₂ = most_modules} {m₂ = most_value} (choice.light k) (valued.small k),
  );
  most_small = λ x l. omega (arith, joined.most_is x l, choice.small x);
  reach_small = λ x l. omega (arith, joined.reach_is x l, reached.table.small x, fit.few);
}

-- a list that agrees at the places of the table is such a table too
pub laned_alike : {t : Jobs} {lanes lanes' : List ℕ} → Fit t → ((p : ℕ) → p < lanes_size → get_or lanes' p 0 ≡ get_or lanes p 0) → Laned t lanes
    → Laned t lanes'
laned_alike {t} {lanes} {lanes'} fit same h = record {
  weight = h.weight;
  value = h.value;
  worth_is = λ k l. same (worth_place + k) (omega (arith, fit.few)) ∙ h.worth_is k l;
  weighs = λ X x l fits. omega (arith, most x (omega (arith, fit.most)), h.weighs X x l fits);
  most-rises = λ a b l m. omega (
    arith,
    most a (omega (arith, fit.most)),
    most b (omega (arith, fit.most)),
    h.most-rises a b l m,
  );
  step-some = omega (arith, step, h.step-some);
  serves = λ X x l fits. omega (
    arith,
    reach x l,
    h.serves X x l (subst (λ (s : ℕ). sum (count_of t) (λ k. only (X k) (kept_at t k / s)) ≤ x) step fits),
  );
  reach-rises = λ a b l m. omega (arith, reach a (omega arith), reach b m, h.reach-rises a b l m);
  reach-none = reach 0 (omega arith) ∙ h.reach-none;
  worth_small = λ k l. omega (arith, same (worth_place + k) (omega arith), h.worth_small k l);
  most_small = λ x l. omega (arith, most x l, h.most_small x l);
  reach_small = λ x l. omega (arith, reach x l, h.reach_small x l);
}
  where
    reach : (x : ℕ) → x < steps → get_or lanes' x 0 ≡ get_or lanes x 0
    reach x l = same x (omega arith)

    most : (x : ℕ) → x < widths → get_or lanes' (most_place + x) 0 ≡ get_or lanes (most_place + x) 0
    most x l = same (most_place + x) (omega arith)

    step : get_or lanes' step_place 0 ≡ get_or lanes step_place 0
    step = same step_place (omega arith)
