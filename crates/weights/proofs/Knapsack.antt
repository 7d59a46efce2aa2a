-- The weight of a job, and the most that can stand on so many modules, one job more at a time.
use mathlib.Core.Path.{◌≡◌, ◌∙◌}
use mathlib.Core.Logic.{◌⊎◌, inl, inr}
use mathlib.Core.Bool.{true, false}
use mathlib.Core.List.{List}
use Prim.Native.Nat.{ℕ, suc, ◌+◌, ◌-◌, ◌*◌, ◌/◌, ◌%◌, ◌≤◌, ◌<◌, max, zero-le}
use native.Mathlib.Omega.{arith}
use native.Mathlib.Nat.{le_trans, mul-le-mul, mul_comm, mul-suc, div-le_of_le-mul, not-suc-le-zero}
use native.Mathlib.Numerals.{add-one}
use lib.Dec.{eqb, leb}
use borrow.Author.Tests.{le-leb, lt-leb}
use lib.ListN.{get_or, replicate, length-replicate}
use Rattle.counting.specs.Counting.{only, sum, Holds}
use Rattle.counting.proofs.Tests.{true-or-false, less-or-not, last-or_below}
use Rattle.figures.specs.Figures.{most_modules}
use Rattle.tables.specs.declared.Jobs.{Jobs}
use Rattle.tables.specs.Tables.{need_at, kept_at, most_kept, count_of, modules_of, Fit}
use Rattle.tables.proofs.Laws.{kept_short}
use Rattle.tables.proofs.Laws.{zeros}
use Rattle.weights.specs.Weights.{weightings, widths, worth_size, most_size, heaviest, all_weight, most_worth, weight_in, most_with, Put, Knapsack}
use Rattle.weights.specs.Weights.{MostOf, Weighting, WeightedTo, Weighted}

-- ---- the weight of one job

-- the products that make it up
pub record Figures (modules q width : ℕ) : Type 0 where
  pub product : (q + 2) * width ≤ 384
  pub less : (q + 1) * ((q + 2) * width / modules) ≤ 30
  pub more : (q + 2) * ((q + 2) * width / modules) ≤ heaviest

figures : (modules q width : ℕ) → modules ≤ most_modules → width ≤ modules → q < weightings → Figures modules q width
figures modules q width m w l =
    let a : (q + 2) * width ≤ 6 * modules = mul-le-mul (omega arith) w in
    let whole : (q + 2) * width / modules ≤ 6 = div-le_of_le-mul modules (omega (arith, mul_comm modules 6)) in
    record {
      product = omega arith;
      less = mul-le-mul {n₂ = 5} {m₂ = 6} (omega arith) whole;
      more = mul-le-mul {n₂ = 6} {m₂ = 6} (omega arith) whole;
    }

weight_light : (modules q width : ℕ) → modules ≤ most_modules → width ≤ modules → q < weightings → weight_in modules q width ≤ heaviest
unfolding weight_in
weight_light modules q width m w l = go (true-or-false (eqb ((q + 2) * width % modules) 0))
  where
    go : (eqb ((q + 2) * width % modules) 0 ≡ true) ⊎ (eqb ((q + 2) * width % modules) 0 ≡ false) → weight_in modules q width ≤ heaviest
    go (inl e) = rw e (le_trans (figures modules q width m w l).less (omega arith))
    go (inr e) = rw e (figures modules q width m w l).more

-- the weight of one of the sheet's jobs: its products, alone, and times the minutes for which it keeps its modules
module _ {t : Jobs} (fit : Fit t) (q : ℕ) (low : q < weightings) (k : ℕ) (l : k < count_of t) where
  pub job_figures_lem : {modules width : ℕ} → modules ≡ modules_of t → width ≡ need_at t k → Figures modules q width
  job_figures_lem e f = figures _ q _ (omega (arith, fit.most)) (omega (arith, fit.narrow k l)) low

  pub job_light : weight_in (modules_of t) q (need_at t k) ≤ heaviest
  job_light = weight_light (modules_of t) q (need_at t k) fit.most (fit.narrow k l) low

  pub worth_small : kept_at t k * weight_in (modules_of t) q (need_at t k) ≤ most_worth
  worth_small = mul-le-mul {n₂ = most_kept} {m₂ = heaviest} (kept_short t fit k l) job_light

-- ---- a table with one job more

-- a bound for the first n jobs, and one that counts one job more
holds_more : (width : ℕ → ℕ) (n top : ℕ) (y K K' : ℕ → ℕ) → Holds width n top y K
    → ((x : ℕ) → x ≤ top → K x ≤ K' x) → ((x : ℕ) → x ≤ top → width n ≤ x → y n + K (x - width n) ≤ K' x)
    → Holds width (suc n) top y K'
unfolding sum
holds_more width n top y K K' h keeps takes X x l fits = go (true-or-false (X n))
  where
    go : (X n ≡ true) ⊎ (X n ≡ false) → sum n (λ k. only (X k) (y k)) + only (X n) (y n) ≤ K' x
    go (inl e) =
        let f : sum n (λ k. only (X k) (width k)) + width n ≤ x = rw e at fits in
        let below = h X (x - width n) (omega arith) (omega arith) in
        rw e (omega (arith, takes x l (omega arith)))
    go (inr e) =
        let f : sum n (λ k. only (X k) (width k)) + 0 ≤ x = rw e at fits in
        rw e (omega (arith, h X x l (omega arith), keeps x l))

most_with_keeps : (old : List ℕ) (width weight x : ℕ) → get_or old x 0 ≤ most_with old width weight x
unfolding most_with
most_with_keeps old width weight x = omega arith

most_with_takes : (old : List ℕ) (width weight x : ℕ) → width ≤ x → weight + get_or old (x - width) 0 ≤ most_with old width weight x
unfolding most_with
most_with_takes old width weight x l = rw (le-leb width x l) (omega arith)

most_with_small : (old : List ℕ) (width weight x b each : ℕ) → ((p : ℕ) → get_or old p 0 ≤ b) → weight ≤ each
    → most_with old width weight x ≤ b + each
unfolding most_with
most_with_small old width weight x b each h l = go (true-or-false (leb width x))
  where
    go : (leb width x ≡ true) ⊎ (leb width x ≡ false) → most_with old width weight x ≤ b + each
    go (inl e) = rw e (omega (arith, h x, h (x - width)))
    go (inr e) = rw e (omega (arith, h x))

-- in a width that is less than the job's, the table stays
pub most_with_narrow : (old : List ℕ) (width weight x : ℕ) → x < width → most_with old width weight x ≡ get_or old x 0
unfolding most_with
most_with_narrow old width weight x l = rw (lt-leb width x l) (omega arith)

-- in one that is not, the job is worth its weight beside what the rest of the width holds
pub most_with_wide : (old : List ℕ) (width weight x : ℕ) → width ≤ x
    → most_with old width weight x ≡ max (get_or old x 0) (weight + get_or old (x - width) 0)
unfolding most_with
most_with_wide old width weight x l = rw (le-leb width x l)

most_with-rises : (old : List ℕ) (width weight a b : ℕ) → ((c d : ℕ) → c ≤ d → d ≤ b → get_or old c 0 ≤ get_or old d 0) → a ≤ b
    → most_with old width weight a ≤ most_with old width weight b
most_with-rises old width weight a b h l = go (less-or-not a width)
  where
    go : (a < width) ⊎ (width ≤ a) → most_with old width weight a ≤ most_with old width weight b
    go (inl m) =
        omega (arith, most_with_narrow old width weight a m, h a b l (omega arith), most_with_keeps old width weight b)
    go (inr m) =
        rw (most_with_wide old width weight a m, most_with_wide old width weight b (omega arith))
        (omega (arith, h a b l (omega arith), h (a - width) (b - width) (omega arith) (omega arith)))

-- no job is worth nothing
pub knapsack-none : (width y : ℕ → ℕ) (top each size : ℕ) → Knapsack width 0 top each y (replicate size 0)
unfolding sum
knapsack-none width y top each size = record {
  holds = λ X x l fits. zero-le;
  rises = λ a b l m. omega (arith, zeros size a);
  small = λ p. omega (arith, zeros size p);
}

pub knapsack_more : {width y : ℕ → ℕ} {n top each : ℕ} {base old new : List ℕ} → Knapsack width n top each y old
    → ((p : ℕ) → get_or base p 0 ≤ each * n) → Put (λ x. x) base new (top + 1) (most_with old (width n) (y n)) → y n ≤ each
    → Knapsack width (n + 1) top each y new
knapsack_more {width} {y} {n} {top} {each} {base} {old} {new} h low put light = record {
  holds = rw add-one (holds_more width n top y (λ x. get_or old x 0) (λ x. get_or new x 0)
      h.holds (λ x l. omega (arith, at x l, most_with_keeps old (width n) (y n) x))
      (λ x l m. omega (arith, at x l, most_with_takes old (width n) (y n) x m)));
  rises = λ a b l m. rises a b l m;
  small = λ p. rw (add-one, mul-suc each n) (put.small (each * n + each) (λ i. omega (arith, low i))
      (λ x l. most_with_small old (width n) (y n) x (each * n) each h.small light) p);
}
  where
    at : (x : ℕ) → x ≤ top → get_or new x 0 ≡ most_with old (width n) (y n) x
    at x l = put.each x (omega arith)

    rises : (a b : ℕ) → a ≤ b → b ≤ top → get_or new a 0 ≤ get_or new b 0
    rises a b l m =
        let w = most_with-rises old (width n) (y n) a b (λ c d i j. h.rises c d i (omega arith)) l in
        omega (arith, at a (omega arith), at b m)

-- ---- the weightings side by side

-- a weighting of which both parts are kept
weighting-kept : {t : Jobs} {worth worth' most most' : List ℕ} {q : ℕ}
    → ((k : ℕ) → k < count_of t → get_or worth' (k * weightings + q) 0 ≡ get_or worth (k * weightings + q) 0)
    → ((x : ℕ) → x ≤ modules_of t → get_or most' (x * weightings + q) 0 ≡ get_or most (x * weightings + q) 0)
    → Weighting t worth most q → Weighting t worth' most' q
weighting-kept same same' h = record {
  weight = h.weight;
  worth_is = λ k l. same k l ∙ h.worth_is k l;
  weighs = λ X x l fits. omega (arith, same' x l, h.weighs X x l fits);
}

pub weighted-none : (t : Jobs) → WeightedTo t (replicate worth_size 0) (replicate most_size 0) 0
weighted-none t = record {
  worth-length = length-replicate {A = ℕ} worth_size 0;
  most-length = length-replicate {A = ℕ} most_size 0;
  worth_small = λ p. omega (arith, zeros worth_size p);
  most_small = λ p. omega (arith, zeros most_size p);
  each = λ q l. absurd (not-suc-le-zero l);
}

pub weighted_more : {t : Jobs} {q : ℕ} {worth worth' most most' table : List ℕ} → Fit t → q < weightings → WeightedTo t worth most q
    → MostOf t (count_of t) q table
    → Put (λ k. k * weightings + q) worth worth' (count_of t) (λ k. kept_at t k * weight_in (modules_of t) q (need_at t k))
    → Put (λ x. x * weightings + q) most most' widths (λ x. get_or table x 0) → WeightedTo t worth' most' (q + 1)
weighted_more {t} {q} {worth} {worth'} {most} {most'} {table} fit low h table_is put put' = record {
  worth-length = put.size ∙ h.worth-length;
  most-length = put'.size ∙ h.most-length;
  worth_small = put.small most_worth h.worth_small (worth_small fit q low);
  most_small = put'.small all_weight h.most_small (λ x l. omega (arith, table_is.small x, fit.few));
  each = λ p l. each p (last-or_below q p (omega arith));
}
  where
    each : (p : ℕ) → (p ≡ q) ⊎ (p < q) → Weighting t worth' most' p
    each p (inl e) = rw e (record {
      weight = λ k. weight_in (modules_of t) q (need_at t k);
      worth_is = put.each;
      weighs = λ X x l fits. omega (arith, put'.each x (omega (arith, fit.most)), table_is.holds X x l fits);
    })
    each p (inr l) =
        weighting-kept (λ k m. put.kept (k * weightings + p) (λ i m e. omega arith))
        (λ x m. put'.kept (x * weightings + p) (λ i m e. omega arith)) (h.each p l)

-- all of them put in
pub weighted_all : {t : Jobs} {worth most : List ℕ} → WeightedTo t worth most weightings → Weighted t worth most
weighted_all h = record { worth_small = λ p l. h.worth_small p; most_small = λ p l. h.most_small p; each = h.each }

-- lists that agree at the places of the weightings are weightings too
pub weighted_alike : {t : Jobs} {worth worth' most most' : List ℕ} → Fit t → ((p : ℕ) → p < worth_size → get_or worth' p 0 ≡ get_or worth p 0)
    → ((p : ℕ) → p < most_size → get_or most' p 0 ≡ get_or most p 0) → Weighted t worth most → Weighted t worth' most'
weighted_alike fit same same' h = record {
  worth_small = λ p l. omega (arith, same p l, h.worth_small p l);
  most_small = λ p l. omega (arith, same' p l, h.most_small p l);
  each = λ q l. weighting-kept (λ k m. same (k * weightings + q) (omega (arith, fit.few)))
      (λ x m. same' (x * weightings + q) (omega (arith, fit.most))) (h.each q l);
}
