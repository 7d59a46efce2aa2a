-- F-5: a valid plan stays valid in a larger cabinet, so that what one count of modules serves, every larger one serves.
use mathlib.Core.Path.{◌≡◌, refl, ◌∙◌}
use mathlib.Core.Logic.{◌⊎◌, inl, inr, ◌↔◌}
use mathlib.Core.Bool.{Bool, true, false, not}
use mathlib.Core.List.{List}
use mathlib.Core.Option.{Option, none, some}
use Prim.Native.Nat.{ℕ, zero, suc, ◌≤◌, ◌<◌}
use native.Mathlib.Omega.{arith}
use native.Mathlib.Nat.{lt_of_lt_of_le}
use lib.Dec.{leb}
use borrow.Author.Tests.{leb-true, le-leb, not-true}
use Rattle.counting.specs.Counting.{only, sum, count}
use Rattle.counting.proofs.Tests.{true-or-false, clash, less-or-not, and_left, and_right, and_both, not_of_false, same_test}
use Rattle.schedule.specs.Plan.{Sheet, Plan, Valid, Lasting, over_wide}
use Rattle.schedule.specs.ListPlan.{list_plan}
use Rattle.schedule.specs.TieRule.{best_order, end_of}
use Rattle.schedule.specs.Ends.{EndsBy}
use Rattle.schedule.specs.Cabinets.{with_modules, ends_by}
use Rattle.schedule.proofs.Orders.{best_order_lem}
use Rattle.schedule.proofs.Existence.{has_plan}
use Rattle.schedule.proofs.Same.{SameJobs, SameMarks, same_back, valid_same, end_of_same, lasting_same}
use Rattle.schedule.proofs.Theorems.{best_exists, best_valid, best_earliest}

-- ---- a larger cabinet

-- where no number from n on passes, more numbers count no more
count_further : (n k : ℕ) (p : ℕ → Bool) → n ≤ k → ((i : ℕ) → p i ≡ true → i < n) → count k p ≡ count n p
unfolding sum
count_further n zero p l h = let z : n ≡ 0 = omega arith in rw z refl
count_further n (suc k) p l h = go (less-or-not k n) (λ a. count_further n k p a h)
  where
    none_there : n ≤ k → (p k ≡ true) ⊎ (p k ≡ false) → only (p k) 1 ≡ 0
    none_there m (inl e) = absurd (omega (arith, h k e))
    none_there m (inr e) = rw e refl

    go : (k < n) ⊎ (n ≤ k) → (n ≤ k → count k p ≡ count n p) → count (suc k) p ≡ count n p
    go (inl a) r = let z : n ≡ suc k = omega arith in rw z refl
    go (inr a) r = let q = r a in omega (arith, q, none_there a (true-or-false (p k)))

pub valid_in_larger : (S : Sheet) (P : Plan) → Valid S P → (k : ℕ) → S.modules ≤ k → Valid (with_modules S k) P
valid_in_larger S P v k l = record {
  inside = λ j m x u. lt_of_lt_of_le (v.inside j m x u) l;
  enough = λ j x. count_further S.modules k (P.uses j) l (λ i u. v.inside j i x u) ∙ v.enough j x;
  apart = v.apart;
  after = v.after;
  arrived = v.arrived;
}

-- ---- the test

-- It passes exactly where some valid plan, whoever finds it and however, ends by t.
pub ends_by_when : (S : Sheet) → Lasting S → (t : ℕ) → (ends_by S t ≡ true) ↔ EndsBy S t
unfolding ends_by
ends_by_when S w t = (there (best_order S) refl, back)
  where
    there : (b : Option (List ℕ)) → best_order S ≡ b → ends_by S t ≡ true → EndsBy S t
    there none e h = clash false (rw e at (and_right (not (over_wide S)) _ h)) refl
    there (some o) e h =
        let narrow = not-true (over_wide S) (and_left (not (over_wide S)) _ h) in
        let low : leb (end_of S o) t ≡ true = rw e at (and_right (not (over_wide S)) _ h) in
        (list_plan S o, best_valid S narrow o (best_order_lem S o e), leb-true (end_of S o) t low)

    back : EndsBy S t → ends_by S t ≡ true
    back (P, v, l) =
        let h = (has_plan S w).0 (P, v) in
        let b = best_exists S h.1 in
        let early = best_earliest S w b.0 b.2 P v in
        and_both (not (over_wide S)) _ (not_of_false (over_wide S) h.0) (rw b.1 (le-leb (end_of S b.0) t (omega arith)))

-- What a count serves, every larger one serves,
pub ends_by_larger : (S : Sheet) → Lasting S → (t i k : ℕ) → i ≤ k → ends_by (with_modules S i) t ≡ true
    → ends_by (with_modules S k) t ≡ true
ends_by_larger S w t i k l e =
    let p = (ends_by_when (with_modules S i) w t).0 e in
    (ends_by_when (with_modules S k) w t).1 (p.0, valid_in_larger (with_modules S i) p.0 p.1 k l, p.2)

-- and a job that is wider than the cabinet leaves no valid plan.
pub wide_ends_by-none : (S : Sheet) (t : ℕ) → over_wide S ≡ true → ends_by S t ≡ false
unfolding ends_by
wide_ends_by-none S t e = rw e refl

-- ---- two sheets that say the same of every job

pub ends_by_same : {S T : Sheet} → SameJobs S T → (t : ℕ) → EndsBy S t → EndsBy T t
ends_by_same h t (P, v, l) = (P, valid_same h P v, rw (end_of_same h P) at l)

pub ends_by_test_same : {S T : Sheet} → SameJobs S T → Lasting S → (t : ℕ) → ends_by S t ≡ ends_by T t
ends_by_test_same {S} {T} h w t =
    let v = lasting_same h w in
    same_test (ends_by S t) (ends_by T t)
    (λ e. (ends_by_when T v t).1 (ends_by_same h t ((ends_by_when S w t).0 e)))
    (λ e. (ends_by_when S w t).1 (ends_by_same (same_back h) t ((ends_by_when T v t).0 e)))

-- in cabinets of one size
pub same_with : {S T : Sheet} → SameJobs S T → (k : ℕ) → SameJobs (with_modules S k) (with_modules T k)
same_with h k = record {
  jobs = h.jobs;
  modules = refl;
  rest = h.rest;
  need = h.need;
  minutes = h.minutes;
  before = h.before;
  arrival = h.arrival;
}

-- the marks are those of the sheet, whatever the cabinet
pub marks_with : (S : Sheet) (k : ℕ) → SameMarks (with_modules S k) S
marks_with S k = record { jobs = refl; before = λ i j a b. refl }
