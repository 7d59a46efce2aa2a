-- Checks 8 and 9: no order is left exactly where some job would have to end before itself.
use mathlib.Core.Path.{◌≡◌, refl}
use mathlib.Core.Logic.{◌⊎◌, inl, inr, ◌↔◌}
use mathlib.Core.Bool.{true, false}
use mathlib.Core.List.{List}
use mathlib.Core.Option.{Option, none, some}
use Prim.Native.Nat.{ℕ}
use Rattle.counting.proofs.Tests.{true-or-false, clash, same_test}
use Rattle.schedule.specs.Plan.{Sheet, over_wide, Circular}
use Rattle.schedule.specs.TieRule.{best_order}
use Rattle.schedule.proofs.Orders.{best_order_lem}
use Rattle.schedule.proofs.Theorems.{none_circular, best-not_circular}
use Rattle.checking.specs.Checking.{first_failing}
use Rattle.planable.specs.Planable.{no_order, order_refusal}
use Rattle.schedule.proofs.Same.{SameJobs, SameMarks, marks_of, marks_back, circular_same, wide_same}

-- Check 9 fails exactly where some job would have to end before itself.
pub circular_when : (S : Sheet) → (no_order S ≡ true) ↔ Circular S
unfolding no_order
circular_when S = (there (best_order S) refl, back (best_order S) refl)
  where
    there : (b : Option (List ℕ)) → best_order S ≡ b → no_order S ≡ true → Circular S
    there none e h = none_circular S e
    there (some o) e h = clash false (rw (e, no_order) at h) refl

    back : (b : Option (List ℕ)) → best_order S ≡ b → Circular S → no_order S ≡ true
    back none e c = rw (e, no_order) refl
    back (some o) e c = absurd (best-not_circular S o (best_order_lem S o e) c)

pub ordered_when : (S : Sheet) → (no_order S ≡ false) ↔ (¬ Circular S)
ordered_when S = ((λ e c. clash (no_order S) ((circular_when S).1 c) e), λ h. go (true-or-false (no_order S)) h)
  where
    go : (no_order S ≡ true) ⊎ (no_order S ≡ false) → ¬ Circular S → no_order S ≡ false
    go (inl t) h = absurd (h ((circular_when S).0 t))
    go (inr f) h = f

-- the marks alone decide it, whatever the cabinet
pub none_same : {S T : Sheet} → SameMarks S T → no_order S ≡ no_order T
none_same {S} {T} h =
    same_test (no_order S) (no_order T) (λ e. (circular_when T).1 (circular_same h ((circular_when S).0 e)))
    (λ e. (circular_when S).1 (circular_same (marks_back h) ((circular_when T).0 e)))

-- two sheets that say the same of every job have the same number
pub refusal_same : {S T : Sheet} → SameJobs S T → order_refusal S ≡ order_refusal T
unfolding order_refusal first_failing
refusal_same h = rw (wide_same h, none_same (marks_of h)) refl

-- ---- the number of a sheet that reads

module _ (S : Sheet) where
  pub number_wide : over_wide S ≡ true → order_refusal S ≡ 8
  unfolding order_refusal first_failing
  number_wide w = rw w refl

  module _ (w : over_wide S ≡ false) where
    pub number_circular : Circular S → order_refusal S ≡ 9
    unfolding order_refusal first_failing
    number_circular c = rw (w, (circular_when S).1 c) refl

    pub number-none : ¬ Circular S → order_refusal S ≡ 0
    unfolding order_refusal first_failing
    number-none c = rw (w, (ordered_when S).1 c) refl
