-- A row that passes the test is right.
use mathlib.Core.Path.{◌≡◌, refl, ap₂}
use mathlib.Core.Bool.{Bool, true, false}
use mathlib.Core.List.{List, [], ◌∷◌}
use Prim.Native.Nat.{ℕ}
use lib.Dec.{eqb}
use borrow.Author.Tests.{eqb-true}
use Rattle.counting.proofs.Tests.{and_left, and_right, clash}
use Rattle.counting.proofs.Ranges.{every-at}
use Rattle.schedule.specs.Plan.{Sheet, Plan}
use Rattle.schedule.specs.ListPlan.{list_plan}
use Rattle.schedule.specs.TieRule.{Answer, wide, circular, planned, answer_of}
use Rattle.schedule.specs.Rows.{same_test, same_list, same_answer, same_plan, plan_of, Row, answers, places, Agree, Right, holds}

-- ---- the tests mean equality

test_same : (a b : Bool) → same_test a b ≡ true → a ≡ b
test_same true true e = refl
test_same true false e = clash false e refl
test_same false true e = clash false e refl
test_same false false e = refl

pub list_same : (l m : List ℕ) → same_list l m ≡ true → l ≡ m
list_same [] [] e = refl
list_same [] (b ∷ m) e = clash false e refl
list_same (a ∷ l) [] e = clash false e refl
list_same (a ∷ l) (b ∷ m) e = ap₂ ◌∷◌ (eqb-true a b (and_left (eqb a b) _ e)) (list_same l m (and_right (eqb a b) _ e))

answer_same : (a b : Answer) → same_answer a b ≡ true → a ≡ b
answer_same wide wide e = refl
answer_same wide circular e = clash false e refl
answer_same wide (planned o x) e = clash false e refl
answer_same circular wide e = clash false e refl
answer_same circular circular e = refl
answer_same circular (planned o x) e = clash false e refl
answer_same (planned o x) wide e = clash false e refl
answer_same (planned o x) circular e = clash false e refl
answer_same (planned o x) (planned p y) e =
    ap₂ planned (list_same o p (and_right (eqb x y) _ e)) (eqb-true x y (and_left (eqb x y) _ e))

plan_same : (S : Sheet) (P Q : Plan) → same_plan S P Q ≡ true → Agree S P Q
plan_same S P Q e = record {
  starts = λ j l. eqb-true _ _ (and_left (eqb (P.start j) (Q.start j)) _ (every-at S.jobs _ e j l));
  uses = λ j m l k. test_same _ _ (every-at S.modules (λ m. same_test (P.uses j m) (Q.uses j m))
      (and_right (eqb (P.start j) (Q.start j)) _ (every-at S.jobs _ e j l)) m k);
}

pub holds_right : (r : Row) → holds r ≡ true → Right r
holds_right (answers S a) e = answer_same (answer_of S) a e
holds_right (places S o l) e = plan_same S (list_plan S o) (plan_of l) e
