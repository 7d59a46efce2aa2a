-- Validity as a computed test; `test_valid` and `valid_test` say that it is the statement.
use mathlib.Core.Path.{◌≡◌, refl}
use mathlib.Core.Logic.{◌⊎◌, inl, inr, ◌≢◌, ⊎_elim}
use mathlib.Core.Bool.{Bool, true, false, not, ◌&&◌, ◌||◌}
use mathlib.Core.List.{List, [], ◌∷◌}
use Prim.Native.Nat.{ℕ, ◌+◌, ◌<◌}
use lib.Dec.{ltb, leb, eqb}
use borrow.Author.Tests.{ltb-true, leb-true, eqb-true, lt-ltb, le-leb, eq-eqb, ne_eqb, not-true, eqb-false}
use Rattle.counting.specs.Counting.{every}
use Rattle.counting.proofs.Tests.{and_left, and_right, and_both, implied, implication, not_of_false}
use Rattle.counting.proofs.Ranges.{every-at, every_intro}
use Rattle.schedule.specs.Plan.{Sheet, Plan, Valid, finish}
use Rattle.schedule.specs.Rows.{Slot, plan_of, same_test}
use Rattle.schedule.specs.ValidTest.{inside, enough, apart, shared, all_apart, after, arrived, all_of, is_valid}

-- ---- the test is the statement, where no set has a module from B on

five : (a b c d e : Bool) → (a && (b && (c && (d && e)))) ≡ true → (a ≡ true) × (b ≡ true) × (c ≡ true) × (d ≡ true) × (e ≡ true)
five a b c d e h =
    let r = and_right a (b && (c && (d && e))) h in
    let s = and_right b (c && (d && e)) r in
    let t = and_right c (d && e) s in
    (and_left a _ h, and_left b _ r, and_left c _ s, and_left d _ t, and_right d e t)

either : (a b : Bool) → (a || b) ≡ true → (a ≡ true) ⊎ (b ≡ true)
either true b e = inl refl
either false b e = inr e

or_intro : (a b : Bool) → (a ≡ true) ⊎ (b ≡ true) → (a || b) ≡ true
or_intro a b (inl e) = rw e
or_intro true b (inr e) = refl
or_intro false b (inr e) = e

module _ (B : ℕ) (S : Sheet) (P : Plan) where
  tested : is_valid B S P ≡ true → (j : ℕ) → j < S.jobs
      → (inside B S P j ≡ true) × (enough B S P j ≡ true) × (all_apart B S P j ≡ true) × (after B S P j ≡ true) × (arrived B S P j ≡ true)
  unfolding is_valid
  tested h j l =
      five (inside B S P j) (enough B S P j) (all_apart B S P j) (after B S P j) (arrived B S P j) (every-at S.jobs (all_of B S P) h j l)

  -- Where the test holds, the plan is valid,
  pub test_valid : ((j m : ℕ) → j < S.jobs → P.uses j m ≡ true → m < B) → is_valid B S P ≡ true → Valid S P
  test_valid below h = record {
    inside = λ j m l u. ltb-true m S.modules (implied (P.uses j m) _
        (every-at B (λ m. not (P.uses j m) || ltb m S.modules) (tested h j l).0 m (below j m l u)) u);
    enough = λ j l. eqb-true _ _ (tested h j l).1;
    apart = λ i j m l k d u v.
        let both : shared B S P i j m ≡ true = and_both _ _ (and_both _ _ (not_of_false (eqb i j) (ne_eqb i j d)) u) v in
        let e = every-at S.jobs (λ j. every B (λ m. not (shared B S P i j m) || apart B S P i j)) (tested h i l).2 j k in
        let one = implied (shared B S P i j m) _ (every-at B (λ m. not (shared B S P i j m) || apart B S P i j) e m (below i m l u)) both in
        ⊎_elim (λ x. inl (leb-true _ _ x)) (λ x. inr (leb-true _ _ x))
        (either (leb (finish S P i + S.rest) (P.start j)) (leb (finish S P j + S.rest) (P.start i)) one);
    after = λ i j l k b. leb-true _ _ (implied (S.before i j) _
        (every-at S.jobs (λ j. not (S.before i j) || leb (finish S P i) (P.start j)) (tested h i l).3 j k) b);
    arrived = λ j l. leb-true _ _ (tested h j l).4;
  }

  -- and where the plan is valid, the test holds.
  pub valid_test : Valid S P → is_valid B S P ≡ true
  unfolding is_valid
  valid_test v = every_intro S.jobs (all_of B S P) (λ j l.
      and_both _ _ (every_intro B _ (λ m k. implication (P.uses j m) _ (λ u. lt-ltb m S.modules (v.inside j m l u))))
      (and_both _ _ (eq-eqb _ _ (v.enough j l))
      (and_both _ _ (every_intro S.jobs _ (λ k n. every_intro B _ (λ m o. implication (shared B S P j k m) _ (two j k m l n))))
      (and_both _ _ (every_intro S.jobs _ (λ k n. implication (S.before j k) _ (λ b. le-leb _ _ (v.after j k l n b))))
      (le-leb _ _ (v.arrived j l))))))
    where
      two : (i j m : ℕ) → i < S.jobs → j < S.jobs → shared B S P i j m ≡ true → apart B S P i j ≡ true
      two i j m l k e =
          let a = and_left (not (eqb i j) && P.uses i m) (P.uses j m) e in
          let d : i ≢ j = eqb-false i j (not-true (eqb i j) (and_left (not (eqb i j)) _ a)) in
          let u = and_right (not (eqb i j)) (P.uses i m) a in
          let w = and_right (not (eqb i j) && P.uses i m) (P.uses j m) e in
          or_intro _ _ (⊎_elim (λ x. inl (le-leb _ _ x)) (λ x. inr (le-leb _ _ x)) (v.apart i j m l k d u w))

-- ---- plans written out

-- a plan, and whether it is valid
pub data Judged : Type 0 where
  judged : Sheet → List Slot → Bool → Judged

abbrev pub all_judged : List Judged → Bool
all_judged [] = true
all_judged (judged S l b ∷ r) = same_test (is_valid 8 S (plan_of l)) b && all_judged r
