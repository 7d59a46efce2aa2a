-- List plans are valid: what the placed jobs of a part-plan keep, and that placing one more job keeps it.
use mathlib.Core.Path.{◌≡◌, refl, sym, ap, ◌∙◌}
use mathlib.Core.Logic.{◌⊎◌, inl, inr, ◌≢◌}
use mathlib.Core.Bool.{Bool, true, false, ◌&&◌}
use mathlib.Core.List.{List, [], ◌∷◌}
use Prim.Native.Nat.{ℕ, ◌+◌, ◌≤◌, ◌<◌, zero-le}
use native.Mathlib.Omega.{arith}
use native.Mathlib.Nat.{le_refl, le_trans}
use lib.Dec.{ltb, eqb}
use borrow.Author.Tests.{ltb-true, ltb-false, eqb-true, lt-ltb, eq-eqb, ne_eqb, not-true}
use Rattle.counting.specs.Counting.{only, count}
use Rattle.counting.proofs.Tests.{true-or-false, clash, and_left, and_right, and_both, only-le}
use Rattle.counting.proofs.Ranges.{le-largest, largest-le, any_none}
use Rattle.counting.proofs.Counts.{count_full, count_insert, count-lowest, count_none, count_same}
use Rattle.schedule.specs.Plan.{Sheet, Valid, finish, plan_end, Narrow}
use Rattle.schedule.specs.ListPlan.{Order, PartPlan, no_jobs, Follows, occupies, free, lowest, start_of, MayStart}
use Rattle.schedule.specs.ListPlan.{place, empty_part, place_all, part_of, list_plan}
use Rattle.schedule.specs.PartPlans.{part_end, Sound, Completes}
use Rattle.schedule.proofs.Starts.{Ready, ready_says, start_may}

pub part_end-le : (S : Sheet) (P : PartPlan) → part_end S P ≤ plan_end S P.plan
part_end-le S P =
    largest-le S.jobs _ _ (λ i l. le_trans (only-le (P.placed i) _) (le-largest S.jobs (finish S P.plan) i l))

-- ---- one job more

module _ (S : Sheet) (P : PartPlan) (h : Sound S P) (j t : ℕ) (r : Ready S P.placed j) (f : MayStart S P j t) where
  abbrev taken : ℕ → Bool
  taken = lowest S.modules (free S P t) (S.need j)

  -- it takes as many modules as it needs
  taken-count : count S.modules taken ≡ S.need j
  taken-count =
      let N = S.modules in
      let drop = count_same N taken (λ m. free S P t m && ltb (count m (free S P t)) (S.need j))
      (λ m l. ap (λ b. b && free S P t m && ltb (count m (free S P t)) (S.need j)) (lt-ltb m N l)) in
      omega (arith, count-lowest N (free S P t) (S.need j), f.room)

  taken_free : (m : ℕ) → taken m ≡ true → free S P t m ≡ true
  taken_free m e = and_right (ltb m S.modules) _ (and_left (ltb m S.modules && free S P t m) _ e)

  -- a placed job with a module that is free has given it up
  given_up : (i m : ℕ) → i < S.jobs → P.placed i ≡ true → P.plan.uses i m ≡ true → free S P t m ≡ true
      → finish S P.plan i + S.rest ≤ t
  given_up i m l p u e = go (true-or-false (ltb t (finish S P.plan i + S.rest)))
    where
      go : (ltb t (finish S P.plan i + S.rest) ≡ true) ⊎ (ltb t (finish S P.plan i + S.rest) ≡ false)
          → finish S P.plan i + S.rest ≤ t
      go (inr q) = ltb-false _ _ q
      go (inl q) = clash (occupies S P t i && P.plan.uses i m) (and_both _ _ (and_both _ _ p q) u)
          (any_none S.jobs (λ i. occupies S P t i && P.plan.uses i m) (not-true _ e) i l)

  other : (i : ℕ) → P.placed i ≡ true → eqb i j ≡ false
  other i p = ne_eqb i j (λ y. clash (P.placed i) p (rw y r.new))

  abbrev Q : PartPlan
  Q = place S P j t

  place_inside : (i m : ℕ) → i < S.jobs → (b : Bool) → eqb i j ≡ b → Q.placed i ≡ true → Q.plan.uses i m ≡ true → m < S.modules
  place_inside i m l true e p u =
      let x : taken m ≡ true = rw e at u in
      ltb-true m S.modules (and_left (ltb m S.modules) _ (and_left (ltb m S.modules && free S P t m) _ x))
  place_inside i m l false e p u = h.inside i m l (rw e at p) (rw e at u)

  place-enough : (i : ℕ) → i < S.jobs → (b : Bool) → eqb i j ≡ b → Q.placed i ≡ true → count S.modules (Q.plan.uses i) ≡ S.need i
  place-enough i l true e p = rw (e, eqb-true i j e) taken-count
  place-enough i l false e p = rw e (h.enough i l (rw e at p))

  place-apart : (i k m : ℕ) → i < S.jobs → k < S.jobs → (b : Bool) → eqb i j ≡ b → (c : Bool) → eqb k j ≡ c
      → Q.placed i ≡ true → Q.placed k ≡ true → i ≢ k → Q.plan.uses i m ≡ true → Q.plan.uses k m ≡ true
      → (finish S Q.plan i + S.rest ≤ Q.plan.start k) ⊎ (finish S Q.plan k + S.rest ≤ Q.plan.start i)
  place-apart i k m a b true e true q p p' d u u' = absurd (d (eqb-true i j e ∙ sym (eqb-true k j q)))
  place-apart i k m a b true e false q p p' d u u' = rw (e, q) (inr (given_up k m b (rw q at p') (rw q at u') (taken_free m (rw e at u))))
  place-apart i k m a b false e true q p p' d u u' = rw (e, q) (inl (given_up i m a (rw e at p) (rw e at u) (taken_free m (rw q at u'))))
  place-apart i k m a b false e false q p p' d u u' =
      rw (e, q) (h.apart i k m a b (rw e at p) (rw q at p') d (rw e at u) (rw q at u'))

  place_after : (i k : ℕ) → i < S.jobs → k < S.jobs → (b : Bool) → eqb k j ≡ b → Q.placed k ≡ true → S.before i k ≡ true
      → (Q.placed i ≡ true) × (finish S Q.plan i ≤ Q.plan.start k)
  place_after i k a b true e p c =
      let c' : S.before i j ≡ true = rw (eqb-true k j e) at c in
      let x = r.after i a c' in
      rw (e, other i x) (x, f.after i a c')
  place_after i k a b false e p c =
      let x = h.after i k a b (rw e at p) c in
      rw (e, other i x.0) x

  place-arrived : (i : ℕ) → i < S.jobs → (b : Bool) → eqb i j ≡ b → Q.placed i ≡ true → S.arrival i ≤ Q.plan.start i
  place-arrived i l true e p = rw (e, eqb-true i j e) f.arrived
  place-arrived i l false e p = rw e (h.arrived i l (rw e at p))

  place_early : (i : ℕ) → i < S.jobs → (b : Bool) → eqb i j ≡ b → Q.placed i ≡ true → Q.plan.start i ≤ t
  place_early i l true e p = rw e (le_refl t)
  place_early i l false e p = rw e (le_trans (h.early i l (rw e at p)) f.later)

  place_ended : t ≤ part_end S Q
  place_ended =
      let e = le-largest S.jobs (λ i. only (Q.placed i) (finish S Q.plan i)) j r.job in
      let g : t + S.minutes j ≤ part_end S Q = rw (eq-eqb j j refl) at e in
      omega arith

  pub place_sound : Sound S (place S P j t)
  place_sound = record {
    inside = λ i m l. place_inside i m l (eqb i j) refl;
    enough = λ i l. place-enough i l (eqb i j) refl;
    apart = λ i k m a b. place-apart i k m a b (eqb i j) refl (eqb k j) refl;
    after = λ i k a b. place_after i k a b (eqb k j) refl;
    arrived = λ i l. place-arrived i l (eqb i j) refl;
    early = λ i l. place_early i l (eqb i j) refl;
    ended = place_ended;
  }

-- ---- whole orders

pub empty_sound : (S : Sheet) → Sound S empty_part
empty_sound S = record {
  inside = λ j m l e. clash false e refl;
  enough = λ j l e. clash false e refl;
  apart = λ i j m l k e. clash false e refl;
  after = λ i j l k e. clash false e refl;
  arrived = λ j l e. clash false e refl;
  early = λ j l e. clash false e refl;
  ended = zero-le;
}

pub place_all_sound : (S : Sheet) → Narrow S → (P : PartPlan) (o : List ℕ) → Sound S P → Follows S P.placed o → Sound S (place_all S P o)
unfolding place_all
place_all_sound S w P [] h f = h
place_all_sound S w P (j ∷ o) h f =
    let r = ready_says S P.placed j f.0 in
    place_all_sound S w (place S P j (start_of S P j)) o (place_sound S P h j _ r (start_may S P j (w j r.job))) f.1

pub part_sound : (S : Sheet) → Narrow S → (w : List ℕ) → Follows S no_jobs w → Sound S (part_of S w)
part_sound S n w f = place_all_sound S n empty_part w (empty_sound S) f

-- an order that completes a part-plan places every job
pub completes_all : (S : Sheet) (P : PartPlan) (o : List ℕ) → Completes S P o → (i : ℕ) → i < S.jobs → (place_all S P o).placed i ≡ true
unfolding place_all
completes_all S P [] (f, c) = count_full S.jobs P.placed (omega arith)
completes_all S P (j ∷ o) (f, c) =
    let r = ready_says S P.placed j f.0 in
    completes_all S (place S P j (start_of S P j)) o (f.1, omega (arith, count_insert S.jobs P.placed j r.job r.new))

pub order_completes : (S : Sheet) (o : List ℕ) → Order S o → Completes S empty_part o
order_completes S o h = (h.follows, omega (arith, h.all, count_none S.jobs no_jobs (λ i l. refl)))

pub complete_valid : (S : Sheet) (P : PartPlan) → Sound S P → ((i : ℕ) → i < S.jobs → P.placed i ≡ true) → Valid S P.plan
complete_valid S P s f = record {
  inside = λ j m l. s.inside j m l (f j l);
  enough = λ j l. s.enough j l (f j l);
  apart = λ i j m l k. s.apart i j m l k (f i l) (f j k);
  after = λ i j l k b. (s.after i j l k (f j k) b).1;
  arrived = λ j l. s.arrived j l (f j l);
}

-- The list plan of an order is a valid plan.
pub list_plan_valid : (S : Sheet) → Narrow S → (o : List ℕ) → Order S o → Valid S (list_plan S o)
list_plan_valid S w o h =
    complete_valid S (part_of S o) (part_sound S w o h.follows) (completes_all S empty_part o (order_completes S o h))
