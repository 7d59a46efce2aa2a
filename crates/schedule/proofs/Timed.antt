-- Plans by their starts alone: where no minute's load passes the modules, the jobs that are left can be taken in the order of their
-- starts, and no job starts later.
use mathlib.Core.Path.{◌≡◌, refl, ap}
use mathlib.Core.Logic.{◌⊎◌, inl, inr, ⊎_elim, ◌≢◌}
use mathlib.Core.Bool.{Bool, true, false, not, ◌&&◌, ◌||◌, and-false}
use mathlib.Core.List.{List, [], ◌∷◌}
use Prim.Native.Nat.{ℕ, zero, suc, ◌+◌, ◌≤◌, ◌<◌, zero-le}
use native.Mathlib.Omega.{arith}
use native.Mathlib.Nat.{le_refl}
use lib.Dec.{ltb, leb, eqb}
use lib.ListN.{length}
use borrow.Author.Tests.{ltb-true, leb-true, eqb-true, lt-ltb, le-leb, lt-leb, le-ltb, ne_eqb, not-true}
use Rattle.counting.specs.Counting.{only, sum, count}
use Rattle.counting.proofs.Tests.{true-or-false, clash, and_left, and_right, and_both, or_right, not_of_false, only_mono}
use Rattle.counting.proofs.Sums.{sum-le, sum-add, sum_single, sum_insert, le-sum}
use Rattle.counting.proofs.Ranges.{argmin}
use Rattle.counting.proofs.Counts.{count_insert, count_full, count-not, count_none}
use Rattle.schedule.specs.Plan.{Sheet, Plan, finish, Narrow, Lasting}
use Rattle.schedule.specs.ListPlan.{PartPlan, Follows, occupies, start_of, place, place_all, MayStart, occupied}
use Rattle.schedule.specs.PartPlans.{Sound}
use Rattle.schedule.proofs.Starts.{Ready, ready_when, start-le, start_may}
use Rattle.schedule.proofs.Sound.{place_sound}
use Rattle.schedule.proofs.Occupied.{sum_room}

-- ---- the load of a plan

-- job i has its modules at minute t, or they rest
abbrev pub runs : Sheet → Plan → ℕ → ℕ → Bool
runs S P t i = leb (P.start i) t && ltb t (finish S P i + S.rest)

module _ (S : Sheet) (P : Plan) (k t : ℕ) where
  pub runs_on : P.start k ≤ t → t < finish S P k + S.rest → runs S P t k ≡ true
  runs_on a b = and_both _ _ (le-leb (P.start k) t a) (lt-ltb t (finish S P k + S.rest) b)

  pub runs-not_yet : t < P.start k → runs S P t k ≡ false
  runs-not_yet a = rw (lt-leb (P.start k) t a) refl

  pub runs_no_more : finish S P k + S.rest ≤ t → runs S P t k ≡ false
  runs_no_more a = rw (le-ltb t (finish S P k + S.rest) a) (and-false (leb (P.start k) t))

  pub runs_from : runs S P t k ≡ true → P.start k ≤ t
  runs_from e = leb-true (P.start k) t (and_left (leb (P.start k) t) _ e)

  pub runs_to : runs S P t k ≡ true → t < finish S P k + S.rest
  runs_to e = ltb-true t (finish S P k + S.rest) (and_right (leb (P.start k) t) _ e)

-- the modules that the jobs need at minute t
abbrev pub load : Sheet → Plan → ℕ → ℕ
load S P t = sum S.jobs (λ i. only (runs S P t i) (S.need i))

-- two jobs that run at the same minute
pub both_run : (S : Sheet) (Q : Plan) (t i k : ℕ) → i < S.jobs → k < S.jobs → k ≢ i → runs S Q t i ≡ true → runs S Q t k ≡ true
    → S.need i + S.need k ≤ load S Q t
both_run S Q t i k l m d p q =
    let two = sum_insert S.jobs (λ a. eqb a i) S.need k m (ne_eqb k i d) in
    let each = sum-le S.jobs (λ a. only (eqb a k || eqb a i) (S.need a)) (λ a. only (runs S Q t a) (S.need a))
    (λ a z. only_mono (eqb a k || eqb a i) (runs S Q t a) (S.need a) (one a (eqb a k) refl)) in
    omega (arith, sum_single S.jobs S.need i l)
  where
    one : (a : ℕ) (b : Bool) → eqb a k ≡ b → (eqb a k || eqb a i) ≡ true → runs S Q t a ≡ true
    one a true e h = rw (eqb-true a k e) q
    one a false e h = let z : eqb a i ≡ true = rw e at h in rw (eqb-true a i z) p

-- what a plan's starts have to keep: enough modules at every minute, earlier jobs, arrivals
pub record Timed (S : Sheet) (P : Plan) : Type 0 where
  pub room : (t : ℕ) → load S P t ≤ S.modules
  pub after : (i j : ℕ) → i < S.jobs → j < S.jobs → S.before i j ≡ true → finish S P i ≤ P.start j
  pub arrived : (j : ℕ) → j < S.jobs → S.arrival j ≤ P.start j

pub timed_narrow : (S : Sheet) (P : Plan) → Timed S P → Lasting S → Narrow S
timed_narrow S P v w j l =
    let t = P.start j in
    let here : runs S P t j ≡ true = and_both _ _ (le-leb t t (le_refl t)) (lt-ltb t (finish S P j + S.rest) (omega (arith, w j l))) in
    let own : S.need j ≤ load S P t = rw here at (le-sum S.jobs (λ i. only (runs S P t i) (S.need i)) j l) in
    omega (arith, v.room t)

-- ---- a part-plan that keeps up with a plan

-- A has placed the jobs that start first in Q, none later than Q does, and Q starts no other job before A's last start.
pub record KeepsUp (S : Sheet) (Q : Plan) (A : PartPlan) : Type 0 where
  pub starts : (i : ℕ) → i < S.jobs → A.placed i ≡ true → A.plan.start i ≤ Q.start i
  pub sorted : (i k : ℕ) → i < S.jobs → k < S.jobs → A.placed i ≡ true → A.placed k ≡ false → Q.start i ≤ Q.start k
  pub last : (k : ℕ) → k < S.jobs → A.placed k ≡ false → A.last ≤ Q.start k

module _ (S : Sheet) (Q : Plan) (v : Timed S Q) (w : Lasting S) where
  -- the next job of Q: one of those that are not placed and start first
  module _ (A : PartPlan) (s : Sound S A) (h : KeepsUp S Q A) (j : ℕ) (l : j < S.jobs) (new : A.placed j ≡ false)
      (first : (i : ℕ) → i < S.jobs → A.placed i ≡ false → Q.start j ≤ Q.start i) where
    next-ready : Ready S A.placed j
    next-ready = record { job = l; new = new; after = λ i k b. go i k b (true-or-false (A.placed i)) }
      where
        go : (i : ℕ) → i < S.jobs → S.before i j ≡ true → (A.placed i ≡ true) ⊎ (A.placed i ≡ false) → A.placed i ≡ true
        go i k b (inl e) = e
        go i k b (inr e) = absurd (omega (arith, v.after i j k l b, first i k e, w i k))

    running : (i : ℕ) → Q.start i ≤ Q.start j → Q.start j < finish S Q i + S.rest → runs S Q (Q.start j) i ≡ true
    running i a b = and_both _ _ (le-leb _ _ a) (lt-ltb _ _ b)

    -- what A still occupies when Q starts the job, and the job itself, run in Q
    counted : (i : ℕ) → i < S.jobs → (occupies S A (Q.start j) i ≡ true) ⊎ (occupies S A (Q.start j) i ≡ false)
        → (b : Bool) → eqb i j ≡ b
        → only (occupies S A (Q.start j) i) (S.need i) + only (eqb i j) (S.need i) ≤ only (runs S Q (Q.start j) i) (S.need i)
    counted i k (inl e) b q =
        let p = and_left (A.placed i) _ e in
        let z = ltb-true (Q.start j) (finish S A.plan i + S.rest) (and_right (A.placed i) _ e) in
        let x = h.starts i k p in
        let d : eqb i j ≡ false = ne_eqb i j (λ y. clash (A.placed i) p (rw y new)) in
        rw (e, d, running i (h.sorted i j k l p new) (omega arith)) (omega arith)
    counted i k (inr e) true q =
        let y = eqb-true i j q in
        rw (e, q, running i (rw y (le_refl _)) (rw y (omega (arith, w j l)))) (omega arith)
    counted i k (inr e) false q = rw (e, q) zero-le

    next-room : occupied S A (Q.start j) + S.need j ≤ S.modules
    unfolding occupied
    next-room =
        let t = Q.start j in
        let n = S.jobs in
        let both = sum-le n (λ i. only (occupies S A t i) (S.need i) + only (eqb i j) (S.need i)) (λ i. only (runs S Q t i) (S.need i))
        (λ i k. counted i k (true-or-false (occupies S A t i)) (eqb i j) refl) in
        let self = sum_single n S.need j l in
        omega (arith, v.room t, sum-add n (λ i. only (occupies S A t i) (S.need i)) (λ i. only (eqb i j) (S.need i)))

    next_may : MayStart S A j (Q.start j)
    next_may = record {
      later = h.last j l new;
      arrived = v.arrived j l;
      after = λ i k b. omega (arith, h.starts i k (next-ready.after i k b), v.after i j k l b);
      room = sum_room S A s j (Q.start j) (h.last j l new) next-room;
    }

    next_keeps_up : (t : ℕ) → t ≤ Q.start j → KeepsUp S Q (place S A j t)
    next_keeps_up t a = record {
      starts = λ i k. one i k (eqb i j) refl;
      sorted = λ i k c d p q. two i k c d p (or_right (eqb k j) _ q) (eqb i j) refl;
      last = λ k d q. omega (arith, first k d (or_right (eqb k j) _ q));
    }
      where
        one : (i : ℕ) → i < S.jobs → (b : Bool) → eqb i j ≡ b → (place S A j t).placed i ≡ true → (place S A j t).plan.start i ≤ Q.start i
        one i k true e p = rw (e, eqb-true i j e) a
        one i k false e p = let q : A.placed i ≡ true = rw e at p in rw e (h.starts i k q)

        two : (i k : ℕ) → i < S.jobs → k < S.jobs → (place S A j t).placed i ≡ true → A.placed k ≡ false
            → (b : Bool) → eqb i j ≡ b → Q.start i ≤ Q.start k
        two i k c d p y true e = rw (eqb-true i j e) (first k d y)
        two i k c d p y false e = let q : A.placed i ≡ true = rw e at p in h.sorted i k c d q y

  -- The jobs that are left, in the order of their starts in Q: none starts later than in Q.
  pub keep_up : (k : ℕ) (A : PartPlan) → Sound S A → KeepsUp S Q A → count S.jobs A.placed + k ≡ S.jobs
      → (o : List ℕ) × (length o ≡ k) × Follows S A.placed o × ((i : ℕ) → i < S.jobs → (place_all S A o).plan.start i ≤ Q.start i)
  unfolding place_all
  keep_up zero A s h c = ([], refl, tt, λ i l. h.starts i l (count_full S.jobs A.placed (omega arith) i l))
  keep_up (suc k) A s h c = ⊎_elim (λ r.
      let j = r.0 in
      let l = r.1 in
      let new : A.placed j ≡ false = not-true (A.placed j) r.2 in
      let first : (i : ℕ) → i < S.jobs → A.placed i ≡ false → Q.start j ≤ Q.start i =
      λ i l e. r.3 i l (not_of_false (A.placed i) e) in
      let d = next-ready A s h j l new first in
      let f = start-le S A j (Q.start j) (next_may A s h j l new first) in
      let rec = keep_up k (place S A j (start_of S A j))
      (place_sound S A s j _ d (start_may S A j (timed_narrow S Q v w j l)))
      (next_keeps_up A s h j l new first _ f) (omega (arith, count_insert S.jobs A.placed j l new)) in
      (j ∷ rec.0, ap suc rec.1, (ready_when S A.placed j d, rec.2), rec.3))
      (λ none. absurd (omega (arith, count-not S.jobs A.placed, count_none S.jobs _ none)))
      (argmin S.jobs (λ i. not (A.placed i)) Q.start)
