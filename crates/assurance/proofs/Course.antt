-- What a controller that follows a plan holds: the needs of the jobs that have begun and not ended, never more than the sheet's modules.
use mathlib.Core.Path.{◌≡◌, refl, ap, ◌∙◌}
use mathlib.Core.Logic.{◌⊎◌, inl, inr}
use mathlib.Core.Bool.{Bool, true, false, not, ◌&&◌, ◌||◌, or-true}
use Prim.Native.Nat.{ℕ, ◌+◌, ◌≤◌, ◌<◌, zero-le}
use native.Mathlib.Omega.{arith}
use native.Mathlib.Nat.{le_refl}
use lib.Dec.{eqb}
use borrow.Author.Tests.{eqb-true, lt-ltb, le-leb, ne_eqb, not-true}
use Rattle.counting.specs.Counting.{only, sum}
use Rattle.counting.proofs.Tests.{true-or-false, clash, and_left, and_right, and_both, or_right}
use Rattle.counting.proofs.Sums.{sum-le, sum_same, sum-add, sum_single}
use Rattle.schedule.specs.Plan.{Sheet, Plan, Valid, finish, Lasting}
use Rattle.schedule.specs.ListPlan.{placing}
use Rattle.schedule.proofs.Timed.{runs}
use Rattle.schedule.proofs.Earliest.{load-le}
use Rattle.assurance.specs.Following.{begin, end}
use Rattle.assurance.proofs.Turns.{due, NotBefore}

-- the needs of the jobs that have begun (b) and not ended (e)
abbrev pub needed : Sheet → (ℕ → Bool) → (ℕ → Bool) → ℕ
needed S b e = sum S.jobs (λ i. only (b i && not (e i)) (S.need i))

-- jobs begin in the order of their starts, and only a job that has begun ends
pub record Course (S : Sheet) (P : Plan) (b e : ℕ → Bool) : Type 0 where
  pub sorted : (i k : ℕ) → i < S.jobs → k < S.jobs → b i ≡ true → b k ≡ false → P.start i ≤ P.start k
  pub begun : (i : ℕ) → i < S.jobs → e i ≡ true → b i ≡ true

module _ (S : Sheet) (P : Plan) (v : Valid S P) (w : Lasting S) (b e : ℕ → Bool) (h : Course S P b e) (j : ℕ) (l : j < S.jobs) where
  -- ---- the job begins

  module _ (new : b j ≡ false) where
    not_ended : e j ≡ false
    not_ended = go (true-or-false (e j))
      where
        go : (e j ≡ true) ⊎ (e j ≡ false) → e j ≡ false
        go (inl q) = clash (b j) (h.begun j l q) new
        go (inr q) = q

    -- what is held and the job's need fit the cabinet: all of them run at the job's start
    pub begin_fits : NotBefore S P b e (due S P (begin j)) → needed S b e + S.need j ≤ S.modules
    begin_fits x =
        let t = P.start j in
        let n = S.jobs in
        let each = sum-le n (λ i. only (b i && not (e i)) (S.need i) + only (eqb i j) (S.need i)) (λ i. only (runs S P t i) (S.need i))
        (λ i k. one i k (true-or-false (b i && not (e i))) (eqb i j) refl) in
        omega (
          arith,
          load-le S P v t,
          sum_single n S.need j l,
          sum-add n (λ i. only (b i && not (e i)) (S.need i)) (λ i. only (eqb i j) (S.need i)),
        )
      where
        running : (i : ℕ) → P.start i ≤ P.start j → P.start j < finish S P i + S.rest → runs S P (P.start j) i ≡ true
        running i p q = and_both _ _ (le-leb _ _ p) (lt-ltb _ _ q)

        one : (i : ℕ) → i < S.jobs → ((b i && not (e i)) ≡ true) ⊎ ((b i && not (e i)) ≡ false) → (c : Bool) → eqb i j ≡ c
            → only (b i && not (e i)) (S.need i) + only (eqb i j) (S.need i) ≤ only (runs S P (P.start j) i) (S.need i)
        one i k (inl a) c q =
            let p = and_left (b i) _ a in
            let n = not-true (e i) (and_right (b i) _ a) in
            let d : eqb i j ≡ false = ne_eqb i j (λ y. clash (b i) p (rw y new)) in
            rw (a, d, running i (h.sorted i j k l p new) (omega (arith, x.ends i k n))) (omega arith)
        one i k (inr a) true q =
            let y = eqb-true i j q in
            rw (a, q, running i (rw y (le_refl _)) (rw y (omega (arith, w j l)))) (omega arith)
        one i k (inr a) false q = rw (a, q) zero-le

    pub begin_needed : needed S (placing b j) e ≡ needed S b e + S.need j
    begin_needed =
        sum_same S.jobs _ _ (λ i k. one i (eqb i j) refl)
        ∙ sum-add S.jobs (λ i. only (b i && not (e i)) (S.need i)) (λ i. only (eqb i j) (S.need i))
        ∙ ap (λ x. needed S b e + x) (sum_single S.jobs S.need j l)
      where
        one : (i : ℕ) (c : Bool) → eqb i j ≡ c
            → only (placing b j i && not (e i)) (S.need i) ≡ only (b i && not (e i)) (S.need i) + only (eqb i j) (S.need i)
        one i true q =
            let y = eqb-true i j q in
            let p : b i ≡ false = rw y new in
            let r : e i ≡ false = rw y not_ended in
            rw (q, p, r) (omega arith)
        one i false q = rw q (omega arith)

    pub begin_course : NotBefore S P b e (due S P (begin j)) → Course S P (placing b j) e
    begin_course x = record {
      sorted = λ i k c d p q. one i k c d p (or_right (eqb k j) _ q) (eqb i j) refl;
      begun = λ i c q. ap (λ z. eqb i j || z) (h.begun i c q) ∙ or-true (eqb i j);
    }
      where
        one : (i k : ℕ) → i < S.jobs → k < S.jobs → placing b j i ≡ true → b k ≡ false
            → (z : Bool) → eqb i j ≡ z → P.start i ≤ P.start k
        one i k c d p q true y = rw (eqb-true i j y) (omega (arith, x.begins k d q))
        one i k c d p q false y = h.sorted i k c d (rw y at p) q

  -- ---- the job ends

  -- it has begun, since it lasts
  pub end_begun : NotBefore S P b e (due S P (end j)) → b j ≡ true
  end_begun x = go (true-or-false (b j))
    where
      go : (b j ≡ true) ⊎ (b j ≡ false) → b j ≡ true
      go (inl q) = q
      go (inr q) = absurd (omega (arith, x.begins j l q, w j l))

  module _ (began : b j ≡ true) where
    pub end_needed : e j ≡ false → needed S b e ≡ needed S b (placing e j) + S.need j
    end_needed new =
        sum_same S.jobs _ _ (λ i k. one i (eqb i j) refl)
        ∙ sum-add S.jobs (λ i. only (b i && not (placing e j i)) (S.need i)) (λ i. only (eqb i j) (S.need i))
        ∙ ap (λ x. needed S b (placing e j) + x) (sum_single S.jobs S.need j l)
      where
        one : (i : ℕ) (c : Bool) → eqb i j ≡ c
            → only (b i && not (e i)) (S.need i) ≡ only (b i && not (placing e j i)) (S.need i) + only (eqb i j) (S.need i)
        one i true q =
            let y = eqb-true i j q in
            let p : b i ≡ true = rw y began in
            let r : e i ≡ false = rw y new in
            rw (q, p, r) (omega arith)
        one i false q = rw q (omega arith)

    pub end_course : Course S P b (placing e j)
    end_course = record { sorted = h.sorted; begun = λ i c q. one i c q (eqb i j) refl }
      where
        one : (i : ℕ) → i < S.jobs → placing e j i ≡ true → (z : Bool) → eqb i j ≡ z → b i ≡ true
        one i c q true y = rw (eqb-true i j y) began
        one i c q false y = h.begun i c (rw y at q)
