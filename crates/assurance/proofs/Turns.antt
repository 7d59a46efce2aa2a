-- The events of a plan in their order: when each is due, and what is left once the first is over.
use mathlib.Core.Path.{◌≡◌, refl}
use mathlib.Core.Logic.{◌⊎◌, inl, inr}
use mathlib.Core.Bool.{Bool, true, false, not, ◌&&◌}
use mathlib.Core.List.{List, [], ◌∷◌}
use Prim.Native.Nat.{ℕ, ◌+◌, ◌*◌, ◌≤◌, ◌<◌}
use native.Mathlib.Omega.{arith}
use native.Mathlib.Nat.{le_trans}
use lib.Dec.{ltb, eqb}
use borrow.Author.Tests.{ltb-true, lt-ltb, eqb-true, eq-eqb, not-true}
use Rattle.counting.specs.Counting.{only}
use Rattle.counting.proofs.Tests.{true-or-false, clash, and_left, and_right}
use Rattle.schedule.specs.Plan.{Sheet, Plan, finish}
use Rattle.schedule.specs.ListPlan.{placing}
use Rattle.assurance.specs.Following.{Event, begin, end, same_event, times, MayPrecede, InOrder}

-- ---- when an event is due

-- by its minute, and within a minute hand-backs before claims
abbrev pub due : Sheet → Plan → Event → ℕ
due S P (begin j) = P.start j * 2 + 1
due S P (end j) = (finish S P j + S.rest) * 2

module _ (S : Sheet) (P : Plan) where
  precede_due : (e f : Event) → MayPrecede S P e f → due S P e ≤ due S P f
  precede_due (begin i) (begin j) p = omega (arith, p.rising)
  precede_due (end i) (begin j) p = omega (arith, p.rising)
  precede_due (end i) (end j) p = omega (arith, p.rising)
  precede_due (begin i) (end j) p =
      let apart : P.start i ≡ finish S P j + S.rest → ⊥ = λ q. clash false (p.hand_backs_first q refl) refl in
      omega (arith, p.rising)

  same-event : (e f : Event) → same_event e f ≡ true → due S P f ≡ due S P e
  same-event (begin i) (begin j) q = rw (eqb-true i j q) refl
  same-event (begin i) (end j) q = clash false q refl
  same-event (end i) (begin j) q = clash false q refl
  same-event (end i) (end j) q = rw (eqb-true i j q) refl

  -- no event of the list is due before the first
  pub first_due : (e f : Event) (l : List Event) → InOrder S P (e ∷ l) → 0 < times f (e ∷ l) → due S P e ≤ due S P f
  first_due e f [] o n = go (true-or-false (same_event f e))
    where
      go : (same_event f e ≡ true) ⊎ (same_event f e ≡ false) → due S P e ≤ due S P f
      go (inl q) = omega (arith, same-event f e q)
      go (inr q) = let m : 0 < only false 1 + 0 = rw q at n in absurd (omega arith)
  first_due e f (g ∷ l) o n = go (true-or-false (same_event f e)) (first_due g f l o.1)
    where
      go : (same_event f e ≡ true) ⊎ (same_event f e ≡ false) → (0 < times f (g ∷ l) → due S P g ≤ due S P f) → due S P e ≤ due S P f
      go (inl q) rest = omega (arith, same-event f e q)
      go (inr q) rest =
          let m : 0 < only false 1 + times f (g ∷ l) = rw q at n in
          le_trans (precede_due e g o.0) (rest (omega arith))

-- ---- the events that are left

-- b are the jobs that have begun, e those that have ended, and l are the other events, each once, in order
pub record Left (S : Sheet) (P : Plan) (b e : ℕ → Bool) (l : List Event) : Type 0 where
  pub begins : (j : ℕ) → times (begin j) l ≡ only (not (b j) && ltb j S.jobs) 1
  pub ends : (j : ℕ) → times (end j) l ≡ only (not (e j) && ltb j S.jobs) 1
  pub order : InOrder S P l

-- no event that is left is due before k
pub record NotBefore (S : Sheet) (P : Plan) (b e : ℕ → Bool) (k : ℕ) : Type 0 where
  pub begins : (i : ℕ) → i < S.jobs → b i ≡ false → k ≤ due S P (begin i)
  pub ends : (i : ℕ) → i < S.jobs → e i ≡ false → k ≤ due S P (end i)

order_rest : (S : Sheet) (P : Plan) (x : Event) (l : List Event) → InOrder S P (x ∷ l) → InOrder S P l
order_rest S P x [] o = tt
order_rest S P x (y ∷ l) o = o.1

-- one event is taken from those of its kind: d are the jobs of which it is over, and t counts it in the rest
module _ (n j : ℕ) (d : ℕ → Bool) (t : ℕ → ℕ) (once : (i : ℕ) → only (eqb i j) 1 + t i ≡ only (not (d i) && ltb i n) 1) where
  taken : ((not (d j) && ltb j n) ≡ true) × (t j ≡ 0)
  taken = go (not (d j) && ltb j n) refl
    where
      go : (x : Bool) → (not (d j) && ltb j n) ≡ x → ((not (d j) && ltb j n) ≡ true) × (t j ≡ 0)
      go true q = (q, let z : 1 + t j ≡ 1 = rw (eq-eqb j j refl, q) at (once j) in omega arith)
      go false q = let z : 1 + t j ≡ 0 = rw (eq-eqb j j refl, q) at (once j) in absurd (omega arith)

  taken-job : j < n
  taken-job = ltb-true j n (and_right (not (d j)) _ taken.0)

  taken_new : d j ≡ false
  taken_new = not-true (d j) (and_left (not (d j)) (ltb j n) taken.0)

  taken_rest : (i : ℕ) → t i ≡ only (not (placing d j i) && ltb i n) 1
  taken_rest i = go (eqb i j) refl
    where
      go : (x : Bool) → eqb i j ≡ x → t i ≡ only (not (placing d j i) && ltb i n) 1
      go true q = rw (q, eqb-true i j q) taken.1
      go false q = let z : only false 1 + t i ≡ only (not (d i) && ltb i n) 1 = rw q at (once i) in rw q (omega arith)

module _ (S : Sheet) (P : Plan) (b e : ℕ → Bool) (x : Event) (l : List Event) (h : Left S P b e (x ∷ l)) where
  -- what is left is not due before the first of it
  pub first_of_left : NotBefore S P b e (due S P x)
  first_of_left = record {
    begins = λ i k q. first_due S P x (begin i) l h.order (omega (arith, h.begins i, counted (b i) i q k));
    ends = λ i k q. first_due S P x (end i) l h.order (omega (arith, h.ends i, counted (e i) i q k));
  }
    where
      counted : (d : Bool) (i : ℕ) → d ≡ false → i < S.jobs → only (not d && ltb i S.jobs) 1 ≡ 1
      counted d i q k = rw (q, lt-ltb i S.jobs k) refl

module _ (S : Sheet) (P : Plan) (b e : ℕ → Bool) (j : ℕ) (l : List Event) where
  -- a job begins
  module _ (h : Left S P b e (begin j ∷ l)) where
    pub begins-job : j < S.jobs
    begins-job = taken-job S.jobs j b (λ i. times (begin i) l) h.begins

    pub begins_new : b j ≡ false
    begins_new = taken_new S.jobs j b (λ i. times (begin i) l) h.begins

    pub after_begin : Left S P (placing b j) e l
    after_begin = record {
      begins = taken_rest S.jobs j b (λ i. times (begin i) l) h.begins;
      ends = λ i. omega (arith, h.ends i);
      order = order_rest S P (begin j) l h.order;
    }

  -- a job ends
  module _ (h : Left S P b e (end j ∷ l)) where
    pub ends-job : j < S.jobs
    ends-job = taken-job S.jobs j e (λ i. times (end i) l) h.ends

    pub ends_new : e j ≡ false
    ends_new = taken_new S.jobs j e (λ i. times (end i) l) h.ends

    pub after_end : Left S P b (placing e j) l
    after_end = record {
      begins = λ i. omega (arith, h.begins i);
      ends = taken_rest S.jobs j e (λ i. times (end i) l) h.ends;
      order = order_rest S P (end j) l h.order;
    }
