-- What holds along an order: a placed job keeps its place, starts never fall, and each job comes once.
use mathlib.Core.Path.{◌≡◌, refl}
use mathlib.Core.Bool.{Bool, true, false}
use mathlib.Core.List.{List, [], ◌∷◌, ◌++◌}
use Prim.Native.Nat.{ℕ, ◌+◌, ◌≤◌, ◌<◌}
use native.Mathlib.Omega.{arith}
use lib.Dec.{eqb}
use borrow.Author.Tests.{eqb-true, eq-eqb, ne_eqb}
use Rattle.counting.specs.Counting.{only}
use Rattle.counting.proofs.Tests.{clash}
use Rattle.schedule.specs.Plan.{Sheet, Narrow}
use Rattle.schedule.specs.ListPlan.{Order, PartPlan, Follows, start_of, place, empty_part, place_all, list_plan, times}
use Rattle.schedule.proofs.Starts.{ready_says, start_may}
use Rattle.schedule.proofs.Sound.{completes_all, order_completes}

-- one order behind another
pub place_all-append : (S : Sheet) (P : PartPlan) (w o : List ℕ) → place_all S P (w ++ o) ≡ place_all S (place_all S P w) o
unfolding place_all
place_all-append S P [] o = refl
place_all-append S P (j ∷ w) o = place_all-append S (place S P j (start_of S P j)) w o

-- ---- a placed job keeps its place

pub record Kept (P Q : PartPlan) (i : ℕ) : Type 0 where
  pub placed : Q.placed i ≡ true
  pub start : Q.plan.start i ≡ P.plan.start i
  pub uses : (m : ℕ) → Q.plan.uses i m ≡ P.plan.uses i m

pub place_all_keeps : (S : Sheet) (P : PartPlan) (o : List ℕ) → Follows S P.placed o
    → (i : ℕ) → P.placed i ≡ true → Kept P (place_all S P o) i
unfolding place_all
place_all_keeps S P [] f i p = record { placed = p; start = refl; uses = λ m. refl }
place_all_keeps S P (j ∷ o) f i p =
    let r = ready_says S P.placed j f.0 in
    let e : eqb i j ≡ false = ne_eqb i j (λ y. clash (P.placed i) p (rw y r.new)) in
    let h = place_all_keeps S (place S P j (start_of S P j)) o f.1 i (rw e p) in
    record { placed = h.placed; start = rw e at h.start; uses = λ m. rw e at (h.uses m) }

-- the next job keeps the start that it is given
pub next_start-kept : (S : Sheet) (P : PartPlan) (j : ℕ) (o : List ℕ) → Follows S P.placed (j ∷ o)
    → (place_all S P (j ∷ o)).plan.start j ≡ start_of S P j
unfolding place_all
next_start-kept S P j o f =
    let self : eqb j j ≡ true = eq-eqb j j refl in
    let k = place_all_keeps S (place S P j (start_of S P j)) o f.1 j (rw self) in
    rw self at k.start

-- ---- starts never fall

-- along o the starts s rise from t on
abbrev pub Rising : (ℕ → ℕ) → ℕ → List ℕ → Type 0
Rising s t [] = Unit {0}
Rising s t (j ∷ o) = (t ≤ s j) × Rising s (s j) o

pub place_all_rising : (S : Sheet) → Narrow S → (P : PartPlan) (o : List ℕ) → Follows S P.placed o
    → Rising (place_all S P o).plan.start P.last o
unfolding place_all
place_all_rising S w P [] f = tt
place_all_rising S w P (j ∷ o) f =
    let g = start_may S P j (w j (ready_says S P.placed j f.0).job) in
    let same = next_start-kept S P j o f in
    (rw same g.later, rw same (place_all_rising S w (place S P j (start_of S P j)) o f.1))

-- The starts of a list plan never fall along its order.
pub list_plan_rising : (S : Sheet) → Narrow S → (o : List ℕ) → Order S o → Rising (list_plan S o).start 0 o
list_plan_rising S w o h = place_all_rising S w empty_part o h.follows

-- ---- each job once

-- a job that is placed at the end was placed before or stands in the rest, once
pub times-placed : (S : Sheet) (P : PartPlan) (o : List ℕ) → Follows S P.placed o
    → (i : ℕ) → times i o + only (P.placed i) 1 ≡ only ((place_all S P o).placed i) 1
unfolding place_all
times-placed S P [] f i = omega arith
times-placed S P (j ∷ o) f i = go (eqb i j) refl (times-placed S (place S P j (start_of S P j)) o f.1 i)
  where
    Q : PartPlan
    Q = place S P j (start_of S P j)

    go : (b : Bool) → eqb i j ≡ b → times i o + only (Q.placed i) 1 ≡ only ((place_all S Q o).placed i) 1
        → only (eqb i j) 1 + times i o + only (P.placed i) 1 ≡ only ((place_all S Q o).placed i) 1
    go true e h =
        let n : P.placed i ≡ false = rw (eqb-true i j e) (ready_says S P.placed j f.0).new in
        let h' : times i o + 1 ≡ only ((place_all S Q o).placed i) 1 = rw e at h in
        rw (e, n) (omega arith)
    go false e h =
        let h' : times i o + only (P.placed i) 1 ≡ only ((place_all S Q o).placed i) 1 = rw e at h in
        rw e (omega arith)

-- An order names each job once.
pub order_once : (S : Sheet) (o : List ℕ) → Order S o → (j : ℕ) → j < S.jobs → times j o ≡ 1
order_once S o h j l =
    let e = completes_all S empty_part o (order_completes S o h) j l in
    let t : times j o + 0 ≡ 1 = rw e at (times-placed S empty_part o h.follows j) in
    omega arith
