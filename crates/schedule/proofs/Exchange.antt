-- Two jobs of one width moved within a plan: where together they run at no other minutes than before, no minute's load rises, and the
-- plan keeps to the sheet where the two jobs do.
use mathlib.Core.Path.{◌≡◌, refl, sym}
use mathlib.Core.Logic.{◌≢◌, ⊎_elim}
use mathlib.Core.Bool.{true, false, cond}
use Prim.Native.Nat.{ℕ, ◌+◌, ◌≤◌, ◌<◌}
use native.Mathlib.Omega.{arith}
use native.Mathlib.Nat.{le_refl, le_trans}
use lib.Dec.{eqb}
use borrow.Author.Tests.{eq-eqb, ne_eqb}
use Rattle.counting.specs.Counting.{only}
use Rattle.counting.proofs.Tests.{same_or_not}
use Rattle.counting.proofs.Sums.{sum_two-le}
use Rattle.counting.proofs.Ranges.{le-largest, largest-le}
use Rattle.schedule.specs.Plan.{Sheet, Plan, finish, plan_end}
use Rattle.schedule.proofs.Timed.{runs, load, Timed}

-- what holds of i, of j and of each other number holds of each
pub of_each : {C : ℕ → Type 0} (i j : ℕ) → C i → C j → ((k : ℕ) → k ≢ i → k ≢ j → C k) → (k : ℕ) → C k
of_each i j x y h k = ⊎_elim (λ e. rw e x) (λ n. ⊎_elim (λ e. rw e y) (h k n) (same_or_not k j)) (same_or_not k i)

-- job i from minute a on, job j from minute b on, the others as in Q
abbrev pub exchanged : Plan → ℕ → ℕ → ℕ → ℕ → Plan
exchanged Q i a j b = record { start = λ k. cond (eqb k i) a (cond (eqb k j) b (Q.start k)); uses = Q.uses }

module _ (Q : Plan) (i a j b : ℕ) (d : i ≢ j) where
  pub start_one : (exchanged Q i a j b).start i ≡ a
  start_one = let e : eqb i i ≡ true = eq-eqb i i refl in rw e refl

  pub start_two : (exchanged Q i a j b).start j ≡ b
  start_two =
      let e : eqb j i ≡ false = ne_eqb j i (λ x. d (sym x)) in
      let f : eqb j j ≡ true = eq-eqb j j refl in
      rw (e, f) refl

  pub start_other : (k : ℕ) → k ≢ i → k ≢ j → (exchanged Q i a j b).start k ≡ Q.start k
  start_other k x y = rw (ne_eqb k i x, ne_eqb k j y) refl

  module _ (S : Sheet) (q : Timed S Q) (l : i < S.jobs) (m : j < S.jobs) where
    abbrev R : Plan
    R = exchanged Q i a j b

    -- both start behind their earlier jobs, and end before those that wait for them
    pub exchange_timed : S.need i ≡ S.need j
        → ((t : ℕ) → only (runs S R t i) (S.need i) + only (runs S R t j) (S.need i)
        ≤ only (runs S Q t i) (S.need i) + only (runs S Q t j) (S.need i))
        → ((k : ℕ) → k < S.jobs → S.before k i ≡ true → finish S R k ≤ a)
        → ((k : ℕ) → k < S.jobs → S.before k j ≡ true → finish S R k ≤ b)
        → ((k : ℕ) → k < S.jobs → S.before i k ≡ true → a + S.minutes i ≤ Q.start k)
        → ((k : ℕ) → k < S.jobs → S.before j k ≡ true → b + S.minutes j ≤ Q.start k)
        → S.arrival i ≤ a → S.arrival j ≤ b → Timed S R
    exchange_timed same two before_i before_j behind-i behind-j arrived-i arrived-j = record {
      room = room;
      after = λ x k lx. of_each {C = λ k. k < S.jobs → S.before x k ≡ true → finish S R x ≤ R.start k} i j
          (λ lk e. omega (arith, start_one, before_i x lx e)) (λ lk e. omega (arith, start_two, before_j x lx e))
          (λ k ni nj lk e. omega (arith, start_other k ni nj, behind k lk x lx e)) k;
      arrived = of_each {C = λ k. k < S.jobs → S.arrival k ≤ R.start k} i j (λ lk. omega (arith, start_one))
          (λ lk. omega (arith, start_two)) (λ k ni nj lk. omega (arith, start_other k ni nj, q.arrived k lk));
    }
      where
        room : (t : ℕ) → load S R t ≤ S.modules
        room t =
            le_trans
            (sum_two-le S.jobs (λ k. only (runs S R t k) (S.need k)) (λ k. only (runs S Q t k) (S.need k)) i j l m d
            (rw (← same) (two t)) (λ k x y z. rw (start_other k y z) (le_refl _)))
            (q.room t)

        behind : (k : ℕ) → k < S.jobs → (x : ℕ) → x < S.jobs → S.before x k ≡ true → finish S R x ≤ Q.start k
        behind k lk = of_each {C = λ x. x < S.jobs → S.before x k ≡ true → finish S R x ≤ Q.start k} i j
            (λ lx e. omega (arith, start_one, behind-i k lk e)) (λ lx e. omega (arith, start_two, behind-j k lk e))
            (λ x ni nj lx e. omega (arith, start_other x ni nj, q.after x k lx lk e))

    pub exchange_ends : a + S.minutes i ≤ plan_end S Q → b + S.minutes j ≤ plan_end S Q → plan_end S R ≤ plan_end S Q
    exchange_ends x y = largest-le S.jobs (finish S R) (plan_end S Q)
        (of_each {C = λ k. k < S.jobs → finish S R k ≤ plan_end S Q} i j (λ lk. omega (arith, start_one)) (λ lk. omega (arith, start_two))
        (λ k ni nj lk. omega (arith, start_other k ni nj, le-largest S.jobs (finish S Q) k lk)))
