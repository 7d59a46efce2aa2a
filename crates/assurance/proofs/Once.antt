-- That each event stands in a list once, as a computed test.
use mathlib.Core.Path.{◌≡◌, refl}
use mathlib.Core.Logic.{◌⊎◌, inl, inr}
use mathlib.Core.Bool.{Bool, true, false, ◌&&◌}
use mathlib.Core.List.{List, [], ◌∷◌}
use Prim.Native.Nat.{ℕ, ◌≤◌, ◌<◌}
use native.Mathlib.Omega.{arith}
use lib.Dec.{ltb, eqb}
use borrow.Author.Tests.{ltb-true, eqb-true, lt-ltb, le-ltb, ne_eqb}
use Rattle.counting.specs.Counting.{only, every}
use Rattle.counting.proofs.Tests.{less-or-not, and_left, and_right}
use Rattle.counting.proofs.Ranges.{every-at}
use Rattle.assurance.specs.Following.{Event, begin, end, job_of, same_event, times}

-- every event of the list is one of a job below n
abbrev all_below : ℕ → List Event → Bool
all_below n [] = true
all_below n (e ∷ l) = ltb (job_of e) n && all_below n l

unfoldable pub each_once : ℕ → List Event → Bool
each_once n l = all_below n l && every n (λ j. eqb (times (begin j) l) 1 && eqb (times (end j) l) 1)

other-event : (e f : Event) → job_of f < job_of e → same_event e f ≡ false
other-event (begin i) (begin j) l = ne_eqb i j (λ q. absurd (omega arith))
other-event (begin i) (end j) l = refl
other-event (end i) (begin j) l = refl
other-event (end i) (end j) l = ne_eqb i j (λ q. absurd (omega arith))

absent : (n : ℕ) (l : List Event) → all_below n l ≡ true → (e : Event) → n ≤ job_of e → times e l ≡ 0
absent n [] q e k = refl
absent n (f ∷ l) q e k =
    let below = ltb-true (job_of f) n (and_left (ltb (job_of f) n) (all_below n l) q) in
    rw (other-event e f (omega arith)) (omega (arith, absent n l (and_right (ltb (job_of f) n) (all_below n l) q) e k))

module _ (n : ℕ) (l : List Event) (q : each_once n l ≡ true) where
  below_once : (e : Event) → job_of e < n → times e l ≡ 1
  unfolding each_once
  below_once (begin j) k =
      let t = every-at n (λ j. eqb (times (begin j) l) 1 && eqb (times (end j) l) 1) (and_right (all_below n l) _ q) j k in
      eqb-true _ 1 (and_left (eqb (times (begin j) l) 1) (eqb (times (end j) l) 1) t)
  below_once (end j) k =
      let t = every-at n (λ j. eqb (times (begin j) l) 1 && eqb (times (end j) l) 1) (and_right (all_below n l) _ q) j k in
      eqb-true _ 1 (and_right (eqb (times (begin j) l) 1) (eqb (times (end j) l) 1) t)

  -- The test says that each job below n begins once and ends once, and that no other does.
  pub once_says : (e : Event) → times e l ≡ only (ltb (job_of e) n) 1
  unfolding each_once
  once_says e = go (less-or-not (job_of e) n)
    where
      go : (job_of e < n) ⊎ (n ≤ job_of e) → times e l ≡ only (ltb (job_of e) n) 1
      go (inl k) = rw (lt-ltb (job_of e) n k) (below_once e k)
      go (inr k) = rw (le-ltb (job_of e) n k) (absent n l (and_left (all_below n l) _ q) e k)
