-- Jobs that must overlap: one that starts from a minute on, and so early that a chain which begins with it ends by minute T, has its modules
-- at every minute from T less that chain up to its first start and the minutes for which it keeps them, and all that have theirs at a minute
-- must find room beside each other.
use mathlib.Core.Bool.{true, false, not, ◌&&◌}
use Prim.Native.Nat.{ℕ, ◌+◌, ◌≤◌, ◌<◌}
use mathlib.Core.Path.{◌≡◌}
use native.Mathlib.Omega.{arith}
use lib.Dec.{leb}
use borrow.Author.Tests.{ltb-true, leb-true, lt-ltb, le-leb, not-true}
use Rattle.counting.specs.Counting.{only, sum}
use Rattle.counting.proofs.Tests.{and_left, and_right, and_both, only_mono}
use Rattle.counting.proofs.Sums.{sum-le}
use Rattle.schedule.specs.Plan.{Sheet, Plan}
use Rattle.schedule.specs.ListPlan.{PartPlan, occupied}
use Rattle.schedule.specs.Bounds.{kept, must_run}
use Rattle.schedule.proofs.Weights.{GoesOn, left, beside}

module _ (S : Sheet) (P : PartPlan) (l : ℕ) (Q : Plan) (h : GoesOn S P l Q) (m : ℕ) (on : l ≤ m) (T : ℕ) (from tail : ℕ → ℕ)
    (later : (k : ℕ) → k < S.jobs → P.placed k ≡ false → from k ≤ Q.start k)
    (soon : (k : ℕ) → k < S.jobs → Q.start k + tail k ≤ T) where
  runs_then : (k : ℕ) → k < S.jobs → (not (P.placed k) && must_run (from k) (tail k) T m (kept S k)) ≡ true
      → left S P l Q h m k ≡ true
  runs_then k x b =
      let p = and_left (not (P.placed k)) _ b in
      let r = and_right (not (P.placed k)) _ b in
      let late = leb-true T (m + tail k) (and_left (leb T (m + tail k)) _ r) in
      let early = ltb-true m (from k + kept S k) (and_right (leb T (m + tail k)) _ r) in
      let starts = later k x (not-true (P.placed k) p) in
      and_both _ _ p
      (and_both _ _ (le-leb (Q.start k) m (omega (arith, soon k x))) (lt-ltb m (Q.start k + kept S k) (omega arith)))

  -- What must run at a minute has room beside what is placed.
  pub must_fit : sum S.jobs (λ k. only (not (P.placed k) && must_run (from k) (tail k) T m (kept S k)) (S.need k)) + occupied S P m
      ≤ S.modules
  must_fit =
      let each = sum-le S.jobs (λ k. only (not (P.placed k) && must_run (from k) (tail k) T m (kept S k)) (S.need k))
      (λ k. only (left S P l Q h m k) (S.need k)) (λ k x. only_mono _ (left S P l Q h m k) (S.need k) (runs_then k x)) in
      omega (arith, each, beside S P l Q h m on)
