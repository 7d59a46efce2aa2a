-- What is promised of starts and steps: their numbers, exactly; what a refused step leaves; what a step does when all is over; and that
-- the steps' calls follow the plan.
use mathlib.Core.Path.{◌≡◌, refl, sym, subst}
use mathlib.Core.Logic.{◌⊎◌, inl, inr, ⊎_elim, ◌↔◌, ◌≢◌}
use mathlib.Core.Bool.{Bool, true, false, not, cond, or-true}
use mathlib.Core.List.{List, [], ◌∷◌, ◌++◌}
use Prim.Native.Nat.{ℕ, zero, suc, ◌*◌, ◌<◌}
use native.Mathlib.Omega.{arith}
use lib.Dec.{eqb}
use borrow.Author.Tests.{ne_eqb, leb-true}
use Rattle.counting.specs.Counting.{joined, every}
use Rattle.counting.proofs.Tests.{true-or-false, clash, or_left}
use Rattle.checking.specs.Checking.{first_failing, FirstFails, NoneFails}
use Rattle.checking.proofs.Order.{refused_exactly, answered_exactly}
use Rattle.schedule.specs.Plan.{Sheet, Plan}
use Rattle.sheet_format.specs.Checks.{outside}
use Rattle.planable.specs.Planable.{planable_refusal}
use Rattle.desk.specs.declared.Desk.{Desk}
use Rattle.desk.specs.Checks.{not_of_desk, for_nothing, passes_ceiling, does_not_fit, exceeds_holding}
use Rattle.desk.specs.Reachable.{Reachable}
use Rattle.desk.specs.Calls.{Call, claim, hand_back, look, change, claim_refusal, claimed, hand_back_refusal, handed_back, refusal_of, desk_after, granted}
use Rattle.desk.proofs.Sound.{of-desk_says, of-desk}
use Rattle.desk.proofs.Reaches.{sound_reached, reached_sound}
use Rattle.desk.proofs.Lists.{reachable-after}
use Rattle.desk.proofs.Holdings.{one-count}
use Rattle.assurance.specs.Following.{begin, end, minute, FollowsPlan}
use Rattle.assurance.specs.Minutes.{hand_backs_due, claims_due, due_calls, last_minute, first_refusal}
use Rattle.assurance.proofs.Follows.{minutes_follow}
use Rattle.runner.specs.declared.Runner.{Runner}
use Rattle.runner.specs.Runner.{sheet_of, plan_of, no_runner, with_minute, start_checks, start_refusal, due_now, over, kept_ok, runner_ok}
use Rattle.runner.specs.Runner.{zeros_behind, not_of_runner, step_refusal, stepped}
use Rattle.runner.specs.Reachable.{LeftBySteps}
use Rattle.runner.proofs.Running.{none_due}
use Rattle.runner.proofs.Reaches.{runner_when}

-- ---- a start

-- A start gives k exactly where check k fails and none before it does,
pub start-refused : (s card : List ℕ) (d : Desk) (c size k : ℕ) → 0 < k
    → (start_refusal s card d c size ≡ k) ↔ FirstFails (start_checks s card d c size) k
unfolding start_refusal
start-refused s card d c size k h = refused_exactly (start_checks s card d c size) k h

-- and is accepted exactly where none fails.
pub start-answered : (s card : List ℕ) (d : Desk) (c size : ℕ)
    → (start_refusal s card d c size ≡ 0) ↔ NoneFails (start_checks s card d c size)
unfolding start_refusal
start-answered s card d c size = answered_exactly (start_checks s card d c size) refl

-- ---- a step

module _ (d : Desk) (r : Runner) where
  -- "leaves desk and runner as before it"
  pub refused-step_leaves : (stepped d r).refusal ≢ 0 → ((stepped d r).desk ≡ d) × ((stepped d r).runner ≡ r)
  unfolding stepped
  refused-step_leaves n = let e = ne_eqb (step_refusal d r) 0 n in (rw e refl, rw e refl)

  -- "a step after the last hand-back, or for a sheet without jobs, makes no call and changes nothing"
  pub over_changes_nothing : not_of_runner d r ≡ false → over r ≡ true
      → (due_now r ≡ []) × (stepped d r ≡ record { refusal = 0; desk = d; runner = r })
  unfolding stepped step_refusal
  over_changes_nothing e o =
      let none = none_due (sheet_of r) (plan_of r) r.size r.controller r.minute (leb-true _ _ o) in
      (none, rw (e, none, o) refl)

-- The calls of a runner's steps, minute by minute, are a list of calls that follows its plan.
pub runner-follows : (r : Runner)
    → FollowsPlan (sheet_of r) (plan_of r) r.size r.controller
    (joined (last_minute (sheet_of r) (plan_of r)) (λ t. due_now (with_minute r t)))
runner-follows r = minutes_follow (sheet_of r) (plan_of r) r.size r.controller

-- ---- 14

-- the call is a claim or a hand-back of controller c
abbrev Own : ℕ → Call → Type 0
Own c (claim b k) = b ≡ c
Own c (hand_back b k) = b ≡ c
Own c (look b) = ⊥
Own c (change l a t) = ⊥

abbrev AllOwn : ℕ → List Call → Type 0
AllOwn c [] = Unit {0}
AllOwn c (x ∷ l) = Own c x × AllOwn c l

own-append : (c : ℕ) (l m : List Call) → AllOwn c l → AllOwn c m → AllOwn c (l ++ m)
own-append c [] m a b = b
own-append c (x ∷ l) m a b = (a.0, own-append c l m a.1 b)

own_joined : (c n : ℕ) (f : ℕ → List Call) → ((j : ℕ) → AllOwn c (f j)) → AllOwn c (joined n f)
unfolding joined
own_joined c zero f h = tt
own_joined c (suc n) f h = own-append c (joined n f) (f n) (own_joined c n f h) (h n)

own_due : (S : Sheet) (P : Plan) (s c t : ℕ) → AllOwn c (due_calls S P s c t)
unfolding due_calls
own_due S P s c t =
    own-append c (hand_backs_due S P s c t) (claims_due S P s c t)
    (own_joined c S.jobs _ (λ j. one (eqb (minute S P (end j)) t) (hand_back c (S.need j * s)) refl))
    (own_joined c S.jobs _ (λ j. one (eqb (minute S P (begin j)) t) (claim c (S.need j * s)) refl))
  where
    one : (b : Bool) (x : Call) → Own c x → AllOwn c (cond b (x ∷ []) [])
    one true x o = (o, tt)
    one false x o = tt

-- on a desk that can be, 14 does not refuse it
module _ (d : Desk) (c : ℕ) (w : not_of_desk d c ≡ false) where
  claim-not_14 : (k : ℕ) → refusal_of d (claim c k) ≢ 14
  unfolding claimed claim_refusal first_failing
  claim-not_14 k q = rest (for_nothing k) (passes_ceiling d c k) (does_not_fit d c k) (rw w at q)
    where
      rest : (x y z : Bool) → cond {A = ℕ} x 15 (cond y 16 (cond z 17 0)) ≢ 14
      rest true y z r = absurd (omega arith)
      rest false true z r = absurd (omega arith)
      rest false false true r = absurd (omega arith)
      rest false false false r = absurd (omega arith)

  hand_back-not_14 : (k : ℕ) → refusal_of d (hand_back c k) ≢ 14
  unfolding handed_back hand_back_refusal first_failing
  hand_back-not_14 k q = rest (for_nothing k) (exceeds_holding d c k) (rw w at q)
    where
      rest : (x y : Bool) → cond {A = ℕ} x 15 (cond y 18 0) ≢ 14
      rest true y r = absurd (omega arith)
      rest false true r = absurd (omega arith)
      rest false false r = absurd (omega arith)

  own-not_14 : (x : Call) → Own c x → refusal_of d x ≢ 14
  own-not_14 (claim b k) e = subst (λ (i : ℕ). refusal_of d (claim i k) ≢ 14) (sym e) (claim-not_14 k)
  own-not_14 (hand_back b k) e = subst (λ (i : ℕ). refusal_of d (hand_back i k) ≢ 14) (sym e) (hand_back-not_14 k)
  own-not_14 (look b) e = absurd e
  own-not_14 (change l a t) e = absurd e

first-not_14 : (c : ℕ) (l : List Call) {d : Desk} → Reachable d → c < d.count → AllOwn c l → first_refusal d l ≢ 14
first-not_14 c [] r k o q = absurd (omega arith)
first-not_14 c (x ∷ l) {d} r k o q = go (granted d x) refl (first-not_14 c l (reachable-after r x) (rw (one-count d x) k) o.1)
  where
    go : (b : Bool) → granted d x ≡ b → first_refusal (desk_after d x) l ≢ 14 → ⊥
    go true e rest = rest (rw e at q)
    go false e rest = own-not_14 d c (of-desk d c (reached_sound r) k) x o.0 (rw e at q)

module _ (d : Desk) (r : Runner) where
  bars : not_of_runner d r ≡ true → (not_of_desk d r.controller ≡ true) ⊎ (¬ LeftBySteps r)
  unfolding not_of_runner
  bars e = go (true-or-false (not_of_desk d r.controller)) (true-or-false (runner_ok r))
    where
      go : (not_of_desk d r.controller ≡ true) ⊎ (not_of_desk d r.controller ≡ false) → (runner_ok r ≡ true) ⊎ (runner_ok r ≡ false)
          → (not_of_desk d r.controller ≡ true) ⊎ (¬ LeftBySteps r)
      go (inl a) b = inl a
      go (inr a) (inl b) = clash false (rw (a, b) at e) refl
      go (inr a) (inr b) = inr (λ h. clash (runner_ok r) ((runner_when r).1 h) b)

  barred : (not_of_desk d r.controller ≡ true) ⊎ (¬ LeftBySteps r) → not_of_runner d r ≡ true
  unfolding not_of_runner
  barred (inl a) = rw a refl
  barred (inr b) =
      let no : runner_ok r ≡ false = ⊎_elim (λ t. absurd (b ((runner_when r).0 t))) (λ f. f) (true-or-false (runner_ok r)) in
      rw no (or-true (not_of_desk d r.controller))

  not_barred : not_of_runner d r ≡ false → first_refusal d (due_now r) ≢ 14
  unfolding not_of_runner
  not_barred f =
      let h = of-desk_says d r.controller (or_left (not_of_desk d r.controller) (not (runner_ok r)) f) in
      first-not_14 r.controller (due_now r) (sound_reached d h.sound) h.counted
      (own_due (sheet_of r) (plan_of r) r.size r.controller r.minute)

  -- A step gives 14 exactly where the number is none of the desk's controllers, the desk is one that no answered opening and later calls
  -- can leave, or the runner is one that no accepted start and later steps can leave.
  pub step_14 : ((stepped d r).refusal ≡ 14) ↔ ((not_of_desk d r.controller ≡ true) ⊎ (¬ LeftBySteps r))
  unfolding stepped step_refusal
  step_14 = (λ q. ⊎_elim bars (λ f. absurd (not_barred f (rw f at q))) (true-or-false (not_of_runner d r)), λ h. rw (barred h) refl)

-- "a refused start's included"
pub no_runner_unreachable : ¬ LeftBySteps no_runner
unfolding runner_ok kept_ok planable_refusal first_failing outside zeros_behind every
no_runner_unreachable h = clash false ((runner_when no_runner).1 h) refl
