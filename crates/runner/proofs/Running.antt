-- F-11: after an accepted start every step is granted, as long as the moves between let the runner run.
use mathlib.Core.Path.{◌≡◌, refl, sym, ap, ◌∙◌, subst}
use mathlib.Core.Logic.{◌⊎◌, inl, inr, ⊎_elim, ◌≢◌}
use mathlib.Core.Bool.{Bool, true, false, cond}
use mathlib.Core.List.{List, [], ◌∷◌, ◌++◌}
use Prim.Native.Nat.{ℕ, zero, suc, ◌+◌, ◌*◌, ◌≤◌, ◌<◌}
use native.Mathlib.Omega.{arith}
use lib.Dec.{leb, eqb}
use lib.ListN.{get_or}
use borrow.Author.Tests.{eq-eqb, ne_eqb, leb-true, le-leb}
use Rattle.counting.specs.Counting.{joined}
use Rattle.counting.proofs.Tests.{clash, true-or-false, same_or_not, and_left, and_both, less-or-not}
use Rattle.counting.proofs.Ranges.{le-largest}
use Rattle.schedule.specs.Plan.{Sheet, Plan, Valid, Lasting, Needing}
use Rattle.desk.specs.declared.Desk.{Desk}
use Rattle.desk.specs.Desk.{assured_share}
use Rattle.desk.specs.Reachable.{Reachable}
use Rattle.desk.specs.Calls.{Call, claim, hand_back, is_change, desk_after, desk_after_all}
use Rattle.planable.proofs.Planable.{passes}
use Rattle.planable.proofs.Tables.{lasting_read, needing_read}
use Rattle.card_check.proofs.Exact.{card_says}
use Rattle.desk.proofs.Sound.{of-desk, range_says}
use Rattle.desk.proofs.Reaches.{reached_sound}
use Rattle.desk.proofs.Lists.{reachable-after, reachable-after_all}
use Rattle.desk.proofs.Holdings.{one_only, one-count, same_count}
use Rattle.assurance.specs.Following.{end, minute, bears, plan_need, Ready}
use Rattle.assurance.specs.Minutes.{hand_backs_due, claims_due, due_calls, last_minute, held_before, first_refusal}
use Rattle.assurance.proofs.Shares.{other_call}
use Rattle.assurance.proofs.Minutes.{granted_all, minute-granted}
use Rattle.runner.specs.declared.Runner.{Runner}
use Rattle.runner.specs.Runner.{largest_size, kept_sheet, kept_card, sheet_of, plan_of, with_minute, due_now, over, next_minute, kept_ok, runner_ok, not_of_runner, step_refusal, stepped}
use Rattle.runner.specs.Moves.{Yard, Move, call, step, desk_after_move, runners_after, yard_after}
use Rattle.runner.specs.Moves.{Undisturbed, StepsGranted}
use Rattle.runner.proofs.Passes.{Kept, kept_says}

-- what the test of a runner says of its sheet and plan
pub record RunnerSound (r : Runner) : Type 0 where
  pub kept : Kept r
  pub valid : Valid (sheet_of r) (plan_of r)
  pub lasting : Lasting (sheet_of r)
  pub needing : Needing (sheet_of r)
  pub size : 1 ≤ r.size

pub runner_says : (r : Runner) → runner_ok r ≡ true → RunnerSound r
unfolding runner_ok
runner_says r e =
    let k = kept_says r (and_left (kept_ok r) (leb r.minute (last_minute (sheet_of r) (plan_of r))) e) in
    let reads = (passes (kept_sheet r) k.reads).reads in
    record {
      kept = k;
      valid = (card_says (sheet_of r) (kept_card r) k.fits).valid;
      lasting = lasting_read (kept_sheet r) reads;
      needing = needing_read (kept_sheet r) reads;
      size = (range_says 1 largest_size r.size k.size).least;
    }

-- ---- the calls of a minute

-- calls that are no changes and do not bear c's number
abbrev pub NotOf : ℕ → List Call → Type 0
NotOf c [] = Unit {0}
NotOf c (x ∷ l) = (bears c x ≡ false) × (is_change x ≡ false) × NotOf c l

pub not_of-append : (c : ℕ) (l m : List Call) → NotOf c l → NotOf c m → NotOf c (l ++ m)
not_of-append c [] m a b = b
not_of-append c (x ∷ l) m a b = (a.0, a.1, not_of-append c l m a.2 b)

not_of_joined : (c n : ℕ) (f : ℕ → List Call) → ((j : ℕ) → NotOf c (f j)) → NotOf c (joined n f)
unfolding joined
not_of_joined c zero f h = tt
not_of_joined c (suc n) f h = not_of-append c (joined n f) (f n) (not_of_joined c n f h) (h n)

not_of_cond : (c : ℕ) (t : Bool) (x : Call) → bears c x ≡ false → is_change x ≡ false → NotOf c (cond t (x ∷ []) [])
not_of_cond c true x a b = (a, b, tt)
not_of_cond c false x a b = tt

pub due-not_of : (S : Sheet) (P : Plan) (s b c t : ℕ) → b ≢ c → NotOf c (due_calls S P s b t)
unfolding due_calls
due-not_of S P s b c t n =
    not_of-append c (hand_backs_due S P s b t) (claims_due S P s b t)
    (not_of_joined c S.jobs _ (λ j. not_of_cond c (eqb (minute S P (end j)) t) (hand_back b (S.need j * s)) (ne_eqb b c n) refl))
    (not_of_joined c S.jobs _ (λ j. not_of_cond c (eqb (P.start j) t) (claim b (S.need j * s)) (ne_eqb b c n) refl))

pub others-ready : (n c h : ℕ) (d : Desk) (l : List Call) → NotOf c l → Ready n c h d → Ready n c h (desk_after_all d l)
others-ready n c h d [] o r = r
others-ready n c h d (x ∷ l) o r =
    let e : assured_share (desk_after d x) c ≡ assured_share d c = ap (λ m. get_or {A = ℕ} m c 0) (one_only d x o.1).assured in
    let share = r.share in
    others-ready n c h (desk_after d x) l o.2 (other_call r x o.0 (omega arith))

joined-none : (n : ℕ) (f : ℕ → List Call) → ((j : ℕ) → j < n → f j ≡ []) → joined n f ≡ []
unfolding joined
joined-none zero f h = refl
joined-none (suc n) f h = rw (joined-none n f (λ j l. h j (omega arith)), h n (omega arith)) refl

-- when all is over nothing falls due: "makes no call"
pub none_due : (S : Sheet) (P : Plan) (s c t : ℕ) → last_minute S P ≤ t → due_calls S P s c t ≡ []
unfolding due_calls last_minute
none_due S P s c t l =
    let behind : (j : ℕ) → j < S.jobs → minute S P (end j) < t =
    λ j k. let y = le-largest S.jobs (λ j. minute S P (end j) + 1) j k in omega arith in
    rw (
      joined-none S.jobs (λ j. cond (eqb (minute S P (end j)) t) (hand_back c (S.need j * s) ∷ []) [])
          (λ j k. let b = behind j k in rw (ne_eqb (minute S P (end j)) t (λ q. omega arith)) refl),
      joined-none S.jobs (λ j. cond (eqb (P.start j) t) (claim c (S.need j * s) ∷ []) [])
          (λ j k. let b = behind j k in rw (ne_eqb (P.start j) t (λ q. omega arith)) refl),
    ) refl

-- ---- a step

module _ (d : Desk) (r : Runner) where
  granted-step : not_of_runner d r ≡ false → first_refusal d (due_now r) ≡ 0 → (stepped d r).refusal ≡ 0
  unfolding stepped step_refusal
  granted-step e f = rw (e, f) refl

  pub granted-desk : (stepped d r).refusal ≡ 0 → (stepped d r).desk ≡ desk_after_all d (due_now r)
  unfolding stepped
  granted-desk e = rw e refl

  pub granted_runner : (stepped d r).refusal ≡ 0 → (stepped d r).runner ≡ next_minute r
  unfolding stepped
  granted_runner e = rw e refl

  -- a step leaves the desk or makes its calls
  pub step-desk : ((stepped d r).desk ≡ d) ⊎ ((stepped d r).desk ≡ desk_after_all d (due_now r))
  unfolding stepped
  step-desk = go (eqb (step_refusal d r) 0)
    where
      go : (t : Bool) → (cond t (desk_after_all d (due_now r)) d ≡ d) ⊎ (cond t (desk_after_all d (due_now r)) d ≡ desk_after_all d (due_now r))
      go true = inr refl
      go false = inl refl

-- ---- the next minute of a runner that can be

kept_same : (r : Runner) (t : ℕ) → kept_ok (with_minute r t) ≡ kept_ok r
unfolding kept_ok
kept_same r t = refl

pub later : (r : Runner) → over r ≡ false → r.minute + 1 ≤ last_minute (sheet_of r) (plan_of r)
later r q =
    ⊎_elim (λ (l : r.minute < last_minute (sheet_of r) (plan_of r)). omega arith)
    (λ l. clash (over r) (le-leb (last_minute (sheet_of r) (plan_of r)) r.minute l) q)
    (less-or-not r.minute (last_minute (sheet_of r) (plan_of r)))

pub goes_on : (r : Runner) → runner_ok r ≡ true → runner_ok (next_minute r) ≡ true
unfolding runner_ok
goes_on r e = go (over r) refl
  where
    go : (t : Bool) → over r ≡ t → runner_ok (cond t r (with_minute r (r.minute + 1))) ≡ true
    go true q = e
    go false q =
        and_both (kept_ok (with_minute r (r.minute + 1))) (leb (r.minute + 1) (last_minute (sheet_of r) (plan_of r)))
        (kept_same r (r.minute + 1) ∙ and_left (kept_ok r) (leb r.minute (last_minute (sheet_of r) (plan_of r))) e)
        (le-leb (r.minute + 1) (last_minute (sheet_of r) (plan_of r)) (later r q))

-- ---- the runner in the yard

abbrev ReadyFor : Runner → Desk → Type 0
ReadyFor r d =
    Ready (plan_need (sheet_of r) r.size) r.controller (held_before (sheet_of r) (plan_of r) r.minute * r.size) d

pub record Running (r : Runner) (d : Desk) : Type 0 where
  pub reachable : Reachable d
  pub counted : r.controller < d.count
  pub ok : runner_ok r ≡ true
  pub ready : over r ≡ false → ReadyFor r d

-- its own minute
module _ (r : Runner) (d : Desk) (h : Running r d) where
  abbrev S : Sheet
  S = sheet_of r

  abbrev P : Plan
  P = plan_of r

  of_runner : not_of_runner d r ≡ false
  unfolding not_of_runner
  of_runner = rw (of-desk d r.controller (reached_sound h.reachable) h.counted, h.ok) refl

  not-over : over r ≡ false
      → granted_all (plan_need S r.size) r.controller (held_before S P (r.minute + 1) * r.size) d (due_now r)
  not-over q =
      let s = runner_says r h.ok in
      minute-granted S P s.valid s.lasting s.needing r.size s.size r.controller r.minute d (h.ready q)

  pub first-none : first_refusal d (due_now r) ≡ 0
  unfolding granted_all
  first-none = ⊎_elim
      (λ (q : over r ≡ true). rw (none_due S P r.size r.controller r.minute (leb-true _ _ q)) refl)
      (λ (q : over r ≡ false). (not-over q).0) (true-or-false (over r))

  pub own-step : (stepped d r).refusal ≡ 0
  own-step = granted-step d r of_runner first-none

  after_all : (t : Bool) → over r ≡ t → over (next_minute r) ≡ false → ReadyFor (next_minute r) (desk_after_all d (due_now r))
  unfolding granted_all
  after_all true q n = clash (over r) q (let e : next_minute r ≡ r = rw q refl in sym (ap over e) ∙ n)
  after_all false q n = rw q (not-over q).1

  pub own_running : Running (stepped d r).runner (stepped d r).desk
  own_running =
      rw (granted_runner d r own-step, granted-desk d r own-step) (record {
        reachable = reachable-after_all h.reachable (due_now r);
        counted = rw same_controller (rw (same_count d (due_now r)) h.counted);
        ok = goes_on r h.ok;
        ready = after_all (over r) refl;
      })
    where
      same_controller : (next_minute r).controller ≡ r.controller
      same_controller = go (over r)
        where
          go : (t : Bool) → (cond t r (with_minute r (r.minute + 1))).controller ≡ r.controller
          go true = refl
          go false = refl

-- another's calls
pub call_running : (r : Runner) (d : Desk) → Running r d → (x : Call)
    → (over r ≡ true) ⊎ ((bears r.controller x ≡ false) × (plan_need (sheet_of r) r.size ≤ assured_share (desk_after d x) r.controller))
    → Running r (desk_after d x)
call_running r d h x u = record {
  reachable = reachable-after h.reachable x;
  counted = rw (one-count d x) h.counted;
  ok = h.ok;
  ready = λ q. ⊎_elim (λ o. clash (over r) o q) (λ o. other_call (h.ready q) x o.0 o.1) u;
}

-- another runner's minute
pub step_running : (r : Runner) (d : Desk) → Running r d → (k : Runner) → (over r ≡ true) ⊎ (k.controller ≢ r.controller)
    → Running r (stepped d k).desk
step_running r d h k u = ⊎_elim (λ e. subst (Running r) (sym e) h) (λ e. subst (Running r) (sym e) made) (step-desk d k)
  where
    made : Running r (desk_after_all d (due_now k))
    made = record {
      reachable = reachable-after_all h.reachable (due_now k);
      counted = rw (same_count d (due_now k)) h.counted;
      ok = h.ok;
      ready = λ q. ⊎_elim (λ o. clash (over r) o q)
          (λ o. others-ready _ _ _ d (due_now k) (due-not_of (sheet_of k) (plan_of k) k.size k.controller r.controller k.minute o) (h.ready q)) u;
    }

-- ---- lists of moves

other_running : (y : Yard) (i k : ℕ) → Running (y.runners i) y.desk → Undisturbed i y (step k) → (k ≡ i) ⊎ (k ≢ i)
    → Running (runners_after y (step k) i) (desk_after_move y (step k))
other_running y i k h u (inl q) =
    subst (λ (k : ℕ). Running (runners_after y (step k) i) (desk_after_move y (step k))) (sym q)
    (rw (eq-eqb i i refl) (own_running (y.runners i) y.desk h))
other_running y i k h u (inr n) =
    rw (ne_eqb i k (λ q. n (sym q)))
    (step_running (y.runners i) y.desk h (y.runners k) (⊎_elim inl (⊎_elim (λ q. absurd (n q)) inr) u))

move_running : (y : Yard) (i : ℕ) (x : Move) → Running (y.runners i) y.desk → Undisturbed i y x
    → Running ((yard_after y x).runners i) (yard_after y x).desk
move_running y i (call x) h u = call_running (y.runners i) y.desk h x u
move_running y i (step k) h u = other_running y i k h u (same_or_not k i)

-- Every step of the runner is granted, as long as the moves before it let it run.
pub steps-granted : (l : List Move) (y : Yard) (i : ℕ) → Running (y.runners i) y.desk → StepsGranted i y l
steps-granted [] y i h = tt
steps-granted (x ∷ l) y i h =
    (λ e. rw e (own-step (y.runners i) y.desk h), λ u. steps-granted l (yard_after y x) i (move_running y i x h u))
