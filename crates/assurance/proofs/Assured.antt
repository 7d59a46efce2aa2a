-- R-3.3, of every valid plan: a controller that follows a valid plan within its assured share is granted every call of it.
use mathlib.Core.Path.{◌≡◌, refl, sym, ap, ◌∙◌, subst}
use mathlib.Core.Bool.{Bool, true, false}
use mathlib.Core.List.{List, [], ◌∷◌, ◌++◌, map}
use Prim.Native.Nat.{ℕ, ◌+◌, ◌-◌, ◌*◌, ◌≤◌}
use native.Mathlib.Nat.{zero-mul, add-mul, mul-le-mul_right, one-le-mul}
use native.Mathlib.Omega.{arith}
use lib.Dec.{ltb}
use Rattle.counting.specs.Counting.{only}
use Rattle.counting.proofs.Tests.{clash}
use Rattle.counting.proofs.Sums.{sum-zero}
use Rattle.schedule.specs.Plan.{Sheet, Plan, Valid, Lasting, Needing}
use Rattle.schedule.specs.ListPlan.{no_jobs, placing}
use Rattle.desk.specs.declared.Desk.{Desk}
use Rattle.desk.specs.Desk.{holding, assured_share}
use Rattle.desk.specs.Reachable.{Reachable}
use Rattle.desk.specs.Calls.{Call, claim, hand_back, refusal_of, desk_after, desk_after_all}
use Rattle.assurance.specs.Following.{Event, begin, end, job_of, call_of, plan_need, times, InOrder, bears, own_calls}
use Rattle.assurance.specs.Following.{FollowsPlan, FollowsSoFar, Ready, AllGranted, GrantedWhile, KeepsShare, unchanging}
use Rattle.assurance.proofs.Turns.{Left, first_of_left, begins-job, begins_new, after_begin, ends-job, ends_new, after_end}
use Rattle.assurance.proofs.Course.{needed, Course, begin_fits, begin_needed, begin_course, end_begun, end_needed, end_course}
use Rattle.assurance.proofs.Shares.{unchanging_keeps, other_call, own_claim, own_hand_back}

-- where no change takes the share below n, what is granted as long as none does is granted
pub kept-granted : (c n : ℕ) (d : Desk) (l : List Call) → KeepsShare n c d l → GrantedWhile n c d l → AllGranted c d l
kept-granted c n d [] k g = tt
kept-granted c n d (x ∷ l) k g = (g.0, kept-granted c n (desk_after d x) l k.1 (g.1 k.0))

module _ (S : Sheet) (P : Plan) (v : Valid S P) (w : Lasting S) (some : Needing S) (s : ℕ) (one : 1 ≤ s) (c : ℕ) where
  -- from the middle of the list on: jobs b have begun, jobs e have ended, and l are the events of the calls, m those behind them
  Goal : List Call → Type 0
  Goal calls = (d : Desk) (b e : ℕ → Bool) (l m : List Event) → Ready (plan_need S s) c (needed S b e * s) d → Course S P b e
      → Left S P b e (l ++ m) → own_calls c calls ≡ map (call_of S s c) l → GrantedWhile (plan_need S s) c d calls

  module _ (calls : List Call) (rest : Goal calls) (d : Desk) (b e : ℕ → Bool) (m : List Event)
      (r : Ready (plan_need S s) c (needed S b e * s) d) (h : Course S P b e) where
    -- the next call that bears c's number is the claim of the job that begins, or the hand-back of the job that ends
    own_call : (x : Call) (l : List Event) → Left S P b e (l ++ m) → x ∷ own_calls c calls ≡ map (call_of S s c) l
        → (refusal_of d x ≡ 0) × GrantedWhile (plan_need S s) c (desk_after d x) calls
    unfolding Goal
    own_call x [] f eq = absurd (let z : ◌≡◌ {A = ℕ} 0 1 = cc in omega arith)
    own_call x (begin j ∷ l) f eq =
        let ex : claim c (S.need j * s) ≡ x = cc in
        let el : own_calls c calls ≡ map (call_of S s c) l = cc in
        let job = begins-job S P b e j (l ++ m) f in
        let new = begins_new S P b e j (l ++ m) f in
        let first = first_of_left S P b e (begin j) (l ++ m) f in
        let sums = add-mul (needed S b e) (S.need j) s in
        let fits = mul-le-mul_right s (begin_fits S P v w b e h j job new first) in
        let g = own_claim r (S.need j * s) (one-le-mul (some j job) one) (omega arith) in
        let n : needed S b e * s + S.need j * s ≡ needed S (placing b j) e * s =
        sym sums ∙ ap (λ (k : ℕ). k * s) (sym (begin_needed S P v w b e h j job new)) in
        let ready = subst (λ n. Ready (plan_need S s) c n (desk_after d (claim c (S.need j * s)))) n g.1 in
        subst (λ y. (refusal_of d y ≡ 0) × GrantedWhile (plan_need S s) c (desk_after d y) calls) ex
        (g.0, rest _ (placing b j) e l m ready (begin_course S P v w b e h j job new first) (after_begin S P b e j (l ++ m) f) el)
    own_call x (end j ∷ l) f eq =
        let ex : hand_back c (S.need j * s) ≡ x = cc in
        let el : own_calls c calls ≡ map (call_of S s c) l = cc in
        let job = ends-job S P b e j (l ++ m) f in
        let new = ends_new S P b e j (l ++ m) f in
        let began = end_begun S P v w b e h j job (first_of_left S P b e (end j) (l ++ m) f) in
        let n : needed S b e * s ≡ (needed S b (placing e j) + S.need j) * s =
        ap (λ (k : ℕ). k * s) (end_needed S P v w b e h j job began new) in
        let sums = add-mul (needed S b (placing e j)) (S.need j) s in
        let g = own_hand_back r (S.need j * s) (one-le-mul (some j job) one) (omega arith) in
        let less : needed S b e * s - S.need j * s ≡ needed S b (placing e j) * s = omega arith in
        let ready = subst (λ n. Ready (plan_need S s) c n (desk_after d (hand_back c (S.need j * s)))) less g.1 in
        subst (λ y. (refusal_of d y ≡ 0) × GrantedWhile (plan_need S s) c (desk_after d y) calls) ex
        (g.0, rest _ b (placing e j) l m ready (end_course S P v w b e h j job began) (after_end S P b e j (l ++ m) f) el)

    call_step : (x : Call) (l : List Event) → Left S P b e (l ++ m) → own_calls c (x ∷ calls) ≡ map (call_of S s c) l
        → (t : Bool) → bears c x ≡ t → GrantedWhile (plan_need S s) c d (x ∷ calls)
    unfolding Goal
    call_step x l f eq true q = let g = own_call x l f (rw q at eq) in ((λ z. g.0), λ k. g.1)
    call_step x l f eq false q = ((λ z. clash (bears c x) z q), λ k. rest _ b e l m (other_call r x q k) h f (rw q at eq))

  all-granted : (calls : List Call) → Goal calls
  unfolding Goal
  all-granted [] = λ d b e l m r h f eq. tt
  all-granted (x ∷ calls) = λ d b e l m r h f eq. call_step calls (all-granted calls) d b e m r h x l f eq (bears c x) refl

-- ---- R-3.3, with changes in the list (F-7.4)

module _ (S : Sheet) (P : Plan) (v : Valid S P) (w : Lasting S) (some : Needing S) (s : ℕ) (one : 1 ≤ s)
    (d : Desk) (r : Reachable d) (c : ℕ) (z : holding d c ≡ 0) (n : plan_need S s ≤ assured_share d c) (calls : List Call) where
  -- For every list of calls, changes included, on any desk that an answered opening and later calls can leave, and for modules of whatever
  -- size s: a controller that holds nothing, is assured the sheet's modules times s and has made in the list the first of the plan's claims
  -- and hand-backs, s for each module, minutes never falling and hand-backs first within a minute, is granted every one of these, whatever
  -- stands between them, as long as no change takes its share below the sheet's modules times s.
  pub so_far-granted : FollowsSoFar S P s c calls → GrantedWhile (plan_need S s) c d calls
  unfolding Goal
  so_far-granted f =
      all-granted S P v w some s one c calls d no_jobs no_jobs f.made f.left
      (record { reachable = r; share = n; holds = z ∙ sym (ap (λ (k : ℕ). k * s) (sum-zero S.jobs) ∙ zero-mul s) })
      (record { sorted = λ i k p q e. clash false e refl; begun = λ i p e. e })
      (record { begins = λ j. f.once (begin j); ends = λ j. f.once (end j); order = f.order })
      f.own

  all_events : (l : List Event) → l ++ [] ≡ l
  all_events [] = refl
  all_events (x ∷ l) = ap (λ (m : List Event). x ∷ m) (all_events l)

  -- So is one that makes all of them.
  pub granted_while : FollowsPlan S P s c calls → GrantedWhile (plan_need S s) c d calls
  granted_while f = so_far-granted (record {
    made = f.events;
    left = [];
    once = subst (λ (l : List Event). (e : Event) → times e l ≡ only (ltb (job_of e) S.jobs) 1) (sym (all_events f.events)) f.once;
    order = subst (InOrder S P) (sym (all_events f.events)) f.order;
    own = f.own;
  })

  -- Where no change takes the share below, all are granted to the list's end.
  pub plan-granted : KeepsShare (plan_need S s) c d calls → FollowsPlan S P s c calls → AllGranted c d calls
  plan-granted k f = kept-granted c (plan_need S s) d calls k (granted_while f)

  -- So it is where no change stands in the list: R-3.3 as it was before F-7.
  pub unchanging-granted : unchanging calls ≡ true → FollowsPlan S P s c calls → AllGranted c d calls
  unchanging-granted q = plan-granted (unchanging_keeps (plan_need S s) c calls d q n)

-- That is: where such a call stands behind the calls of a list, the desk that these leave grants it.
pub granted_in_turn : (c : ℕ) (d : Desk) (before : List Call) (x : Call) (behind : List Call)
    → AllGranted c d (before ++ (x ∷ behind)) → bears c x ≡ true → refusal_of (desk_after_all d before) x ≡ 0
granted_in_turn c d [] x behind g q = g.0 q
granted_in_turn c d (y ∷ l) x behind g q = granted_in_turn c (desk_after d y) l x behind g.1 q
