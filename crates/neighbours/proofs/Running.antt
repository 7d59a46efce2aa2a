-- A runner that runs keeps to its assured share by itself: of a controller that makes no other calls nothing more is asked.
use mathlib.Core.Path.{◌≡◌, refl, sym, ap, ◌∙◌, subst}
use mathlib.Core.Logic.{⊎_elim}
use mathlib.Core.Bool.{Bool, true, false, cond}
use mathlib.Core.List.{List, [], ◌∷◌, ◌++◌}
use Prim.Native.Nat.{ℕ, zero, suc, ◌+◌, ◌*◌, ◌≤◌}
use native.Mathlib.Omega.{arith}
use native.Mathlib.Nat.{le_refl, le_trans, mul-le-mul_right}
use lib.Dec.{eqb}
use lib.ListN.{get_or}
use borrow.Author.Tests.{eq-eqb, leb-true}
use Rattle.counting.specs.Counting.{joined}
use Rattle.counting.proofs.Tests.{clash, true-or-false}
use Rattle.schedule.specs.Plan.{Sheet, Plan}
use Rattle.schedule.proofs.Earliest.{load-le}
use Rattle.desk.specs.declared.Desk.{Desk}
use Rattle.desk.specs.Desk.{holding, assured_share}
use Rattle.desk.specs.Reachable.{Reachable}
use Rattle.desk.specs.Calls.{Call, claim, hand_back, look, change, desk_after, desk_after_all, granted}
use Rattle.desk.proofs.Holdings.{claim_adds, one_only}
use Rattle.desk.proofs.Lists.{reachable-after, reachable-after_all}
use Rattle.assurance.specs.Following.{begin, end, minute, plan_need}
use Rattle.assurance.specs.Minutes.{hand_backs_due, claims_due, due_calls, held_before, first_refusal}
use Rattle.assurance.proofs.Minutes.{after-append, first-append, granted_all, held_next, minute-granted}
use Rattle.runner.specs.declared.Runner.{Runner}
use Rattle.runner.specs.Runner.{sheet_of, plan_of, due_now, over}
use Rattle.runner.specs.Moves.{Yard, step}
use Rattle.runner.proofs.Running.{runner_says, Running, none_due}
use Rattle.neighbours.specs.Moves.{WithinTogether, MoveWithin}

-- ---- lists of calls

-- claims of controller c, and hand-backs
abbrev Claims : ℕ → List Call → Type 0
Claims c [] = Unit {0}
Claims c (claim b k ∷ l) = (b ≡ c) × Claims c l
Claims c (hand_back b k ∷ l) = ⊥
Claims c (look b ∷ l) = ⊥
Claims c (change n a t ∷ l) = ⊥

abbrev Backs : List Call → Type 0
Backs [] = Unit {0}
Backs (claim b k ∷ l) = ⊥
Backs (hand_back b k ∷ l) = Backs l
Backs (look b ∷ l) = ⊥
Backs (change n a t ∷ l) = ⊥

claims-append : (c : ℕ) (l m : List Call) → Claims c l → Claims c m → Claims c (l ++ m)
claims-append c [] m a b = b
claims-append c (claim i k ∷ l) m a b = (a.0, claims-append c l m a.1 b)
claims-append c (hand_back i k ∷ l) m a b = a
claims-append c (look i ∷ l) m a b = a
claims-append c (change n x t ∷ l) m a b = a

backs-append : (l m : List Call) → Backs l → Backs m → Backs (l ++ m)
backs-append [] m a b = b
backs-append (claim i k ∷ l) m a b = a
backs-append (hand_back i k ∷ l) m a b = backs-append l m a b
backs-append (look i ∷ l) m a b = a
backs-append (change n x t ∷ l) m a b = a

due-claims : (S : Sheet) (P : Plan) (s c t : ℕ) → Claims c (claims_due S P s c t)
unfolding joined
due-claims S P s c t = go S.jobs
  where
    one : (b : Bool) (k : ℕ) → Claims c (cond b (claim c k ∷ []) [])
    one true k = (refl, tt)
    one false k = tt

    go : (n : ℕ) → Claims c (joined n (λ j. cond (eqb (minute S P (begin j)) t) (claim c (S.need j * s) ∷ []) []))
    go zero = tt
    go (suc n) =
        claims-append c (joined n (λ j. cond (eqb (minute S P (begin j)) t) (claim c (S.need j * s) ∷ []) []))
        (cond (eqb (minute S P (begin n)) t) (claim c (S.need n * s) ∷ []) []) (go n) (one (eqb (minute S P (begin n)) t) (S.need n * s))

due_backs : (S : Sheet) (P : Plan) (s c t : ℕ) → Backs (hand_backs_due S P s c t)
unfolding joined
due_backs S P s c t = go S.jobs
  where
    one : (b : Bool) (k : ℕ) → Backs (cond b (hand_back c k ∷ []) [])
    one true k = tt
    one false k = tt

    go : (n : ℕ) → Backs (joined n (λ j. cond (eqb (minute S P (end j)) t) (hand_back c (S.need j * s) ∷ []) []))
    go zero = tt
    go (suc n) =
        backs-append (joined n (λ j. cond (eqb (minute S P (end j)) t) (hand_back c (S.need j * s) ∷ []) []))
        (cond (eqb (minute S P (end n)) t) (hand_back c (S.need n * s) ∷ []) []) (go n) (one (eqb (minute S P (end n)) t) (S.need n * s))

-- the first of calls that are all granted, and the rest
first-granted : (d : Desk) (x : Call) (l : List Call) → first_refusal d (x ∷ l) ≡ 0 → (granted d x ≡ true) × (first_refusal (desk_after d x) l ≡ 0)
first-granted d x l e = go (granted d x) refl
  where
    go : (b : Bool) → granted d x ≡ b → (granted d x ≡ true) × (first_refusal (desk_after d x) l ≡ 0)
    go true q = (q, rw q at e)
    go false q = clash (granted d x) (eq-eqb _ 0 (rw q at e)) q

-- ---- claims that are granted keep to the share, if what is held behind them does

granted_claim : (c : ℕ) {d : Desk} → Reachable d → (b k : ℕ) → b ≡ c → granted d (claim b k) ≡ true
    → holding (desk_after d (claim b k)) c ≡ holding d c + k
granted_claim c {d} r b k e g = rw (g, eq-eqb b c e) at (claim_adds d r c b k)

claims_grow : (c : ℕ) (l : List Call) {d : Desk} → Reachable d → Claims c l → first_refusal d l ≡ 0
    → holding d c ≤ holding (desk_after_all d l) c
claims_grow c [] r o e = le_refl _
claims_grow c (claim b k ∷ l) {d} r o e =
    let g = first-granted d (claim b k) l e in
    le_trans (let h = granted_claim c r b k o.0 g.0 in omega arith) (claims_grow c l (reachable-after r (claim b k)) o.1 g.1)
claims_grow c (hand_back b k ∷ l) r o e = absurd o
claims_grow c (look b ∷ l) r o e = absurd o
claims_grow c (change n a t ∷ l) r o e = absurd o

claims_within : (c : ℕ) (l : List Call) {d : Desk} → Reachable d → Claims c l → first_refusal d l ≡ 0
    → holding (desk_after_all d l) c ≤ assured_share d c → WithinTogether c d l
claims_within c [] r o e h = tt
claims_within c (claim b k ∷ l) {d} r o e h =
    let g = first-granted d (claim b k) l e in
    let next = reachable-after r (claim b k) in
    let grows = claims_grow c l next o.1 g.1 in
    let adds = granted_claim c r b k o.0 g.0 in
    let same : assured_share (desk_after d (claim b k)) c ≡ assured_share d c = ap (λ m. get_or {A = ℕ} m c 0) (one_only d (claim b k) refl).assured in
    ((λ q. omega arith), λ q. claims_within c l next o.1 g.1 (omega arith))
claims_within c (hand_back b k ∷ l) r o e h = absurd o
claims_within c (look b ∷ l) r o e h = absurd o
claims_within c (change n a t ∷ l) r o e h = absurd o

-- behind hand-backs, which leave the shares
backs_within : (c : ℕ) (l m : List Call) (d : Desk) → Backs l → (first_refusal d l ≡ 0 → WithinTogether c (desk_after_all d l) m)
    → WithinTogether c d (l ++ m)
backs_within c [] m d o w = w refl
backs_within c (claim b k ∷ l) m d o w = absurd o
backs_within c (hand_back b k ∷ l) m d o w = (tt, λ q. backs_within c l m (desk_after d (hand_back b k)) o (λ e. w (rw q e)))
backs_within c (look b ∷ l) m d o w = absurd o
backs_within c (change n a t ∷ l) m d o w = absurd o

backs_share : (c : ℕ) (l : List Call) (d : Desk) → Backs l → assured_share (desk_after_all d l) c ≡ assured_share d c
backs_share c [] d o = refl
backs_share c (claim b k ∷ l) d o = absurd o
backs_share c (hand_back b k ∷ l) d o =
    backs_share c l (desk_after d (hand_back b k)) o ∙ ap (λ m. get_or {A = ℕ} m c 0) (one_only d (hand_back b k) refl).assured
backs_share c (look b ∷ l) d o = absurd o
backs_share c (change n a t ∷ l) d o = absurd o

-- ---- a runner

module _ (r : Runner) (d : Desk) (h : Running r d) where
  abbrev S : Sheet
  S = sheet_of r

  abbrev P : Plan
  P = plan_of r

  abbrev c : ℕ
  c = r.controller

  abbrev backs : List Call
  backs = hand_backs_due S P r.size c r.minute

  abbrev claims : List Call
  claims = claims_due S P r.size c r.minute

  running : over r ≡ false → WithinTogether c d (due_now r)
  unfolding due_calls granted_all
  running q =
      let s = runner_says r h.ok in
      let ready = h.ready q in
      let g = minute-granted S P s.valid s.lasting s.needing r.size s.size c r.minute d ready in
      let held = held_next S P s.lasting r.minute in
      let most = load-le S P s.valid r.minute in
      let fits : held_before S P (r.minute + 1) * r.size ≤ plan_need S r.size =
      mul-le-mul_right r.size (let y : held_before S P (r.minute + 1) ≤ S.modules = omega arith in y) in
      let share = ready.share in
      let holds = g.1.holds in
      backs_within c backs claims d (due_backs S P r.size c r.minute) (λ e.
      let behind = first-append d backs claims e in
      let after = after-append d backs claims in
      let same = backs_share c backs d (due_backs S P r.size c r.minute) in
      let final : holding (desk_after_all (desk_after_all d backs) claims) c ≡ held_before S P (r.minute + 1) * r.size =
      ap (λ (x : Desk). holding x c) (sym after) ∙ holds in
      claims_within c claims (reachable-after_all h.reachable backs) (due-claims S P r.size c r.minute) (sym behind ∙ g.0)
      (omega arith))

  done : over r ≡ true → WithinTogether c d (due_now r)
  done q = subst (WithinTogether c d) (sym (none_due S P r.size c r.minute (leb-true _ _ q))) tt

-- Each minute of a runner that runs keeps to its controller's share.
pub running_within : (y : Yard) (i : ℕ) → Running (y.runners i) y.desk → MoveWithin (y.runners i).controller y (step i)
running_within y i h =
    λ e. ⊎_elim (done (y.runners i) y.desk h) (running (y.runners i) y.desk h) (true-or-false (over (y.runners i)))
