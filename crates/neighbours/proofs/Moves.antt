-- F-13 with runners: a controller that keeps to its assured share is answered as if it were alone.
use mathlib.Core.Path.{◌≡◌, refl, sym, ap, ◌∙◌, subst}
use mathlib.Core.Logic.{⊎_elim, ◌≢◌}
use mathlib.Core.Bool.{Bool, true, false, cond}
use mathlib.Core.List.{List, [], ◌∷◌, ◌++◌}
use Prim.Native.Nat.{ℕ, zero, suc, ◌+◌, ◌*◌, ◌<◌}
use native.Mathlib.Omega.{arith}
use native.Mathlib.Nat.{le_refl}
use lib.Dec.{eqb}
use borrow.Author.Tests.{eqb-true, eqb-false, eq-eqb}
use Rattle.counting.specs.Counting.{joined}
use Rattle.counting.proofs.Tests.{clash}
use Rattle.schedule.specs.Plan.{Sheet, Plan}
use Rattle.desk.specs.declared.Desk.{Desk}
use Rattle.desk.specs.Desk.{holding, assured_share}
use Rattle.desk.specs.Reachable.{Reachable}
use Rattle.desk.specs.Calls.{Call, claim, hand_back, look, change, is_change, refusal_of, desk_after, desk_after_all, granted}
use Rattle.desk.proofs.Sound.{of-desk}
use Rattle.desk.proofs.Reaches.{reached_sound}
use Rattle.desk.proofs.Lists.{reachable-after, reachable-after_all}
use Rattle.desk.proofs.Holdings.{one-count, same_count}
use Rattle.assurance.specs.Following.{end, minute, bears}
use Rattle.assurance.specs.Minutes.{hand_backs_due, claims_due, due_calls, first_refusal}
use Rattle.runner.specs.declared.Runner.{Runner}
use Rattle.runner.specs.Runner.{sheet_of, plan_of, with_minute, due_now, over, next_minute, runner_ok, not_of_runner, step_refusal, stepped}
use Rattle.runner.specs.Moves.{Yard, Move, call, step, number_of, yard_after}
use Rattle.runner.proofs.Running.{due-not_of, others-ready, step-desk}
use Rattle.neighbours.specs.Alone.{alone_number, alone_holding, alone_after, KeepsWithin}
use Rattle.neighbours.specs.Moves.{alone_first, Own, own_number, own_after, own_numbers, own_after_all}
use Rattle.neighbours.specs.Moves.{is_of, moves_of, numbers_of, yard_after_all, WithinTogether, MoveWithin, MovesWithin, NoChange, own, MovesAlone}
use Rattle.neighbours.proofs.Alone.{own_alone, other_leaves}

-- ---- own calls made together

abbrev pub OwnAll : ℕ → List Call → Type 0
OwnAll c [] = Unit {0}
OwnAll c (x ∷ l) = (bears c x ≡ true) × OwnAll c l

-- a call that bears a controller's number is no change
pub not_changes : (c : ℕ) (x : Call) → bears c x ≡ true → is_change x ≡ false
not_changes c (claim b k) q = refl
not_changes c (hand_back b k) q = refl
not_changes c (look b) q = refl
not_changes c (change l a t) q = clash false q refl

own-append : (c : ℕ) (l m : List Call) → OwnAll c l → OwnAll c m → OwnAll c (l ++ m)
own-append c [] m a b = b
own-append c (x ∷ l) m a b = (a.0, own-append c l m a.1 b)

own_joined : (c n : ℕ) (f : ℕ → List Call) → ((j : ℕ) → OwnAll c (f j)) → OwnAll c (joined n f)
unfolding joined
own_joined c zero f h = tt
own_joined c (suc n) f h = own-append c (joined n f) (f n) (own_joined c n f h) (h n)

own_cond : (c : ℕ) (t : Bool) (x : Call) → bears c x ≡ true → OwnAll c (cond t (x ∷ []) [])
own_cond c true x a = (a, tt)
own_cond c false x a = tt

pub due-own : (S : Sheet) (P : Plan) (s c t : ℕ) → OwnAll c (due_calls S P s c t)
unfolding due_calls
due-own S P s c t =
    own-append c (hand_backs_due S P s c t) (claims_due S P s c t)
    (own_joined c S.jobs _ (λ j. own_cond c (eqb (minute S P (end j)) t) (hand_back c (S.need j * s)) (eq-eqb c c refl)))
    (own_joined c S.jobs _ (λ j. own_cond c (eqb (P.start j) t) (claim c (S.need j * s)) (eq-eqb c c refl)))

pub record TogetherAlone (c : ℕ) (d : Desk) (l : List Call) : Type 0 where
  pub number : first_refusal d l ≡ alone_first (holding d c) l
  pub holds : first_refusal d l ≡ 0 → holding (desk_after_all d l) c ≡ alone_after (holding d c) l

together-step : {d : Desk} → Reachable d → (c : ℕ) → c < d.count → (x : Call) (l : List Call) → bears c x ≡ true → KeepsWithin c d x
    → (granted d x ≡ true → TogetherAlone c (desk_after d x) l) → (t : Bool) → granted d x ≡ t → TogetherAlone c d (x ∷ l)
together-step {d} r c n x l b w rest true q =
    let a = own_alone r c n x b w in
    let e : eqb (alone_number (holding d c) x) 0 ≡ true = ap (λ (k : ℕ). eqb k 0) (sym a.number) ∙ q in
    let g = rest q in
    record {
      number = rw (q, e) (g.number ∙ ap (λ (h : ℕ). alone_first h l) a.holds);
      holds = λ z. let f : first_refusal (desk_after d x) l ≡ 0 = rw q at z in g.holds f ∙ ap (λ (h : ℕ). alone_after h l) a.holds;
    }
together-step {d} r c n x l b w rest false q =
    let a = own_alone r c n x b w in
    let e : eqb (alone_number (holding d c) x) 0 ≡ false = ap (λ (k : ℕ). eqb k 0) (sym a.number) ∙ q in
    record {
      number = rw (q, e) a.number;
      holds = λ z. let f : refusal_of d x ≡ 0 = rw q at z in clash (granted d x) (eq-eqb _ 0 f) q;
    }

pub together_alone : (l : List Call) {d : Desk} → Reachable d → (c : ℕ) → c < d.count → OwnAll c l → WithinTogether c d l → TogetherAlone c d l
together_alone [] r c n b w = record { number = refl; holds = λ z. refl }
together_alone (x ∷ l) {d} r c n b w =
    together-step r c n x l b.0 w.0
    (λ q. together_alone l (reachable-after r x) c (rw (one-count d x) n) b.1 (w.1 q)) (granted d x) refl

-- ---- a minute

-- what a minute gives, of the holding and the runner alone
abbrev minute_number : ℕ → Runner → ℕ
minute_number h r = cond (runner_ok r) (alone_first h (due_now r)) 14

pub record MinuteAlone (d : Desk) (r : Runner) (h : ℕ) : Type 0 where
  pub number : (stepped d r).refusal ≡ minute_number h r
  pub holds : holding (stepped d r).desk r.controller ≡ cond (eqb (minute_number h r) 0) (alone_after h (due_now r)) h
  pub runner : (stepped d r).runner ≡ cond (eqb (minute_number h r) 0) (next_minute r) r

module _ (d : Desk) (k : Reachable d) (r : Runner) (n : r.controller < d.count) where
  abbrev c : ℕ
  c = r.controller

  abbrev h : ℕ
  h = holding d c

  step_number : (runner_ok r ≡ true → WithinTogether c d (due_now r)) → (t : Bool) → runner_ok r ≡ t → (stepped d r).refusal ≡ minute_number h r
  unfolding stepped step_refusal not_of_runner
  step_number w true q =
      rw (of-desk d c (reached_sound k) n, q)
      (together_alone (due_now r) k c n (due-own (sheet_of r) (plan_of r) r.size c r.minute) (w q)).number
  step_number w false q = rw (of-desk d c (reached_sound k) n, q) refl

  made : (runner_ok r ≡ true → WithinTogether c d (due_now r)) → (t : Bool) → runner_ok r ≡ t → step_refusal d r ≡ 0
      → holding (desk_after_all d (due_now r)) c ≡ alone_after h (due_now r)
  unfolding step_refusal not_of_runner
  made w true q e =
      let f : first_refusal d (due_now r) ≡ 0 = rw (of-desk d c (reached_sound k) n, q) at e in
      (together_alone (due_now r) k c n (due-own (sheet_of r) (plan_of r) r.size c r.minute) (w q)).holds f
  made w false q e = let z : ◌≡◌ {A = ℕ} 14 0 = rw (of-desk d c (reached_sound k) n, q) at e in absurd (omega arith)

  pub minute_alone : (runner_ok r ≡ true → WithinTogether c d (due_now r)) → MinuteAlone d r h
  unfolding stepped
  minute_alone w =
      let e = step_number w (runner_ok r) refl in
      record {
        number = e;
        holds = subst (λ (m : ℕ). holding (cond (eqb (step_refusal d r) 0) (desk_after_all d (due_now r)) d) c
            ≡ cond (eqb m 0) (alone_after h (due_now r)) h) e (held (eqb (step_refusal d r) 0) refl);
        runner = subst (λ (m : ℕ). cond (eqb (step_refusal d r) 0) (next_minute r) r ≡ cond (eqb m 0) (next_minute r) r) e refl;
      }
    where
      held : (t : Bool) → eqb (step_refusal d r) 0 ≡ t
          → holding (cond t (desk_after_all d (due_now r)) d) c ≡ cond t (alone_after h (due_now r)) h
      held true q = made w (runner_ok r) refl (eqb-true _ 0 q)
      held false q = refl

-- another's minute leaves the holding
other-minute : {d : Desk} → Reachable d → (c : ℕ) (r : Runner) → r.controller ≢ c → holding (stepped d r).desk c ≡ holding d c
other-minute {d} k c r n = ⊎_elim (λ e. ap (λ (y : Desk). holding y c) e) (λ e. ap (λ (y : Desk). holding y c) e ∙ made) (step-desk d r)
  where
    made : holding (desk_after_all d (due_now r)) c ≡ holding d c
    made = (others-ready (assured_share d c) c (holding d c) d (due_now r)
        (due-not_of (sheet_of r) (plan_of r) r.size r.controller c r.minute n)
        (record { reachable = k; share = le_refl _; holds = refl })).holds

-- ---- what moves leave as it was

same_controller : (d : Desk) (r : Runner) → (stepped d r).runner.controller ≡ r.controller
unfolding stepped
same_controller d r = go (eqb (step_refusal d r) 0) (over r)
  where
    go : (t o : Bool) → (cond t (cond o r (with_minute r (r.minute + 1))) r).controller ≡ r.controller
    go true true = refl
    go true false = refl
    go false o = refl

pub controllers-kept : (y : Yard) (x : Move) (i : ℕ) → ((yard_after y x).runners i).controller ≡ (y.runners i).controller
controllers-kept y (call x) i = refl
controllers-kept y (step k) i = go (eqb i k) refl
  where
    go : (t : Bool) → eqb i k ≡ t → (cond t (stepped y.desk (y.runners k)).runner (y.runners i)).controller ≡ (y.runners i).controller
    go true q = same_controller y.desk (y.runners k) ∙ ap (λ (j : ℕ). (y.runners j).controller) (sym (eqb-true i k q))
    go false q = refl

pub moves-kept : (c : ℕ) (f g : ℕ → Runner) → ((i : ℕ) → (f i).controller ≡ (g i).controller) → (l : List Move) → moves_of c f l ≡ moves_of c g l
moves-kept c f g e [] = refl
moves-kept c f g e (call x ∷ l) = rw (moves-kept c f g e l) refl
moves-kept c f g e (step i ∷ l) = rw (e i, moves-kept c f g e l) refl

pub move_reachable : (y : Yard) (x : Move) → Reachable y.desk → Reachable (yard_after y x).desk
move_reachable y (call x) k = reachable-after k x
move_reachable y (step i) k =
    ⊎_elim (λ e. subst Reachable (sym e) k) (λ e. subst Reachable (sym e) (reachable-after_all k (due_now (y.runners i)))) (step-desk y.desk (y.runners i))

pub move-count : (y : Yard) (x : Move) → (yard_after y x).desk.count ≡ y.desk.count
move-count y (call x) = one-count y.desk x
move-count y (step i) =
    ⊎_elim (λ e. ap (λ (d : Desk). d.count) e) (λ e. ap (λ (d : Desk). d.count) e ∙ same_count y.desk (due_now (y.runners i)))
    (step-desk y.desk (y.runners i))

-- ---- one move

-- the controller's own figures are those of o
pub record Agree (c : ℕ) (y : Yard) (o : Own) : Type 0 where
  pub holds : holding y.desk c ≡ o.holds
  pub runners : (i : ℕ) → (y.runners i).controller ≡ c → y.runners i ≡ o.runners i

-- the move is no granted change
abbrev pub FirstKept : Yard → Move → Type 0
FirstKept y (call x) = is_change x ≡ true → refusal_of y.desk x ≢ 0
FirstKept y (step i) = Unit {0}

pub first-kept : (y : Yard) (x : Move) (l : List Move) → NoChange y (x ∷ l) → FirstKept y x × NoChange (yard_after y x) l
first-kept y (call x) l u = u
first-kept y (step i) l u = (tt, u)

module _ (c : ℕ) (y : Yard) (k : Reachable y.desk) (n : c < y.desk.count) where
  pub other_move : (o : Own) → Agree c y o → (x : Move) → is_of c y.runners x ≡ false
      → FirstKept y x → Agree c (yard_after y x) o
  other_move o a (call x) q u = record { holds = other_leaves k c x q u ∙ a.holds; runners = a.runners }
  other_move o a (step j) q u = record {
    holds = other-minute k c (y.runners j) (eqb-false _ _ q) ∙ a.holds;
    runners = λ i e. go i (eqb i j) refl e;
  }
    where
      go : (i : ℕ) (t : Bool) → eqb i j ≡ t → (cond (eqb i j) (stepped y.desk (y.runners j)).runner (y.runners i)).controller ≡ c
          → cond (eqb i j) (stepped y.desk (y.runners j)).runner (y.runners i) ≡ o.runners i
      go i true z e =
          let f : (stepped y.desk (y.runners j)).runner.controller ≡ c = rw z at e in
          clash (eqb (y.runners j).controller c) (eq-eqb _ _ (sym (same_controller y.desk (y.runners j)) ∙ f)) q
      go i false z e =
          let f : (y.runners i).controller ≡ c = rw z at e in
          rw z (a.runners i f)

  -- of the controller's own figures
  pub record Own-move (x : Move) : Type 0 where
    pub number : number_of y x ≡ own_number (own c y) x
    pub agree : Agree c (yard_after y x) (own_after (own c y) x)

  pub own_move : (x : Move) → is_of c y.runners x ≡ true → MoveWithin c y x → Own-move x
  own_move (call x) q w =
      let a = own_alone k c n x q w in
      record { number = a.number; agree = record { holds = a.holds; runners = λ i e. refl } }
  own_move (step j) q w =
      let r = y.runners j in
      let e : r.controller ≡ c = eqb-true _ _ q in
      let m = minute_alone y.desk k r (rw e n) (λ z. subst (λ (b : ℕ). WithinTogether b y.desk (due_now r)) (sym e) (w z)) in
      let m' = subst (λ (b : ℕ). MinuteAlone y.desk r (holding y.desk b)) e m in
      record {
        number = m'.number;
        agree = record {
          holds = subst (λ (b : ℕ). holding (stepped y.desk r).desk b
              ≡ cond (eqb (minute_number (holding y.desk c) r) 0) (alone_after (holding y.desk c) (due_now r)) (holding y.desk c)) e m'.holds;
          runners = λ i f. ap (λ (z : Runner). cond (eqb i j) z (y.runners i)) m'.runner;
        };
      }

-- ---- lists of moves

-- own figures that agree give the same
own_same : (c : ℕ) (y : Yard) (o : Own) → Agree c y o → (x : Move) → is_of c y.runners x ≡ true
    → (own_number (own c y) x ≡ own_number o x)
own_same c y o a (call x) q = ap (λ (h : ℕ). alone_number h x) a.holds
own_same c y o a (step j) q =
    ap (λ (h : ℕ). minute_number h (y.runners j)) a.holds ∙ ap (minute_number o.holds) (a.runners j (eqb-true _ _ q))

abbrev minute_holding : ℕ → Runner → ℕ
minute_holding h r = cond (eqb (minute_number h r) 0) (alone_after h (due_now r)) h

abbrev minute_runner : ℕ → Runner → Runner
minute_runner h r = cond (eqb (minute_number h r) 0) (next_minute r) r

pub own_agree : (c : ℕ) (y : Yard) (o : Own) → Agree c y o → (x : Move) → is_of c y.runners x ≡ true
    → Agree c (yard_after y x) (own_after (own c y) x) → Agree c (yard_after y x) (own_after o x)
own_agree c y o a (call x) q m = record { holds = m.holds ∙ ap (λ (h : ℕ). alone_holding h x) a.holds; runners = a.runners }
own_agree c y o a (step j) q m = record {
  holds = m.holds ∙ ap (λ (h : ℕ). minute_holding h (y.runners j)) a.holds ∙ ap (minute_holding o.holds) same;
  runners = λ i f. m.runners i f ∙ go i (eqb i j) refl f;
}
  where
    same : y.runners j ≡ o.runners j
    same = a.runners j (eqb-true _ _ q)

    go : (i : ℕ) (t : Bool) → eqb i j ≡ t → ((yard_after y (step j)).runners i).controller ≡ c
        → cond (eqb i j) (minute_runner (holding y.desk c) (y.runners j)) (y.runners i)
        ≡ cond (eqb i j) (minute_runner o.holds (o.runners j)) (o.runners i)
    go i true z f = rw z (ap (λ (h : ℕ). minute_runner h (y.runners j)) a.holds ∙ ap (minute_runner o.holds) same)
    go i false z f = rw z (a.runners i (sym (controllers-kept y (step j) i) ∙ f))

pub record Alike (c : ℕ) (y : Yard) (o : Own) (l : List Move) : Type 0 where
  pub numbers : numbers_of c y l ≡ own_numbers o (moves_of c y.runners l)
  pub agree : Agree c (yard_after_all y l) (own_after_all o (moves_of c y.runners l))

alike-step : (c : ℕ) (y : Yard) → Reachable y.desk → c < y.desk.count → (o : Own) → Agree c y o → (x : Move) (l : List Move)
    → MoveWithin c y x → FirstKept y x → ((p : Own) → Agree c (yard_after y x) p → Alike c (yard_after y x) p l)
    → (t : Bool) → is_of c y.runners x ≡ t → Alike c y o (x ∷ l)
alike-step c y k n o a x l w u rest true q =
    let m = own_move c y k n x q w in
    let g = rest (own_after o x) (own_agree c y o a x q m.agree) in
    let e = moves-kept c (yard_after y x).runners y.runners (controllers-kept y x) l in
    record {
      numbers = rw (q, m.number, own_same c y o a x q) (ap (λ (z : List ℕ). own_number o x ∷ z)
          (g.numbers ∙ ap (own_numbers (own_after o x)) e));
      agree = rw q (subst (λ (z : List Move). Agree c (yard_after_all (yard_after y x) l) (own_after_all (own_after o x) z)) e g.agree);
    }
alike-step c y k n o a x l w u rest false q =
    let g = rest o (other_move c y k n o a x q u) in
    let e = moves-kept c (yard_after y x).runners y.runners (controllers-kept y x) l in
    record {
      numbers = rw q (g.numbers ∙ ap (own_numbers o) e);
      agree = rw q (subst (λ (z : List Move). Agree c (yard_after_all (yard_after y x) l) (own_after_all o z)) e g.agree);
    }

pub alike : (l : List Move) (y : Yard) → Reachable y.desk → (c : ℕ) → c < y.desk.count → MovesWithin c y l → NoChange y l
    → (o : Own) → Agree c y o → Alike c y o l
alike [] y k c n w u o a = record { numbers = refl; agree = a }
alike (x ∷ l) y k c n w u o a =
    let f = first-kept y x l u in
    alike-step c y k n o a x l w.0 f.0
    (λ p b. alike l (yard_after y x) (move_reachable y x k) c (rw (move-count y x) n) w.1 f.1 p b) (is_of c y.runners x) refl

pub all_controllers-kept : (y : Yard) (l : List Move) (i : ℕ) → ((yard_after_all y l).runners i).controller ≡ (y.runners i).controller
all_controllers-kept y [] i = refl
all_controllers-kept y (x ∷ l) i = all_controllers-kept (yard_after y x) l i ∙ controllers-kept y x i

-- F-13, runners included: answers, final holding and final runners of a controller that keeps to its share are those that its holding
-- at the outset, its runners and its own calls and minutes give alone.
pub moves_alone : MovesAlone
moves_alone l y k c n w u =
    let g = alike l y k c n w u (own c y) (record { holds = refl; runners = λ i e. refl }) in
    record {
      numbers = g.numbers;
      holds = g.agree.holds;
      runners = λ i e. g.agree.runners i (all_controllers-kept y l i ∙ e);
    }
