-- F-13 with runners: where all keep to their shares in one merging they do in every, and every merging ends in the same yard.
use mathlib.Core.Path.{◌≡◌, refl, sym, ap, ◌∙◌, subst}
use mathlib.Core.Logic.{⊎_elim}
use mathlib.Core.Bool.{Bool, true, false}
use mathlib.Core.List.{List, [], ◌∷◌}
use Prim.Native.Nat.{ℕ, ◌+◌, ◌≤◌, ◌<◌}
use native.Mathlib.Omega.{arith}
use lib.Dec.{eqb}
use lib.ListN.{get_or}
use lib.Seq.{ext_get_or}
use borrow.Author.Tests.{eqb-true}
use Rattle.counting.proofs.Tests.{clash, less-or-not}
use Rattle.desk.specs.declared.Desk.{Desk}
use Rattle.desk.specs.Desk.{holding, assured_share}
use Rattle.desk.specs.Reachable.{Reachable}
use Rattle.desk.specs.Calls.{Call, claim, hand_back, look, change, desk_after, desk_after_all, granted}
use Rattle.desk.proofs.Sound.{none-reserved}
use Rattle.desk.proofs.Reaches.{reached_sound}
use Rattle.desk.proofs.Lists.{reachable-after}
use Rattle.desk.specs.Calls.{OnlyHoldings}
use Rattle.desk.proofs.Holdings.{one_only, one-count}
use Rattle.assurance.specs.Following.{bears}
use Rattle.runner.specs.declared.Runner.{Runner}
use Rattle.runner.specs.Runner.{sheet_of, plan_of, due_now, runner_ok}
use Rattle.runner.specs.Moves.{Yard, Move, call, step, yard_after}
use Rattle.runner.proofs.Running.{step-desk}
use Rattle.neighbours.specs.Alone.{alone_number, alone_holding, KeepsWithin}
use Rattle.neighbours.specs.Moves.{Own, own_after, own_after_all, is_of, moves_of, yard_after_all, WithinTogether, MoveWithin, MovesWithin}
use Rattle.neighbours.specs.Moves.{NoChange, own, MergingsSame}
use Rattle.neighbours.proofs.Alone.{own_alone, unchanged-only}
use Rattle.neighbours.proofs.Moves.{OwnAll, due-own, not_changes, Agree, FirstKept, first-kept, own_move, own_agree, other_move}
use Rattle.neighbours.proofs.Moves.{move_reachable, move-count, controllers-kept, moves-kept, moves_alone}

-- ---- what calls made together, and moves, leave as it was

same-only : (d : Desk) → OnlyHoldings d d
same-only d = record { count = refl; limit = refl; assured = refl; ceiling = refl }

then-only : (d e f : Desk) → OnlyHoldings f e → OnlyHoldings e d → OnlyHoldings f d
then-only d e f a b = record {
  count = a.count ∙ b.count;
  limit = a.limit ∙ b.limit;
  assured = a.assured ∙ b.assured;
  ceiling = a.ceiling ∙ b.ceiling;
}

calls-only : (d : Desk) (c : ℕ) (l : List Call) → OwnAll c l → OnlyHoldings (desk_after_all d l) d
calls-only d c [] o = same-only d
calls-only d c (x ∷ l) o =
    then-only d (desk_after d x) _ (calls-only (desk_after d x) c l o.1) (one_only d x (not_changes c x o.0))

move-only : (y : Yard) (x : Move) → FirstKept y x → OnlyHoldings (yard_after y x).desk y.desk
move-only y (call x) u = unchanged-only y.desk x u
move-only y (step i) u =
    let r = y.runners i in
    ⊎_elim (λ e. subst (λ (d : Desk). OnlyHoldings d y.desk) (sym e) (same-only y.desk))
    (λ e. subst (λ (d : Desk). OnlyHoldings d y.desk) (sym e)
    (calls-only y.desk r.controller (due_now r) (due-own (sheet_of r) (plan_of r) r.size r.controller r.minute)))
    (step-desk y.desk r)

moves-only : (l : List Move) (y : Yard) → NoChange y l → OnlyHoldings (yard_after_all y l).desk y.desk
moves-only [] y u = same-only y.desk
moves-only (x ∷ l) y u =
    let f = first-kept y x l u in
    then-only y.desk (yard_after y x).desk _ (moves-only l (yard_after y x) f.1) (move-only y x f.0)

share_of_lem : (c : ℕ) (d e : Desk) → OnlyHoldings e d → assured_share e c ≡ assured_share d c
share_of_lem c d e o = ap (λ (l : List ℕ). get_or {A = ℕ} l c 0) o.assured

-- ---- keeping to the share, of the controller's own figures alone

abbrev CallOwn : ℕ → ℕ → Call → Type 0
CallOwn a h (claim b k) = h + k ≤ a
CallOwn a h (hand_back b k) = Unit {0}
CallOwn a h (look b) = Unit {0}
CallOwn a h (change n x t) = Unit {0}

abbrev CallsOwn : ℕ → ℕ → List Call → Type 0
CallsOwn a h [] = Unit {0}
CallsOwn a h (x ∷ l) = CallOwn a h x × (eqb (alone_number h x) 0 ≡ true → CallsOwn a (alone_holding h x) l)

abbrev MoveOwn : ℕ → Own → Move → Type 0
MoveOwn a o (call x) = CallOwn a o.holds x
MoveOwn a o (step i) = runner_ok (o.runners i) ≡ true → CallsOwn a o.holds (due_now (o.runners i))

abbrev MovesOwn : ℕ → Own → List Move → Type 0
MovesOwn a o [] = Unit {0}
MovesOwn a o (x ∷ l) = MoveOwn a o x × MovesOwn a (own_after o x) l

call_there : (c : ℕ) (d : Desk) (x : Call) → bears c x ≡ true → KeepsWithin c d x → CallOwn (assured_share d c) (holding d c) x
call_there c d (claim b k) q w = w q
call_there c d (hand_back b k) q w = tt
call_there c d (look b) q w = tt
call_there c d (change l a t) q w = tt

call_back : (c : ℕ) (d : Desk) (x : Call) → CallOwn (assured_share d c) (holding d c) x → KeepsWithin c d x
call_back c d (claim b k) w = λ q. w
call_back c d (hand_back b k) w = tt
call_back c d (look b) w = tt
call_back c d (change l a t) w = tt

other_within : (c : ℕ) (d : Desk) (x : Call) → bears c x ≡ false → KeepsWithin c d x
other_within c d (claim b k) q = λ z. clash (eqb b c) z q
other_within c d (hand_back b k) q = tt
other_within c d (look b) q = tt
other_within c d (change n a t) q = tt

calls_there : (l : List Call) {d : Desk} → Reachable d → (c : ℕ) → c < d.count → OwnAll c l → WithinTogether c d l
    → CallsOwn (assured_share d c) (holding d c) l
calls_there [] r c n b w = tt
calls_there (x ∷ l) {d} r c n b w =
    let a = own_alone r c n x b.0 w.0 in (
      call_there c d x b.0 w.0,
      λ q.
          let g : granted d x ≡ true = ap (λ (k : ℕ). eqb k 0) a.number ∙ q in
          let s = share_of_lem c d (desk_after d x) (one_only d x (not_changes c x b.0)) in
          subst (λ (k : ℕ). CallsOwn (assured_share d c) k l) a.holds
          (subst (λ (k : ℕ). CallsOwn k (holding (desk_after d x) c) l) s
          (calls_there l (reachable-after r x) c (rw (one-count d x) n) b.1 (w.1 g))),
    )

calls_back : (l : List Call) {d : Desk} → Reachable d → (c : ℕ) → c < d.count → OwnAll c l
    → CallsOwn (assured_share d c) (holding d c) l → WithinTogether c d l
calls_back [] r c n b w = tt
calls_back (x ∷ l) {d} r c n b w =
    let v = call_back c d x w.0 in
    let a = own_alone r c n x b.0 v in (
      v,
      λ g.
          let q : eqb (alone_number (holding d c) x) 0 ≡ true = ap (λ (k : ℕ). eqb k 0) (sym a.number) ∙ g in
          let s = share_of_lem c d (desk_after d x) (one_only d x (not_changes c x b.0)) in
          calls_back l (reachable-after r x) c (rw (one-count d x) n) b.1
          (subst (λ (k : ℕ). CallsOwn k (holding (desk_after d x) c) l) (sym s)
          (subst (λ (k : ℕ). CallsOwn (assured_share d c) k l) (sym a.holds) (w.1 q))),
    )

module _ (c : ℕ) (y : Yard) (k : Reachable y.desk) (n : c < y.desk.count) (o : Own) (a : Agree c y o) where
  move_there : (x : Move) → is_of c y.runners x ≡ true → MoveWithin c y x → MoveOwn (assured_share y.desk c) o x
  move_there (call x) q w = subst (λ (h : ℕ). CallOwn (assured_share y.desk c) h x) a.holds (call_there c y.desk x q w)
  move_there (step i) q w = λ e.
      let r = y.runners i in
      let m : r.controller ≡ c = eqb-true _ _ q in
      let s = a.runners i m in
      let f = subst (λ (b : ℕ). OwnAll b (due_now r)) m (due-own (sheet_of r) (plan_of r) r.size r.controller r.minute) in
      let g = calls_there (due_now r) k c n f (w (ap runner_ok s ∙ e)) in
      subst (λ (z : Runner). CallsOwn (assured_share y.desk c) o.holds (due_now z)) s
      (subst (λ (h : ℕ). CallsOwn (assured_share y.desk c) h (due_now r)) a.holds g)

  move_back : (x : Move) → is_of c y.runners x ≡ true → MoveOwn (assured_share y.desk c) o x → MoveWithin c y x
  move_back (call x) q w = call_back c y.desk x (subst (λ (h : ℕ). CallOwn (assured_share y.desk c) h x) (sym a.holds) w)
  move_back (step i) q w = λ e.
      let r = y.runners i in
      let m : r.controller ≡ c = eqb-true _ _ q in
      let s = a.runners i m in
      let f = subst (λ (b : ℕ). OwnAll b (due_now r)) m (due-own (sheet_of r) (plan_of r) r.size r.controller r.minute) in
      calls_back (due_now r) k c n f
      (subst (λ (h : ℕ). CallsOwn (assured_share y.desk c) h (due_now r)) (sym a.holds)
      (subst (λ (z : Runner). CallsOwn (assured_share y.desk c) o.holds (due_now z)) (sym s) (w (ap runner_ok (sym s) ∙ e))))

-- ---- lists of moves

other_move_within : (c : ℕ) (y : Yard) (x : Move) → is_of c y.runners x ≡ false → MoveWithin c y x
other_move_within c y (call x) q = other_within c y.desk x q
other_move_within c y (step i) q = λ e. none y.desk (due_now r) (due-own (sheet_of r) (plan_of r) r.size r.controller r.minute)
  where
    r : Runner
    r = y.runners i

    own_of : (x : Call) → bears r.controller x ≡ true → bears c x ≡ false
    own_of (claim b k) p = subst (λ (z : ℕ). eqb z c ≡ false) (sym (eqb-true b r.controller p)) q
    own_of (hand_back b k) p = subst (λ (z : ℕ). eqb z c ≡ false) (sym (eqb-true b r.controller p)) q
    own_of (look b) p = refl
    own_of (change l a t) p = refl

    none : (d : Desk) (l : List Call) → OwnAll r.controller l → WithinTogether c d l
    none d [] o = tt
    none d (x ∷ l) o = (other_within c d x (own_of x o.0), λ g. none (desk_after d x) l o.1)

own_there : (c : ℕ) (y : Yard) → Reachable y.desk → c < y.desk.count → (o : Own) → Agree c y o → (x : Move) (l : List Move)
    → MoveWithin c y x → FirstKept y x
    → ((p : Own) → Agree c (yard_after y x) p → MovesOwn (assured_share (yard_after y x).desk c) p (moves_of c (yard_after y x).runners l))
    → (t : Bool) → is_of c y.runners x ≡ t → MovesOwn (assured_share y.desk c) o (moves_of c y.runners (x ∷ l))
own_there c y k n o a x l w u rest true q =
    let m = own_move c y k n x q w in
    let g = rest (own_after o x) (own_agree c y o a x q m.agree) in
    let e = moves-kept c (yard_after y x).runners y.runners (controllers-kept y x) l in
    let s = share_of_lem c y.desk (yard_after y x).desk (move-only y x u) in
    rw q (
      move_there c y k n o a x q w,
      subst (λ (z : List Move). MovesOwn (assured_share y.desk c) (own_after o x) z) e
          (subst (λ (z : ℕ). MovesOwn z (own_after o x) (moves_of c (yard_after y x).runners l)) s g),
    )
own_there c y k n o a x l w u rest false q =
    let g = rest o (other_move c y k n o a x q u) in
    let e = moves-kept c (yard_after y x).runners y.runners (controllers-kept y x) l in
    let s = share_of_lem c y.desk (yard_after y x).desk (move-only y x u) in
    rw q (subst (λ (z : List Move). MovesOwn (assured_share y.desk c) o z) e
    (subst (λ (z : ℕ). MovesOwn z o (moves_of c (yard_after y x).runners l)) s g))

within_there : (l : List Move) (y : Yard) → Reachable y.desk → (c : ℕ) → c < y.desk.count → MovesWithin c y l → NoChange y l
    → (o : Own) → Agree c y o → MovesOwn (assured_share y.desk c) o (moves_of c y.runners l)
within_there [] y k c n w u o a = tt
within_there (x ∷ l) y k c n w u o a =
    let f = first-kept y x l u in
    own_there c y k n o a x l w.0 f.0
    (λ p b. within_there l (yard_after y x) (move_reachable y x k) c (rw (move-count y x) n) w.1 f.1 p b) (is_of c y.runners x) refl

own_back : (c : ℕ) (y : Yard) → Reachable y.desk → c < y.desk.count → (o : Own) → Agree c y o → (x : Move) (l : List Move)
    → FirstKept y x → MovesOwn (assured_share y.desk c) o (moves_of c y.runners (x ∷ l))
    → ((p : Own) → Agree c (yard_after y x) p → MovesOwn (assured_share (yard_after y x).desk c) p (moves_of c (yard_after y x).runners l)
    → MovesWithin c (yard_after y x) l)
    → (t : Bool) → is_of c y.runners x ≡ t → MovesWithin c y (x ∷ l)
own_back c y k n o a x l u w rest true q =
    let v : MovesOwn (assured_share y.desk c) o (x ∷ moves_of c y.runners l) = rw q at w in
    let b = move_back c y k n o a x q v.0 in
    let m = own_move c y k n x q b in
    let e = moves-kept c (yard_after y x).runners y.runners (controllers-kept y x) l in
    let s = share_of_lem c y.desk (yard_after y x).desk (move-only y x u) in (
      b,
      rest (own_after o x) (own_agree c y o a x q m.agree)
          (subst (λ (z : ℕ). MovesOwn z (own_after o x) (moves_of c (yard_after y x).runners l)) (sym s)
          (subst (λ (z : List Move). MovesOwn (assured_share y.desk c) (own_after o x) z) (sym e) v.1)),
    )
own_back c y k n o a x l u w rest false q =
    let v : MovesOwn (assured_share y.desk c) o (moves_of c y.runners l) = rw q at w in
    let e = moves-kept c (yard_after y x).runners y.runners (controllers-kept y x) l in
    let s = share_of_lem c y.desk (yard_after y x).desk (move-only y x u) in (
      other_move_within c y x q,
      rest o (other_move c y k n o a x q u)
          (subst (λ (z : ℕ). MovesOwn z o (moves_of c (yard_after y x).runners l)) (sym s)
          (subst (λ (z : List Move). MovesOwn (assured_share y.desk c) o z) (sym e) v)),
    )

within_back : (l : List Move) (y : Yard) → Reachable y.desk → (c : ℕ) → c < y.desk.count → NoChange y l
    → (o : Own) → Agree c y o → MovesOwn (assured_share y.desk c) o (moves_of c y.runners l) → MovesWithin c y l
within_back [] y k c n u o a w = tt
within_back (x ∷ l) y k c n u o a w =
    let f = first-kept y x l u in
    own_back c y k n o a x l f.0 w
    (λ p b v. within_back l (yard_after y x) (move_reachable y x k) c (rw (move-count y x) n) f.1 p b v) (is_of c y.runners x) refl

-- ---- mergings

all_reachable : (l : List Move) (y : Yard) → Reachable y.desk → Reachable (yard_after_all y l).desk
all_reachable [] y k = k
all_reachable (x ∷ l) y k = all_reachable l (yard_after y x) (move_reachable y x k)

module _ (y : Yard) (k : Reachable y.desk) (l m : List Move) (u : NoChange y l) (v : NoChange y m)
    (same : (c : ℕ) → c < y.desk.count → moves_of c y.runners l ≡ moves_of c y.runners m)
    (w : (c : ℕ) → c < y.desk.count → MovesWithin c y l) where
  itself : (c : ℕ) → Agree c y (own c y)
  itself c = record { holds = refl; runners = λ i e. refl }

  pub within-every : (c : ℕ) → c < y.desk.count → MovesWithin c y m
  within-every c n =
      within_back m y k c n v (own c y) (itself c)
      (subst (MovesOwn (assured_share y.desk c) (own c y)) (same c n) (within_there l y k c n (w c n) u (own c y) (itself c)))

  holdings_same : (c : ℕ) → holding (yard_after_all y l).desk c ≡ holding (yard_after_all y m).desk c
  holdings_same c = ⊎_elim inside past (less-or-not c y.desk.count)
    where
      inside : c < y.desk.count → holding (yard_after_all y l).desk c ≡ holding (yard_after_all y m).desk c
      inside n =
          (moves_alone l y k c n (w c n) u).holds
          ∙ ap (λ (z : List Move). (own_after_all (own c y) z).holds) (same c n)
          ∙ sym (moves_alone m y k c n (within-every c n) v).holds

      past : y.desk.count ≤ c → holding (yard_after_all y l).desk c ≡ holding (yard_after_all y m).desk c
      past n =
          let p = none-reserved (yard_after_all y l).desk (reached_sound (all_reachable l y k)) c (omega (arith, (moves-only l y u).count)) in
          let q = none-reserved (yard_after_all y m).desk (reached_sound (all_reachable m y k)) c (omega (arith, (moves-only m y v).count)) in
          omega arith

  desks_same : (yard_after_all y l).desk ≡ (yard_after_all y m).desk
  desks_same =
      let a = moves-only l y u in
      let b = moves-only m y v in
      let s = (reached_sound (all_reachable l y k)).lists.held in
      let t = (reached_sound (all_reachable m y k)).lists.held in
      let held = ext_get_or 0 (yard_after_all y l).desk.held (yard_after_all y m).desk.held (s ∙ sym t) (λ i z. holdings_same i) in
      λ i. record {
        count = (a.count ∙ sym b.count) i;
        limit = (a.limit ∙ sym b.limit) i;
        held = held i;
        assured = (a.assured ∙ sym b.assured) i;
        ceiling = (a.ceiling ∙ sym b.ceiling) i;
      }

  runners_same : (i : ℕ) → (y.runners i).controller < y.desk.count → (yard_after_all y l).runners i ≡ (yard_after_all y m).runners i
  runners_same i n =
      let c = (y.runners i).controller in
      (moves_alone l y k c n (w c n) u).runners i refl
      ∙ ap (λ (z : List Move). (own_after_all (own c y) z).runners i) (same c n)
      ∙ sym ((moves_alone m y k c n (within-every c n) v).runners i refl)

-- F-13: "If all keep to that, every merging of the controllers' calls ends in the same desk", and with the same runners.
pub mergings_same : MergingsSame
mergings_same y k l m u v same w = (desks_same y k l m u v same w, runners_same y k l m u v same w)
