-- What a list of calls leaves, whatever calls stand in it and whether they are granted or refused.
use mathlib.Core.Path.{◌≡◌, refl, sym, ap, ◌∙◌, subst}
use mathlib.Core.Logic.{◌↔◌, ◌≢◌}
use mathlib.Core.Bool.{Bool, true, false, cond}
use mathlib.Core.List.{List, [], ◌∷◌, ◌++◌}
use Prim.Native.Nat.{ℕ, ◌+◌, ◌-◌}
use lib.Dec.{eqb}
use borrow.Author.Tests.{eqb-true, ne_eqb}
use Rattle.checking.specs.Checking.{first_failing}
use Rattle.desk.specs.declared.Desk.{Desk}
use Rattle.desk.specs.Desk.{holding, new_desk, no_desk, with_holding, with_figures}
use Rattle.desk.specs.Checks.{desk_ok, figure_checks}
use Rattle.desk.specs.Reachable.{Reachable, opening, claiming, handing_back, changing}
use Rattle.desk.specs.Calls.{open_refusal, opened, claim_refusal, claimed, hand_back_refusal, handed_back, look_refusal, looked}
use Rattle.desk.specs.Calls.{change_refusal, changed, Call, claim, hand_back, look, change, refusal_of, desk_after, desk_after_all, LeftByCalls}
use Rattle.desk.proofs.Sound.{sound_ok}
use Rattle.desk.proofs.Grants.{booking_fits, return-holds, claim_says, claim-granted, hand_back_says, hand_back-granted}
use Rattle.desk.proofs.Grants.{booking_says, return_says}
use Rattle.desk.proofs.Reaches.{reached_sound}

-- ---- one call

-- Every refused call leaves the desk.
pub refused_leaves : (d : Desk) (x : Call) → refusal_of d x ≢ 0 → desk_after d x ≡ d
unfolding claimed handed_back looked changed
refused_leaves d (claim c k) n = rw (ne_eqb (claim_refusal d c k) 0 n) refl
refused_leaves d (hand_back c k) n = rw (ne_eqb (hand_back_refusal d c k) 0 n) refl
refused_leaves d (look c) n = refl
refused_leaves d (change l a t) n = rw (ne_eqb (change_refusal d l a t) 0 n) refl

-- Its other figures are 0: a refused opening's desk, and what a refused look shows.
pub refused_opening : (limit : ℕ) (assured ceilings : List ℕ) → (opened limit assured ceilings).refusal ≢ 0
    → (opened limit assured ceilings).desk ≡ no_desk
unfolding opened
refused_opening limit assured ceilings n = rw (ne_eqb (open_refusal limit assured ceilings) 0 n) refl

pub refused_look : (d : Desk) (c : ℕ) → (looked d c).refusal ≢ 0 → (looked d c).power ≡ 0
unfolding looked
refused_look d c n = rw (ne_eqb (look_refusal d c) 0 n) refl

-- Every look leaves the desk.
pub look_leaves : (d : Desk) (c : ℕ) → desk_after d (look c) ≡ d
unfolding looked
look_leaves d c = refl

-- a granted claim and a granted hand-back are booked
pub claim_booked : (d : Desk) (c k : ℕ) → claim_refusal d c k ≡ 0 → desk_after d (claim c k) ≡ with_holding d c (holding d c + k)
unfolding claimed
claim_booked d c k e = rw e refl

pub hand_back_booked : (d : Desk) (c k : ℕ) → hand_back_refusal d c k ≡ 0 → desk_after d (hand_back c k) ≡ with_holding d c (holding d c - k)
unfolding handed_back
hand_back_booked d c k e = rw e refl

-- a granted change brings the new figures
pub change_booked : (d : Desk) (l : ℕ) (a t : List ℕ) → change_refusal d l a t ≡ 0 → desk_after d (change l a t) ≡ with_figures d l a t
unfolding changed
change_booked d l a t e = rw e refl

-- of a desk that can be, 14 does not fail
pub change-behind : (d : Desk) (l : ℕ) (a t : List ℕ) → desk_ok d ≡ true → change_refusal d l a t ≡ first_failing (figure_checks d l a t)
unfolding change_refusal first_failing
change-behind d l a t e = rw e refl

-- A call, granted or refused, leaves a desk that can be.
pub reachable-after : {d : Desk} → Reachable d → (x : Call) → Reachable (desk_after d x)
unfolding claimed handed_back looked changed
reachable-after {d} r (look c) = r
reachable-after {d} r (claim c k) = go (eqb (claim_refusal d c k) 0) refl
  where
    go : (b : Bool) → eqb (claim_refusal d c k) 0 ≡ b → Reachable (cond b (with_holding d c (holding d c + k)) d)
    go true q = let p = claim_says d c k (eqb-true _ 0 q) in claiming r c k p.0.counted (booking_fits d c k p.1)
    go false q = r
reachable-after {d} r (hand_back c k) = go (eqb (hand_back_refusal d c k) 0) refl
  where
    go : (b : Bool) → eqb (hand_back_refusal d c k) 0 ≡ b → Reachable (cond b (with_holding d c (holding d c - k)) d)
    go true q = let p = hand_back_says d c k (eqb-true _ 0 q) in handing_back r c k p.0.counted (return-holds d c k p.1)
    go false q = r
reachable-after {d} r (change l a t) = go (eqb (change_refusal d l a t) 0) refl
  where
    go : (b : Bool) → eqb (change_refusal d l a t) 0 ≡ b → Reachable (cond b (with_figures d l a t) d)
    go true q = changing r l a t (sym (change-behind d l a t (sound_ok d (reached_sound r))) ∙ eqb-true _ 0 q)
    go false q = r

pub reachable-after_all : {d : Desk} → Reachable d → (l : List Call) → Reachable (desk_after_all d l)
reachable-after_all r [] = r
reachable-after_all {d = d} r (x ∷ l) = reachable-after_all {d = desk_after d x} (reachable-after r x) l

-- ---- from an answered opening

-- the desk as it is opened
pub opened_new : (limit : ℕ) (assured ceilings : List ℕ) → (opened limit assured ceilings).refusal ≡ 0
    → (opened limit assured ceilings).desk ≡ new_desk limit assured ceilings
unfolding opened
opened_new limit assured ceilings e = rw e refl

pub opened_reachable : (limit : ℕ) (assured ceilings : List ℕ) → (opened limit assured ceilings).refusal ≡ 0
    → Reachable (opened limit assured ceilings).desk
unfolding opened open_refusal
opened_reachable limit assured ceilings e = rw e (opening limit assured ceilings e)

after_last : (d : Desk) (l : List Call) (x : Call) → desk_after_all d (l ++ (x ∷ [])) ≡ desk_after (desk_after_all d l) x
after_last d [] x = refl
after_last d (y ∷ l) x = after_last (desk_after d y) l x

one_more : {d : Desk} → LeftByCalls d → (x : Call) → LeftByCalls (desk_after d x)
one_more h x = record {
  limit = h.limit;
  assured = h.assured;
  ceilings = h.ceilings;
  calls = h.calls ++ (x ∷ []);
  answered = h.answered;
  leaves = after_last _ h.calls x ∙ ap (λ (d : Desk). desk_after d x) h.leaves;
}

reachable_left : {d : Desk} → Reachable d → LeftByCalls d
unfolding open_refusal opened
reachable_left (opening limit assured ceilings e) = record {
  limit = limit;
  assured = assured;
  ceilings = ceilings;
  calls = [];
  answered = e;
  leaves = opened_new limit assured ceilings e;
}
reachable_left (claiming {d = d} r c k l e) =
    subst LeftByCalls (claim_booked d c k (claim-granted d c k (reached_sound r) l (booking_says d c k e)))
    (one_more (reachable_left r) (claim c k))
reachable_left (handing_back {d = d} r c k l e) =
    subst LeftByCalls (hand_back_booked d c k (hand_back-granted d c k (reached_sound r) l (return_says d c k e)))
    (one_more (reachable_left r) (hand_back c k))
reachable_left (changing {d = d} r l a t e) =
    subst LeftByCalls (change_booked d l a t (change-behind d l a t (sound_ok d (reached_sound r)) ∙ e))
    (one_more (reachable_left r) (change l a t))

-- The reachable desks are those that an answered opening and a list of calls leave.
pub reachable_by_calls : (d : Desk) → Reachable d ↔ LeftByCalls d
reachable_by_calls d = (
  reachable_left,
  λ h. subst Reachable h.leaves (reachable-after_all (opened_reachable h.limit h.assured h.ceilings h.answered) h.calls),
)
