-- The holdings after any list of calls: granted claims less granted hand-backs, within the limit, with every reserve kept.
use mathlib.Core.Path.{◌≡◌, refl, sym, ap, ◌∙◌}
use mathlib.Core.Bool.{Bool, true, false, cond}
use mathlib.Core.List.{List, [], ◌∷◌}
use Prim.Native.Nat.{ℕ, ◌+◌, ◌-◌, ◌≤◌, ◌<◌}
use native.Mathlib.Omega.{arith}
use native.Mathlib.Nat.{le_trans}
use lib.Dec.{eqb}
use lib.ListN.{length, get_or}
use borrow.Author.Tests.{eqb-true, eqb-false}
use Rattle.counting.specs.Counting.{only, sum}
use Rattle.counting.proofs.Sums.{sum-le}
use Rattle.counting.proofs.Tests.{clash}
use Rattle.desk.specs.declared.Desk.{Desk}
use Rattle.desk.specs.Desk.{holding, reserved, with_holding, with_figures}
use Rattle.desk.specs.Reachable.{Reachable}
use Rattle.desk.specs.Calls.{opened, claim_refusal, claimed, hand_back_refusal, handed_back, looked, change_refusal, changed}
use Rattle.desk.specs.Calls.{Call, claim, hand_back, look, change, desk_after, desk_after_all, granted, claims, hands_back}
use Rattle.desk.specs.Calls.{granted_claims, granted_hand_backs, OnlyHoldings, is_change, Figures, figures_after, InForce}
use Rattle.desk.proofs.Sound.{none-reserved}
use Rattle.desk.proofs.Grants.{claim_says, hand_back_says}
use Rattle.desk.proofs.Keeps.{held_same, held_other}
use Rattle.desk.proofs.Reaches.{reached_sound}
use Rattle.desk.proofs.Padded.{zero-at}
use Rattle.desk.proofs.Lists.{opened_new, opened_reachable, reachable-after, reachable-after_all}

-- ---- one call

-- what controller c holds when controller b holds h instead, where b is c and where it is not
module _ (d : Desk) (c b h : ℕ) where
  held-own : b < length d.held → eqb b c ≡ true → holding (with_holding d b h) c ≡ h
  held-own l e = rw (← eqb-true b c e) (held_same d b h l)

  held_else : eqb b c ≡ false → holding (with_holding d b h) c ≡ holding d c
  held_else e = held_other d b h c (λ q. eqb-false b c e (sym q))

module _ (d : Desk) (r : Reachable d) (c : ℕ) where
  pub claim_adds : (b k : ℕ) → holding (desk_after d (claim b k)) c ≡ holding d c + only (granted d (claim b k)) (only (eqb b c) k)
  unfolding claimed
  claim_adds b k = go (eqb (claim_refusal d b k) 0) refl (eqb b c) refl
    where
      go : (t : Bool) → eqb (claim_refusal d b k) 0 ≡ t → (o : Bool) → eqb b c ≡ o
          → holding (cond t (with_holding d b (holding d b + k)) d) c ≡ holding d c + only t (only o k)
      go false q o e = omega arith
      go true q false e = omega (arith, held_else d c b (holding d b + k) e)
      go true q true e =
          let i = (claim_says d b k (eqb-true _ 0 q)).0.inside in
          let h = held-own d c b (holding d b + k) (omega (arith, (reached_sound r).lists.held)) e in
          omega (arith, ap (holding d) (eqb-true b c e))

  pub hand_back_takes : (b k : ℕ)
      → holding (desk_after d (hand_back b k)) c + only (granted d (hand_back b k)) (only (eqb b c) k) ≡ holding d c
  unfolding handed_back
  hand_back_takes b k = go (eqb (hand_back_refusal d b k) 0) refl (eqb b c) refl
    where
      go : (t : Bool) → eqb (hand_back_refusal d b k) 0 ≡ t → (o : Bool) → eqb b c ≡ o
          → holding (cond t (with_holding d b (holding d b - k)) d) c + only t (only o k) ≡ holding d c
      go false q o e = omega arith
      go true q false e = omega (arith, held_else d c b (holding d b - k) e)
      go true q true e =
          let p = hand_back_says d b k (eqb-true _ 0 q) in
          let i = p.0.inside in
          let w = p.1.within in
          let h = held-own d c b (holding d b - k) (omega (arith, (reached_sound r).lists.held)) e in
          omega (arith, ap (holding d) (eqb-true b c e))

-- "all holdings carry over"
pub change-holds : (d : Desk) (l : ℕ) (a t : List ℕ) → (desk_after d (change l a t)).held ≡ d.held
unfolding changed
change-holds d l a t = go (eqb (change_refusal d l a t) 0)
  where
    go : (b : Bool) → (cond b (with_figures d l a t) d).held ≡ d.held
    go true = refl
    go false = refl

pub only_zero : (t : Bool) → only t 0 ≡ 0
only_zero true = refl
only_zero false = refl

-- the holding, with what was handed back, is the holding before and what was claimed
pub one_adds_up : (d : Desk) → Reachable d → (c : ℕ) (x : Call)
    → holding (desk_after d x) c + only (granted d x) (hands_back c x) ≡ holding d c + only (granted d x) (claims c x)
unfolding looked
one_adds_up d r c (claim b k) = omega (arith, claim_adds d r c b k, only_zero (granted d (claim b k)))
one_adds_up d r c (hand_back b k) = omega (arith, hand_back_takes d r c b k, only_zero (granted d (hand_back b k)))
one_adds_up d r c (look b) = refl
one_adds_up d r c (change l a t) =
    omega (arith, ap (λ (h : List ℕ). get_or {A = ℕ} h c 0) (change-holds d l a t), only_zero (granted d (change l a t)))

-- ---- lists of calls

-- from any desk that can be
pub calls-add_up : (d : Desk) → Reachable d → (c : ℕ) (l : List Call)
    → holding (desk_after_all d l) c + granted_hand_backs c d l ≡ holding d c + granted_claims c d l
calls-add_up d r c [] = refl
calls-add_up d r c (x ∷ l) =
    let e = desk_after d x in
    omega (arith, calls-add_up e (reachable-after r x) c l, one_adds_up d r c x)

booked-only : (t : Bool) (d : Desk) (b h : ℕ) → OnlyHoldings (cond t (with_holding d b h) d) d
booked-only true d b h = record { count = refl; limit = refl; assured = refl; ceiling = refl }
booked-only false d b h = record { count = refl; limit = refl; assured = refl; ceiling = refl }

-- Calls alter nothing but holdings, changes aside.
pub one_only : (d : Desk) (x : Call) → is_change x ≡ false → OnlyHoldings (desk_after d x) d
unfolding claimed handed_back looked
one_only d (claim b k) n = booked-only (eqb (claim_refusal d b k) 0) d b (holding d b + k)
one_only d (hand_back b k) n = booked-only (eqb (hand_back_refusal d b k) 0) d b (holding d b - k)
one_only d (look b) n = record { count = refl; limit = refl; assured = refl; ceiling = refl }
one_only d (change l a t) n = clash true refl n

-- No call alters the number of controllers.
pub one-count : (d : Desk) (x : Call) → (desk_after d x).count ≡ d.count
unfolding changed
one-count d (claim b k) = (one_only d (claim b k) refl).count
one-count d (hand_back b k) = (one_only d (hand_back b k) refl).count
one-count d (look b) = (one_only d (look b) refl).count
one-count d (change l a t) = go (eqb (change_refusal d l a t) 0)
  where
    go : (b : Bool) → (cond b (with_figures d l a t) d).count ≡ d.count
    go true = refl
    go false = refl

pub same_count : (d : Desk) (l : List Call) → (desk_after_all d l).count ≡ d.count
same_count d [] = refl
same_count d (x ∷ l) = same_count (desk_after d x) l ∙ one-count d x

-- ---- "From the change on, claims are judged by the new figures"

kept_force : (f : Figures) (d e : Desk) → OnlyHoldings e d → InForce f d → InForce f e
kept_force f d e o h = record { limit = o.limit ∙ h.limit; assured = o.assured ∙ h.assured; ceiling = o.ceiling ∙ h.ceiling }

change_force : (f : Figures) (d : Desk) (l : ℕ) (a t : List ℕ) → InForce f d
    → InForce (cond (granted d (change l a t)) (record { limit = l; assured = a; ceilings = t }) f) (desk_after d (change l a t))
unfolding changed
change_force f d l a t h = go (eqb (change_refusal d l a t) 0)
  where
    go : (b : Bool) → InForce (cond b (record { limit = l; assured = a; ceilings = t }) f) (cond b (with_figures d l a t) d)
    go true = record { limit = refl; assured = refl; ceiling = refl }
    go false = h

pub figures_in_force : (f : Figures) (d : Desk) (l : List Call) → InForce f d → InForce (figures_after f d l) (desk_after_all d l)
figures_in_force f d [] h = h
figures_in_force f d (claim c k ∷ l) h =
    figures_in_force f (desk_after d (claim c k)) l (kept_force f d (desk_after d (claim c k)) (one_only d (claim c k) refl) h)
figures_in_force f d (hand_back c k ∷ l) h =
    figures_in_force f (desk_after d (hand_back c k)) l (kept_force f d (desk_after d (hand_back c k)) (one_only d (hand_back c k) refl) h)
figures_in_force f d (look c ∷ l) h =
    figures_in_force f (desk_after d (look c)) l (kept_force f d (desk_after d (look c)) (one_only d (look c) refl) h)
figures_in_force f d (change n a t ∷ l) h =
    figures_in_force (cond (granted d (change n a t)) (record { limit = n; assured = a; ceilings = t }) f)
    (desk_after d (change n a t)) l (change_force f d n a t h)

-- ---- since the first opening

module _ (limit : ℕ) (assured ceilings : List ℕ) (answered : (opened limit assured ceilings).refusal ≡ 0) (calls : List Call) where
  -- the desk as it is opened, and as the calls leave it
  abbrev new : Desk
  new = (opened limit assured ceilings).desk

  abbrev left : Desk
  left = desk_after_all new calls

  abbrev in_force : Figures
  in_force = figures_after (record { limit = limit; assured = assured; ceilings = ceilings }) new calls

  left_reachable : Reachable left
  left_reachable = reachable-after_all (opened_reachable limit assured ceilings answered) calls

  -- The number of controllers is the opening's,
  pub count_since_opening : left.count ≡ length assured
  count_since_opening = same_count new calls ∙ ap (λ (d : Desk). d.count) (opened_new limit assured ceilings answered)

  -- and the figures are those of the last granted change, or the opening's.
  pub left_in_force : InForce in_force left
  left_in_force =
      figures_in_force (record { limit = limit; assured = assured; ceilings = ceilings }) new calls
      (rw (opened_new limit assured ceilings answered) (record { limit = refl; assured = refl; ceiling = refl }))

  -- Each holding, with the granted hand-backs of its controller, is the granted claims of its controller,
  pub holdings-add_up : (c : ℕ) → holding left c + granted_hand_backs c new calls ≡ granted_claims c new calls
  holdings-add_up c =
      let none : holding new c ≡ 0 = rw (opened_new limit assured ceilings answered) (zero-at c) in
      omega (arith, calls-add_up new (opened_reachable limit assured ceilings answered) c calls)

  -- so "each holding is granted claims less granted hand-backs since opening",
  pub holding_since_opening : (c : ℕ) → holding left c ≡ granted_claims c new calls - granted_hand_backs c new calls
  holding_since_opening c = omega (arith, holdings-add_up c)

  -- and a number that is no controller's holds nothing.
  pub no_controller-holds : (c : ℕ) → length assured ≤ c → holding left c ≡ 0
  no_controller-holds c l = omega (arith, none-reserved left (reached_sound left_reachable) c (omega (arith, count_since_opening)))

  -- The holdings and the reserved rests of the assured shares, together, are never above the limit in force:
  pub reserves_within : sum (length assured) (reserved left) ≤ in_force.limit
  reserves_within =
      let t = (reached_sound left_reachable).total in
      omega (arith, left_in_force.limit, ap (λ (n : ℕ). sum n (reserved left)) count_since_opening)

  -- the more so the holdings alone, "never above the limit in total".
  pub holdings_within : sum (length assured) (holding left) ≤ in_force.limit
  holdings_within = le_trans (sum-le (length assured) (holding left) (reserved left) (λ i l. omega arith)) reserves_within
