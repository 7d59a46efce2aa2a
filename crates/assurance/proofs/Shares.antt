-- Within its assured share a controller is granted what it asks, and no call of another takes that away.
use mathlib.Core.Path.{◌≡◌, refl, ap, ◌∙◌}
use mathlib.Core.Bool.{true, false, not}
use mathlib.Core.List.{List, [], ◌∷◌}
use Prim.Native.Nat.{ℕ, ◌+◌, ◌-◌, ◌≤◌}
use native.Mathlib.Omega.{arith}
use lib.ListN.{get_or}
use borrow.Author.Tests.{eq-eqb, not-true}
use Rattle.counting.specs.Counting.{only}
use Rattle.counting.proofs.Tests.{and_left, and_right}
use Rattle.desk.specs.declared.Desk.{Desk}
use Rattle.desk.specs.Desk.{holding, assured_share}
use Rattle.desk.specs.Calls.{Call, claim, hand_back, look, change, looked, refusal_of, desk_after, granted, is_change}
use Rattle.desk.proofs.Sound.{reserved_counted, here}
use Rattle.desk.proofs.Claims.{claim-granted_when, hand_back-granted_when}
use Rattle.desk.proofs.Reaches.{reached_sound}
use Rattle.desk.proofs.Lists.{reachable-after}
use Rattle.desk.proofs.Holdings.{claim_adds, hand_back_takes, only_zero, one_only, change-holds}
use Rattle.assurance.specs.Following.{bears, Ready, KeepsShare, unchanging}

-- a call that is no change leaves the shares
share-kept : (d : Desk) (x : Call) → is_change x ≡ false → (c : ℕ) → assured_share (desk_after d x) c ≡ assured_share d c
share-kept d x q c = ap (λ l. get_or {A = ℕ} l c 0) (one_only d x q).assured

-- so a list without changes keeps them
pub unchanging_keeps : (n c : ℕ) (l : List Call) (d : Desk) → unchanging l ≡ true → n ≤ assured_share d c → KeepsShare n c d l
unchanging_keeps n c [] d q h = tt
unchanging_keeps n c (x ∷ l) d q h =
    let k : n ≤ assured_share (desk_after d x) c = rw (share-kept d x (not-true (is_change x) (and_left (not (is_change x)) (unchanging l) q)) c) h in
    (k, unchanging_keeps n c l (desk_after d x) (and_right (not (is_change x)) (unchanging l) q) k)

after : {n c h : ℕ} {d : Desk} → Ready n c h d → (x : Call) → is_change x ≡ false → (m : ℕ) → holding (desk_after d x) c ≡ m
    → Ready n c m (desk_after d x)
after {n} {c} {h} {d} r x q m e =
    let same = share-kept d x q c in
    let share = r.share in
    record { reachable = reachable-after r.reachable x; share = omega arith; holds = e }

module _ {n c h : ℕ} {d : Desk} (r : Ready n c h d) where
  -- a call that does not bear the controller's number, granted or refused, a change among them that leaves it share enough
  pub other_call : (x : Call) → bears c x ≡ false → n ≤ assured_share (desk_after d x) c → Ready n c h (desk_after d x)
  unfolding looked
  other_call (look b) q m = r
  other_call (change l a t) q m = record {
    reachable = reachable-after r.reachable (change l a t);
    share = m;
    holds = ap (λ x. get_or {A = ℕ} x c 0) (change-holds d l a t) ∙ r.holds;
  }
  other_call (claim b k) q m =
      let a : holding (desk_after d (claim b k)) c ≡ holding d c + only (granted d (claim b k)) 0 =
      rw q at (claim_adds d r.reachable c b k) in
      after r (claim b k) refl h (omega (arith, only_zero (granted d (claim b k)), r.holds))
  other_call (hand_back b k) q m =
      let a : holding (desk_after d (hand_back b k)) c + only (granted d (hand_back b k)) 0 ≡ holding d c =
      rw q at (hand_back_takes d r.reachable c b k) in
      after r (hand_back b k) refl h (omega (arith, only_zero (granted d (hand_back b k)), r.holds))

  -- the controller's own claim within its share
  pub own_claim : (k : ℕ) → 1 ≤ k → h + k ≤ n → (refusal_of d (claim c k) ≡ 0) × Ready n c (h + k) (desk_after d (claim c k))
  own_claim k one fits =
      let s = reached_sound r.reachable in
      let share = r.share in
      let e = r.holds in
      let counted = reserved_counted d s c (omega arith) in
      let p = here d c s counted in
      let g = (claim-granted_when d r.reachable c counted k one).1 (omega arith, omega arith) in
      let a : holding (desk_after d (claim c k)) c ≡ holding d c + k =
      rw (eq-eqb _ 0 g, eq-eqb c c refl) at (claim_adds d r.reachable c c k) in
      (g, after r (claim c k) refl (h + k) (omega arith))

  -- the controller's own hand-back of what it holds
  pub own_hand_back : (k : ℕ) → 1 ≤ k → k ≤ h → (refusal_of d (hand_back c k) ≡ 0) × Ready n c (h - k) (desk_after d (hand_back c k))
  own_hand_back k one fits =
      let e = r.holds in
      let counted = reserved_counted d (reached_sound r.reachable) c (omega arith) in
      let g = (hand_back-granted_when d r.reachable c counted k one).1 (omega arith) in
      let a : holding (desk_after d (hand_back c k)) c + k ≡ holding d c =
      rw (eq-eqb _ 0 g, eq-eqb c c refl) at (hand_back_takes d r.reachable c c k) in
      (g, after r (hand_back c k) refl (h - k) (omega arith))
