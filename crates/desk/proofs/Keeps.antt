-- A controller's holding replaced by another: what that leaves as it was, and that a granted claim or hand-back leaves a desk that can be.
use mathlib.Core.Path.{◌≡◌, refl, ap, ◌∙◌}
use mathlib.Core.Logic.{◌⊎◌, inl, inr, ◌≢◌}
use mathlib.Core.Bool.{Bool, true, false, not}
use Prim.Native.Nat.{ℕ, ◌+◌, ◌-◌, ◌≤◌, ◌<◌, max}
use native.Mathlib.Omega.{arith}
use lib.Dec.{eqb}
use lib.ListN.{length, length-set}
use lib.Seq.{get_or-set_same, get_or-set_other}
use borrow.Author.Tests.{eqb-false}
use Rattle.counting.specs.Counting.{only}
use Rattle.counting.proofs.Tests.{same_or_not}
use Rattle.counting.proofs.Sums.{sum_same}
use Rattle.desk.specs.declared.Desk.{Desk}
use Rattle.desk.specs.Desk.{most_controllers, holding, assured_share, ceiling_of, reserved, reserved_for_others, with_holding}
use Rattle.desk.proofs.Sound.{Place, Sound, here, reserves_split}
use Rattle.desk.proofs.Grants.{Fits, Holds}

pub held_same : (d : Desk) (c h : ℕ) → c < length d.held → holding (with_holding d c h) c ≡ h
held_same d c h l = get_or-set_same d.held c h 0 l

pub held_other : (d : Desk) (c h i : ℕ) → i ≢ c → holding (with_holding d c h) i ≡ holding d i
held_other d c h i n = get_or-set_other d.held c i h 0 n

-- what is reserved for the others does not depend on the controller's own holding
pub others_same : (d : Desk) (c h : ℕ) → reserved_for_others (with_holding d c h) c ≡ reserved_for_others d c
others_same d c h = sum_same d.count _ _ (λ i l. one i (eqb i c) refl)
  where
    one : (i : ℕ) (b : Bool) → eqb i c ≡ b
        → only (not (eqb i c)) (reserved (with_holding d c h) i) ≡ only (not (eqb i c)) (reserved d i)
    one i true q = rw q refl
    one i false q = rw (q, held_other d c h i (eqb-false i c q)) refl

module _ (d : Desk) (c h : ℕ) (s : Sound d) (l : c < d.count)
    (under : h ≤ ceiling_of d c) (fits : max h (assured_share d c) + reserved_for_others d c ≤ d.limit) where
  place_kept : (i : ℕ) → i < most_controllers → (i ≡ c) ⊎ (i ≢ c) → Place (with_holding d c h) i
  place_kept i k (inl q) =
      let p = s.places i k in
      let e : holding (with_holding d c h) i ≡ h = ap (holding (with_holding d c h)) q ∙ held_same d c h (omega (arith, s.lists.held)) in
      let t : ceiling_of d i ≡ ceiling_of d c = ap (ceiling_of d) q in
      record { share = p.share; hold = omega arith; bound = p.bound }
  place_kept i k (inr n) =
      let p = s.places i k in
      record { share = p.share; hold = rw (held_other d c h i n) p.hold; bound = p.bound }

  -- a holding within the ceiling that fits beside the others leaves a desk that can be
  pub sound-kept : Sound (with_holding d c h)
  sound-kept =
      let p = here d c s l in
      let e = held_same d c h (omega (arith, s.lists.held, p.inside)) in
      let r = reserves_split (with_holding d c h) c l in
      let o = others_same d c h in
      record {
        lists = record { held = length-set d.held c h ∙ s.lists.held; assured = s.lists.assured; ceiling = s.lists.ceiling };
        controllers = s.controllers;
        limit = s.limit;
        places = λ i k. place_kept i k (same_or_not i c);
        total = omega arith;
      }

-- so a granted claim and a granted hand-back do
pub claim_keeps : (d : Desk) (c k : ℕ) → Sound d → c < d.count → Fits d c k → Sound (with_holding d c (holding d c + k))
claim_keeps d c k s l f =
    let p = here d c s l in
    let a = f.under in
    let b = f.beside in
    sound-kept d c (holding d c + k) s l a (omega arith)

pub hand_back_keeps : (d : Desk) (c k : ℕ) → Sound d → c < d.count → Holds d c k → Sound (with_holding d c (holding d c - k))
hand_back_keeps d c k s l f =
    let p = here d c s l in
    let a = f.within in
    sound-kept d c (holding d c - k) s l (omega arith) (omega arith)
