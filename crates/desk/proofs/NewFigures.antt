-- New figures on a running desk: when its places are right with them, when it can be, and that a granted change leaves one that can be.
use mathlib.Core.Path.{◌≡◌, ap}
use mathlib.Core.Logic.{◌⊎◌, inl, inr}
use mathlib.Core.Bool.{true, false, not}
use mathlib.Core.List.{List}
use Prim.Native.Nat.{ℕ, ◌≤◌, ◌<◌}
use native.Mathlib.Omega.{arith}
use lib.Dec.{ltb}
use lib.ListN.{length, get_or}
use borrow.Author.Tests.{ltb-false, le-ltb, not-true}
use Rattle.counting.specs.Counting.{sum, every}
use Rattle.counting.proofs.Tests.{less-or-not, same_test}
use Rattle.counting.proofs.Sums.{sum_same}
use Rattle.counting.proofs.Ranges.{every-at, every_intro, any_none, none_any}
use Rattle.desk.specs.declared.Desk.{Desk}
use Rattle.desk.specs.Desk.{most_controllers, holding, reserved, with_figures}
use Rattle.desk.specs.Checks.{place_ok_at, desk_ok, some_holds_more, raised_in_all, raised_exceed}
use Rattle.desk.proofs.Sound.{Place, Sound, ok_says, sound_ok, bound-inside, bound_past, place_says, place}
use Rattle.desk.proofs.Grants.{Opens, Changes}
use Rattle.desk.proofs.Padded.{padded-inside, padded_past, padded-length}

-- a desk that can be, and figures with which a desk of as many controllers opens
module _ (d : Desk) (limit : ℕ) (assured ceilings : List ℕ) (s : Sound d) (o : Opens limit assured ceilings)
    (c : length assured ≡ d.count) where
  abbrev next : Desk
  next = with_figures d limit assured ceilings

  -- no holding exceeds its new ceiling
  abbrev Within : Type 0
  Within = (i : ℕ) → i < d.count → holding d i ≤ get_or ceilings i 0

  next_place : Within → (i : ℕ) → i < most_controllers → (i < d.count) ⊎ (d.count ≤ i) → Place next i
  next_place w i k (inl l) =
      let a = padded-inside assured i (omega arith) in
      let b = padded-inside ceilings i (omega (arith, o.same)) in
      let p = o.pairs i (omega arith) in
      let share = p.share in
      let top = p.top in
      let e = bound-inside limit d.count i l in
      let h = w i l in
      record { share = omega arith; hold = omega arith; bound = omega arith }
  next_place w i k (inr l) =
      let a = padded_past assured i (omega arith) in
      let b = padded_past ceilings i (omega (arith, o.same)) in
      let e = bound_past limit d.count i l in
      let p = s.places i k in
      let z = bound_past d.limit d.count i l in
      let h = p.hold in
      let t = p.bound in
      record { share = omega arith; hold = omega arith; bound = omega arith }

  next_reserves : sum d.count (reserved next) ≡ raised_in_all d assured
  next_reserves = sum_same d.count _ _ (λ i l. let a = padded-inside assured i (omega arith) in omega arith)

  pub next_sound : Within → raised_in_all d assured ≤ limit → Sound next
  next_sound w t =
      let m = o.controllers.most in
      record {
        lists = record {
          held = s.lists.held;
          assured = padded-length assured m;
          ceiling = padded-length ceilings (omega (arith, o.same));
        };
        controllers = s.controllers;
        limit = o.power;
        places = λ i k. next_place w i k (less-or-not i d.count);
        total = omega (arith, next_reserves);
      }

  -- ---- as the code tests it

  within : some_holds_more d ceilings ≡ false → Within
  unfolding some_holds_more
  within e i l = ltb-false _ _ (any_none d.count (λ i. ltb (get_or ceilings i 0) (holding d i)) e i l)

  -- the places are right exactly when no holding exceeds its new ceiling
  pub next-places : every most_controllers (place_ok_at next) ≡ not (some_holds_more d ceilings)
  unfolding some_holds_more
  next-places =
      same_test _ _ (λ e. ap not (none_any d.count (λ i. ltb (get_or ceilings i 0) (holding d i)) (fits e)))
      (λ e. every_intro most_controllers (place_ok_at next)
      (λ i k. place next i (next_place (within (not-true _ e)) i k (less-or-not i d.count))))
    where
      fits : every most_controllers (place_ok_at next) ≡ true → (i : ℕ) → i < d.count → ltb (get_or ceilings i 0) (holding d i) ≡ false
      fits e i l =
          let p = place_says next i (every-at most_controllers (place_ok_at next) e i (omega (arith, s.controllers.most))) in
          let b = padded-inside ceilings i (omega (arith, o.same)) in
          let h = p.hold in
          le-ltb (get_or ceilings i 0) (holding d i) (omega arith)

  -- then the desk can be exactly when the raised holdings are within the limit
  pub next_ok : some_holds_more d ceilings ≡ false → desk_ok next ≡ not (raised_exceed d limit assured)
  unfolding raised_exceed
  next_ok e =
      same_test _ _ (λ q. let t = (ok_says next q).total in ap not (le-ltb limit (raised_in_all d assured) (omega (arith, next_reserves))))
      (λ q. sound_ok next (next_sound (within e) (ltb-false limit (raised_in_all d assured) (not-true _ q))))

-- a granted change leaves a desk that can be
pub change_keeps : (d : Desk) (limit : ℕ) (assured ceilings : List ℕ) → Sound d → Changes d limit assured ceilings
    → Sound (with_figures d limit assured ceilings)
change_keeps d limit assured ceilings s f = next_sound d limit assured ceilings s f.opens f.count f.holds f.total
