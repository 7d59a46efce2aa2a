-- The test of a desk is true of the desks that an answered opening and later calls can leave, and of no others.
use mathlib.Core.Path.{◌≡◌, refl, sym, ap, ◌∙◌, subst}
use mathlib.Core.Logic.{◌⊎◌, inl, inr, ⊎_elim, ◌↔◌}
use mathlib.Core.Bool.{Bool, true, false, not}
use mathlib.Core.List.{List}
use Prim.Native.Nat.{ℕ, zero, suc, ◌+◌, ◌≤◌, ◌<◌}
use native.Mathlib.Omega.{arith}
use native.Mathlib.Nat.{zero-add}
use lib.Dec.{eqb}
use lib.ListN.{length, get_or, set, take, length-set}
use lib.Seq.{get_or-set_same, get_or-set_other, set-get_or, ext_get_or, get_or-take, length-take-le}
use Rattle.counting.specs.Counting.{only, sum}
use Rattle.counting.proofs.Tests.{less-or-not, same_or_not}
use Rattle.counting.proofs.Sums.{sum-le, sum_same}
use Rattle.desk.specs.declared.Desk.{Desk}
use Rattle.desk.specs.Desk.{most_controllers, holding, assured_share, ceiling_of, reserved, zeros, padded, new_desk, with_holding}
use Rattle.desk.specs.Checks.{shares_in_all, desk_ok}
use Rattle.desk.specs.Reachable.{Reachable, opening, claiming, handing_back, changing}
use Rattle.desk.specs.Calls.{open_refusal, opened}
use Rattle.desk.proofs.Sound.{Place, Sound, here, ok_says, sound_ok, bound-inside, bound_past}
use Rattle.desk.proofs.Grants.{Opens, open_says, opens, Fits, booking_says, booking_fits, return_says, figures_say}
use Rattle.desk.proofs.Padded.{zero-at, padded-inside, padded_past, padded-length}
use Rattle.desk.proofs.Keeps.{claim_keeps, hand_back_keeps}
use Rattle.desk.proofs.NewFigures.{change_keeps}

-- ---- one way: what is reached passes the test

module _ (limit : ℕ) (assured ceilings : List ℕ) (o : Opens limit assured ceilings) where
  abbrev new : Desk
  new = new_desk limit assured ceilings

  new-place : (i : ℕ) → (i < length assured) ⊎ (length assured ≤ i) → Place new i
  new-place i (inl l) =
      let a = padded-inside assured i l in
      let b = padded-inside ceilings i (omega (arith, o.same)) in
      let p = o.pairs i l in
      let share = p.share in
      let top = p.top in
      let e = bound-inside limit (length assured) i l in
      let z = zero-at i in
      record { share = omega arith; hold = omega arith; bound = omega arith }
  new-place i (inr l) =
      let a = padded_past assured i l in
      let b = padded_past ceilings i (omega (arith, o.same)) in
      let e = bound_past limit (length assured) i l in
      let z = zero-at i in
      record { share = omega arith; hold = omega arith; bound = omega arith }

  new_total : sum (length assured) (reserved new) ≡ shares_in_all assured
  new_total = sum_same (length assured) _ _ (λ i l. let a = padded-inside assured i l in let z = zero-at i in omega arith)

  new_sound : Sound new
  new_sound = record {
    lists = record {
      held = refl;
      assured = padded-length assured o.controllers.most;
      ceiling = let m = o.controllers.most in padded-length ceilings (omega (arith, o.same));
    };
    controllers = o.controllers;
    limit = o.power;
    places = λ i l. new-place i (less-or-not i (length assured));
    total = let t = o.total in omega (arith, new_total);
  }

pub reached_sound : {d : Desk} → Reachable d → Sound d
unfolding opened open_refusal
reached_sound (opening limit assured ceilings e) = new_sound limit assured ceilings (open_says limit assured ceilings e)
reached_sound (claiming {d = d} r c k l e) = claim_keeps d c k (reached_sound r) l (booking_says d c k e)
reached_sound (handing_back {d = d} r c k l e) = hand_back_keeps d c k (reached_sound r) l (return_says d c k e)
reached_sound (changing {d = d} r limit assured ceilings e) =
    change_keeps d limit assured ceilings (reached_sound r) (figures_say d limit assured ceilings e)

-- ---- the other way: the desk is opened, and each controller in turn claims what it holds

-- the holdings when the first i controllers have claimed theirs, and the desk then
abbrev up_to : Desk → ℕ → List ℕ
up_to d zero = zeros
up_to d (suc i) = set (up_to d i) i (holding d i)

abbrev partly : Desk → ℕ → Desk
partly d i = record { count = d.count; limit = d.limit; held = up_to d i; assured = d.assured; ceiling = d.ceiling }

up_to-length : (d : Desk) (i : ℕ) → length (up_to d i) ≡ most_controllers
up_to-length d zero = refl
up_to-length d (suc i) = length-set (up_to d i) i (holding d i) ∙ up_to-length d i

up_to-inside : (d : Desk) (i j : ℕ) → j < i → i ≤ most_controllers → get_or (up_to d i) j 0 ≡ holding d j
up_to-inside d zero j h l = absurd (omega arith)
up_to-inside d (suc i) j h l =
    ⊎_elim (λ (q : j ≡ i). rw q (get_or-set_same (up_to d i) i (holding d i) 0 (omega (arith, up_to-length d i))))
    (λ n. get_or-set_other (up_to d i) i j (holding d i) 0 n ∙ up_to-inside d i j (omega arith) (omega arith)) (same_or_not j i)

up_to_past : (d : Desk) (i j : ℕ) → i ≤ j → get_or (up_to d i) j 0 ≡ 0
up_to_past d zero j h = zero-at j
up_to_past d (suc i) j h =
    get_or-set_other (up_to d i) i j (holding d i) 0 (λ q. absurd (omega arith)) ∙ up_to_past d i j (omega arith)

up_to-le : (d : Desk) (i j : ℕ) → i ≤ most_controllers → get_or (up_to d i) j 0 ≤ holding d j
up_to-le d i j l =
    ⊎_elim (λ h. let e = up_to-inside d i j h l in omega arith) (λ h. let e = up_to_past d i j h in omega arith) (less-or-not j i)

module _ (d : Desk) (s : Sound d) where
  few : d.count ≤ most_controllers
  few = s.controllers.most

  -- past the last controller all figures are 0
  past : (i : ℕ) → d.count ≤ i → i < most_controllers → (holding d i ≡ 0) × (assured_share d i ≡ 0) × (ceiling_of d i ≡ 0)
  past i l k =
      let p = s.places i k in
      let e = bound_past d.limit d.count i l in
      let a = p.share in
      let b = p.hold in
      let c = p.bound in
      (omega arith, omega arith, omega arith)

  -- a list that is 0 past the last controller is its front, padded
  front : (l : List ℕ) → length l ≡ most_controllers → ((i : ℕ) → d.count ≤ i → i < most_controllers → get_or l i 0 ≡ 0)
      → padded (take d.count l) ≡ l
  front l e z =
      let t = take d.count l in
      let n : length t ≡ d.count = length-take-le d.count l (omega (arith, few)) in
      let m = padded-length t (omega (arith, few)) in
      ext_get_or 0 (padded t) l (m ∙ sym e)
      (λ i h. ⊎_elim (λ (q : i < d.count). padded-inside t i (omega arith) ∙ get_or-take d.count l i 0 q)
      (λ q. padded_past t i (omega arith) ∙ sym (z i q (omega arith))) (less-or-not i d.count))

  abbrev shares : List ℕ
  shares = take d.count d.assured

  abbrev tops : List ℕ
  tops = take d.count d.ceiling

  shares-length : length shares ≡ d.count
  shares-length = length-take-le d.count d.assured (omega (arith, few, s.lists.assured))

  tops-length : length tops ≡ d.count
  tops-length = length-take-le d.count d.ceiling (omega (arith, few, s.lists.ceiling))

  front_opens : Opens d.limit shares tops
  front_opens = record {
    same = shares-length ∙ sym tops-length;
    controllers = record { least = rw shares-length s.controllers.least; most = rw shares-length few };
    power = s.limit;
    pairs = λ i h.
        let inside : i < d.count = omega (arith, shares-length) in
        let a = get_or-take d.count d.assured i 0 inside in
        let b = get_or-take d.count d.ceiling i 0 inside in
        let p = here d i s inside in
        record { share = omega arith; top = omega arith };
    total =
        let a = sum_same d.count (λ i. get_or shares i 0) (assured_share d) (λ i h. get_or-take d.count d.assured i 0 h) in
        let b = sum-le d.count (assured_share d) (reserved d) (λ i h. omega arith) in
        let t = s.total in
        let v : sum d.count (λ i. get_or shares i 0) ≤ d.limit = omega arith in
        rw shares-length v;
  }

  first : Reachable (partly d 0)
  unfolding open_refusal
  first =
      let a = front d.assured s.lists.assured (λ i l k. (past i l k).1) in
      let b = front d.ceiling s.lists.ceiling (λ i l k. (past i l k).2) in
      subst Reachable (λ i. record { count = shares-length i; limit = d.limit; held = zeros; assured = a i; ceiling = b i })
      (opening d.limit shares tops (opens d.limit shares tops front_opens))

  fewer : (i j : ℕ) → i ≤ most_controllers → (b : Bool) → eqb j i ≡ b
      → only (not (eqb j i)) (reserved (partly d i) j) ≤ only (not (eqb j i)) (reserved d j)
  fewer i j l true q = rw q (omega arith)
  fewer i j l false q = let u = up_to-le d i j l in rw q (omega arith)

  next_fits : (i : ℕ) → i < d.count → 1 ≤ holding d i → Fits (partly d i) i (holding d i)
  next_fits i l one =
      let z = up_to_past d i i (omega arith) in
      let p = here d i s l in
      let f = sum-le d.count (λ j. only (not (eqb j i)) (reserved (partly d i) j)) (λ j. only (not (eqb j i)) (reserved d j))
      (λ j k. fewer i j (omega (arith, few)) (eqb j i) refl) in
      record { one = one; under = omega arith; beside = omega arith }

  next : (i : ℕ) → i < d.count → Reachable (partly d i) → Reachable (partly d (suc i))
  next i l r =
      let z = up_to_past d i i (omega arith) in
      ⊎_elim
      (λ (q : holding d i ≡ 0). subst Reachable (λ j. record {
        count = d.count;
        limit = d.limit;
        held = (sym (set-get_or (up_to d i) i 0) ∙ ap (set (up_to d i) i) (z ∙ sym q)) j;
        assured = d.assured;
        ceiling = d.ceiling;
      }) r)
      (λ q. subst Reachable (ap (with_holding (partly d i) i) (ap (λ (n : ℕ). n + holding d i) z ∙ zero-add (holding d i)))
      (claiming r i (holding d i) l (booking_fits (partly d i) i (holding d i) (next_fits i l (omega arith)))))
      (same_or_not (holding d i) 0)

  steps : (i : ℕ) → i ≤ d.count → Reachable (partly d i)
  steps zero l = first
  steps (suc i) l = next i (omega arith) (steps i (omega arith))

  all_held : up_to d d.count ≡ d.held
  all_held =
      let m = up_to-length d d.count in
      ext_get_or 0 (up_to d d.count) d.held (m ∙ sym s.lists.held)
      (λ i h. ⊎_elim (λ q. up_to-inside d d.count i q few)
      (λ q. up_to_past d d.count i q ∙ sym (past i q (omega arith)).0) (less-or-not i d.count))

  pub sound_reached : Reachable d
  sound_reached =
      subst Reachable (λ j. record { count = d.count; limit = d.limit; held = all_held j; assured = d.assured; ceiling = d.ceiling })
      (steps d.count (omega arith))

-- The desks that the test finds are those that an answered opening and later calls can leave.
pub reachable_when : (d : Desk) → (desk_ok d ≡ true) ↔ Reachable d
reachable_when d = (λ e. sound_reached d (ok_says d e), λ r. sound_ok d (reached_sound r))
