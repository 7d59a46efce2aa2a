-- The test of a desk as facts: what holds of a desk that can be, and that the others' part and a controller's own add up.
use mathlib.Core.Path.{◌≡◌, refl, sym, ◌∙◌}
use mathlib.Core.Logic.{◌⊎◌, inl, inr, ⊎_elim}
use mathlib.Core.Bool.{Bool, true, false, not, ◌&&◌}
use Prim.Native.Nat.{ℕ, ◌+◌, ◌≤◌, ◌<◌, max}
use native.Mathlib.Omega.{arith}
use lib.Dec.{ltb, leb, eqb}
use lib.ListN.{length, get_or-eq_default}
use borrow.Author.Tests.{ltb-true, leb-true, eqb-true, lt-ltb, le-ltb, le-leb, eq-eqb, not-false}
use Rattle.counting.specs.Counting.{only, sum, every}
use Rattle.counting.proofs.Tests.{and_left, and_right, and_both, or_left, or_right, less-or-not, only-le, only_split}
use Rattle.counting.proofs.Sums.{sum_same, sum-add, sum_single}
use Rattle.counting.proofs.Ranges.{every-at, every_intro}
use Rattle.desk.specs.declared.Desk.{Desk}
use Rattle.desk.specs.Desk.{most_power, fewest_controllers, most_controllers, holding, assured_share, ceiling_of, reserved}
use Rattle.desk.specs.Desk.{reserved_for_others}
use Rattle.desk.specs.Checks.{in_range, full_lists, ceiling_bound, place_ok_at, desk_ok, not_of_desk}

-- ---- the parts of the test

pub record InRange (low high x : ℕ) : Type 0 where
  pub least : low ≤ x
  pub most : x ≤ high

pub range_says : (low high x : ℕ) → in_range low high x ≡ true → InRange low high x
range_says low high x e = record {
  least = leb-true low x (and_left (leb low x) (leb x high) e);
  most = leb-true x high (and_right (leb low x) (leb x high) e);
}

pub in_range_lem : (low high x : ℕ) → low ≤ x → x ≤ high → in_range low high x ≡ true
in_range_lem low high x a b = and_both (leb low x) (leb x high) (le-leb low x a) (le-leb x high b)

-- the lists have eight places
pub record Full (d : Desk) : Type 0 where
  pub held : length d.held ≡ most_controllers
  pub assured : length d.assured ≡ most_controllers
  pub ceiling : length d.ceiling ≡ most_controllers

pub full_says : (d : Desk) → full_lists d ≡ true → Full d
full_says d e =
    let a = eqb (length d.held) most_controllers in
    let b = eqb (length d.assured) most_controllers in
    let c = eqb (length d.ceiling) most_controllers in
    record {
      held = eqb-true _ _ (and_left a b (and_left (a && b) c e));
      assured = eqb-true _ _ (and_right a b (and_left (a && b) c e));
      ceiling = eqb-true _ _ (and_right (a && b) c e);
    }

pub full : (d : Desk) → Full d → full_lists d ≡ true
full d f = and_both _ _ (and_both _ _ (eq-eqb _ _ f.held) (eq-eqb _ _ f.assured)) (eq-eqb _ _ f.ceiling)

-- share and holding are within the ceiling, and the ceiling within its bound
pub record Place (d : Desk) (i : ℕ) : Type 0 where
  pub share : assured_share d i ≤ ceiling_of d i
  pub hold : holding d i ≤ ceiling_of d i
  pub bound : ceiling_of d i ≤ ceiling_bound d.limit d.count i

pub place_says : (d : Desk) (i : ℕ) → place_ok_at d i ≡ true → Place d i
place_says d i e =
    let a = leb (assured_share d i) (ceiling_of d i) in
    let b = leb (holding d i) (ceiling_of d i) in
    let c = leb (ceiling_of d i) (ceiling_bound d.limit d.count i) in
    record {
      share = leb-true _ _ (and_left a b (and_left (a && b) c e));
      hold = leb-true _ _ (and_right a b (and_left (a && b) c e));
      bound = leb-true _ _ (and_right (a && b) c e);
    }

pub place : (d : Desk) (i : ℕ) → Place d i → place_ok_at d i ≡ true
place d i p = and_both _ _ (and_both _ _ (le-leb _ _ p.share) (le-leb _ _ p.hold)) (le-leb _ _ p.bound)

pub bound-inside : (limit count i : ℕ) → i < count → ceiling_bound limit count i ≡ limit
bound-inside limit count i h = rw (lt-ltb i count h)

pub bound_past : (limit count i : ℕ) → count ≤ i → ceiling_bound limit count i ≡ 0
bound_past limit count i h = rw (le-ltb i count h)

-- what a place holds or reserves is within the limit
pub place_small : (d : Desk) (i : ℕ) → Place d i → reserved d i ≤ d.limit
place_small d i p =
    let a = p.share in
    let b = p.hold in
    let c = p.bound in
    omega (arith, only-le (ltb i d.count) d.limit)

-- ---- the whole test

pub record Sound (d : Desk) : Type 0 where
  pub lists : Full d
  pub controllers : InRange fewest_controllers most_controllers d.count
  pub limit : InRange 1 most_power d.limit
  pub places : (i : ℕ) → i < most_controllers → Place d i
  pub total : sum d.count (reserved d) ≤ d.limit

pub ok_says : (d : Desk) → desk_ok d ≡ true → Sound d
unfolding desk_ok
ok_says d e =
    let a = full_lists d in
    let b = in_range fewest_controllers most_controllers d.count in
    let c = in_range 1 most_power d.limit in
    let p = every most_controllers (place_ok_at d) in
    let t = leb (sum d.count (reserved d)) d.limit in
    let abcp = and_left (a && b && c && p) t e in
    let abc = and_left (a && b && c) p abcp in
    let ab = and_left (a && b) c abc in
    record {
      lists = full_says d (and_left a b ab);
      controllers = range_says _ _ _ (and_right a b ab);
      limit = range_says _ _ _ (and_right (a && b) c abc);
      places = λ i l. place_says d i (every-at most_controllers (place_ok_at d) (and_right (a && b && c) p abcp) i l);
      total = leb-true _ _ (and_right (a && b && c && p) t e);
    }

pub sound_ok : (d : Desk) → Sound d → desk_ok d ≡ true
unfolding desk_ok
sound_ok d s =
    and_both _ _
    (and_both _ _
    (and_both _ _
    (and_both _ _ (full d s.lists) (in_range_lem _ _ _ s.controllers.least s.controllers.most))
    (in_range_lem _ _ _ s.limit.least s.limit.most))
    (every_intro most_controllers (place_ok_at d) (λ i l. place d i (s.places i l))))
    (le-leb _ _ s.total)

-- ---- the reserves

-- all that is held or reserved: the controller's own part and the others'
pub reserves_split : (d : Desk) (c : ℕ) → c < d.count → sum d.count (reserved d) ≡ reserved d c + reserved_for_others d c
reserves_split d c l =
    let n = d.count in
    let split : sum n (reserved d) ≡ sum n (λ i. only (eqb i c) (reserved d i)) + reserved_for_others d c =
    sum_same n _ _ (λ i k. only_split (eqb i c) (reserved d i))
    ∙ sum-add n (λ i. only (eqb i c) (reserved d i)) (λ i. only (not (eqb i c)) (reserved d i)) in
    omega (arith, sum_single n (reserved d) c l)

-- a number that is no controller's holds nothing and reserves nothing
pub none-reserved : (d : Desk) → Sound d → (c : ℕ) → d.count ≤ c → reserved d c ≡ 0
none-reserved d s c l = go (less-or-not c most_controllers)
  where
    go : (c < most_controllers) ⊎ (most_controllers ≤ c) → reserved d c ≡ 0
    go (inl k) =
        let p = s.places c k in
        let e = bound_past d.limit d.count c l in
        let share = p.share in
        let hold = p.hold in
        let bound = p.bound in
        omega arith
    go (inr k) =
        let a : holding d c ≡ 0 = get_or-eq_default d.held 0 (rw s.lists.held k) in
        let b : assured_share d c ≡ 0 = get_or-eq_default d.assured 0 (rw s.lists.assured k) in
        omega arith

-- so whoever holds or is assured something is one of the controllers
pub reserved_counted : (d : Desk) → Sound d → (c : ℕ) → 0 < reserved d c → c < d.count
reserved_counted d s c p =
    ⊎_elim (λ l. l) (λ l. absurd (omega (arith, none-reserved d s c l))) (less-or-not c d.count)

-- What the code knows of a controller's place, all its figures together.
pub record Here (d : Desk) (c : ℕ) : Type 0 where
  pub sound : Sound d
  pub counted : c < d.count
  pub inside : c < most_controllers
  pub share : assured_share d c ≤ ceiling_of d c
  pub hold : holding d c ≤ ceiling_of d c
  pub ceiling : ceiling_of d c ≤ d.limit
  pub most : d.limit ≤ most_power
  pub split : sum d.count (reserved d) ≡ max (holding d c) (assured_share d c) + reserved_for_others d c
  pub total : sum d.count (reserved d) ≤ d.limit

pub here : (d : Desk) (c : ℕ) → Sound d → c < d.count → Here d c
here d c s l =
    let few : d.count ≤ most_controllers = s.controllers.most in
    let inside : c < most_controllers = omega arith in
    let p = s.places c inside in
    let e = bound-inside d.limit d.count c l in
    let b = p.bound in
    record {
      sound = s;
      counted = l;
      inside = inside;
      share = p.share;
      hold = p.hold;
      ceiling = omega arith;
      most = s.limit.most;
      split = reserves_split d c l;
      total = s.total;
    }

-- ---- check 14

pub of-desk_says : (d : Desk) (c : ℕ) → not_of_desk d c ≡ false → Here d c
unfolding not_of_desk
of-desk_says d c e =
    let counted = not-false (ltb c d.count) (or_left (not (ltb c d.count)) (not (desk_ok d)) e) in
    let ok = not-false (desk_ok d) (or_right (not (ltb c d.count)) (not (desk_ok d)) e) in
    here d c (ok_says d ok) (ltb-true c d.count counted)

-- the same from a test of it
pub here_says : {d : Desk} {c : ℕ} {b : Bool} → b ≡ not_of_desk d c → b ≡ false → Here d c
here_says e f = of-desk_says _ _ (sym e ∙ f)

pub of-desk : (d : Desk) (c : ℕ) → Sound d → c < d.count → not_of_desk d c ≡ false
unfolding not_of_desk
of-desk d c s l = rw (lt-ltb c d.count l, sound_ok d s) refl
