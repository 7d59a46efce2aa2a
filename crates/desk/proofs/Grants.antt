-- What it takes for no check of a call to fail, and so what an answered opening and a granted claim, hand-back or change tell.
use mathlib.Core.Path.{◌≡◌, refl}
use mathlib.Core.Bool.{Bool, true, false, not, cond}
use mathlib.Core.List.{List}
use Prim.Native.Nat.{ℕ, ◌+◌, ◌≤◌, ◌<◌}
use native.Mathlib.Omega.{arith}
use lib.Dec.{ltb, eqb}
use lib.ListN.{length, get_or}
use borrow.Author.Tests.{ltb-false, eqb-true, eqb-false, le-ltb, eq-eqb, ne_eqb, not-false}
use Rattle.counting.proofs.Tests.{or_left, or_right}
use Rattle.counting.proofs.Ranges.{any_none, none_any}
use Rattle.std.specs.Prelude.{Ok, Err}
use Rattle.checking.specs.Checking.{first_failing}
use Rattle.checking.specs.declared.Refusal.{Refusal}
use Rattle.checking.specs.Refusals.{number_of}
use Rattle.checking.proofs.Numbers.{number-some}
use Rattle.checking.proofs.Order.{all_passed, none_failing}
use Rattle.desk.specs.declared.Desk.{Desk}
use Rattle.desk.specs.Desk.{most_power, fewest_controllers, most_controllers, holding, ceiling_of, reserved_for_others, no_desk}
use Rattle.desk.specs.Checks.{in_range, wrong_lengths, wrong_pair, some_pair_wrong, wrong_figures, shares_in_all, shares_exceed}
use Rattle.desk.specs.Checks.{not_of_desk, open_checks, booking_checks, return_checks, figure_checks}
use Rattle.desk.specs.Checks.{wrong_count, some_holds_more, raised_in_all, raised_exceed}
use Rattle.desk.specs.Calls.{open_refusal, opened, claim_refusal, hand_back_refusal, answered, opened_by}
use Rattle.desk.proofs.Sound.{InRange, range_says, in_range_lem, Sound, Here, of-desk_says, of-desk}

-- ---- opening

-- one controller's share and ceiling are in order
pub record Pair (limit assured ceiling : ℕ) : Type 0 where
  pub share : assured ≤ ceiling
  pub top : ceiling ≤ limit

pub pair_says : (limit assured ceiling : ℕ) → wrong_pair limit assured ceiling ≡ false → Pair limit assured ceiling
pair_says limit assured ceiling e = record {
  share = ltb-false _ _ (or_left (ltb ceiling assured) (ltb limit ceiling) e);
  top = ltb-false _ _ (or_right (ltb ceiling assured) (ltb limit ceiling) e);
}

pub record Opens (limit : ℕ) (assured ceilings : List ℕ) : Type 0 where
  pub same : length assured ≡ length ceilings
  pub controllers : InRange fewest_controllers most_controllers (length assured)
  pub power : InRange 1 most_power limit
  pub pairs : (i : ℕ) → i < length assured → Pair limit (get_or assured i 0) (get_or ceilings i 0)
  pub total : shares_in_all assured ≤ limit

-- what the first of the checks tells
pub lengths_say : (assured ceilings : List ℕ) → wrong_lengths assured ceilings ≡ false
    → (length assured ≡ length ceilings) × InRange fewest_controllers most_controllers (length assured)
unfolding wrong_lengths
lengths_say assured ceilings e =
    let few = in_range fewest_controllers most_controllers (length assured) in
    let same = eqb (length assured) (length ceilings) in
    (eqb-true _ _ (not-false same (or_left _ (not few) e)), range_says _ _ _ (not-false few (or_right (not same) _ e)))

module _ (limit : ℕ) (assured ceilings : List ℕ) where
  pub pairs_say : some_pair_wrong limit assured ceilings ≡ false
      → (i : ℕ) → i < length assured → Pair limit (get_or assured i 0) (get_or ceilings i 0)
  pairs_say e i l =
      pair_says limit _ _ (any_none (length assured) (λ k. wrong_pair limit (get_or assured k 0) (get_or ceilings k 0)) e i l)

  -- the second: each share is within the largest limit
  pub figures_small : wrong_figures limit assured ceilings ≡ false → (i : ℕ) → i < length assured → get_or assured i 0 ≤ most_power
  unfolding wrong_figures
  figures_small e i l =
      let small = in_range 1 most_power limit in
      let right = pairs_say (or_right (not small) _ e) i l in
      let top = (range_says 1 most_power limit (not-false small (or_left _ (some_pair_wrong limit assured ceilings) e))).most in
      omega (arith, right.share, right.top)

  pub open_says : (opened limit assured ceilings).refusal ≡ 0 → Opens limit assured ceilings
  unfolding opened open_refusal wrong_figures shares_exceed
  open_says e =
      let p = all_passed (open_checks limit assured ceilings) refl e in
      let a = lengths_say assured ceilings p.0 in
      let b = p.1.0 in
      let small = in_range 1 most_power limit in
      record {
        same = a.0;
        controllers = a.1;
        power = range_says _ _ _ (not-false small (or_left _ (some_pair_wrong limit assured ceilings) b));
        pairs = pairs_say (or_right (not small) _ b);
        total = ltb-false _ _ p.1.1.0;
      }

  pub opens : Opens limit assured ceilings → open_refusal limit assured ceilings ≡ 0
  unfolding open_refusal first_failing wrong_lengths wrong_figures shares_exceed
  opens o =
      let right : some_pair_wrong limit assured ceilings ≡ false =
      none_any (length assured) (λ i. wrong_pair limit (get_or assured i 0) (get_or ceilings i 0))
      (λ i l. rw (le-ltb _ _ (o.pairs i l).share, le-ltb _ _ (o.pairs i l).top) refl) in
      rw (
        eq-eqb _ _ o.same,
        in_range_lem fewest_controllers most_controllers _ o.controllers.least o.controllers.most,
        in_range_lem 1 most_power _ o.power.least o.power.most,
        right,
        le-ltb _ _ o.total,
      ) refl

-- ---- what a call answers

module _ (d e : Desk) (n : ℕ) where
  -- a refusal by the number n, and a desk where n is 0, are answered as a call with that number is
  pub refused_answer : (r : Refusal) → number_of r ≡ n → answered d (Err r) ≡ record { refusal = n; desk = cond (eqb n 0) e d }
  refused_answer r q = rw (← q, ne_eqb (number_of r) 0 (number-some r)) refl

  pub granted_answer : 0 ≡ n → answered d (Ok e) ≡ record { refusal = n; desk = cond (eqb n 0) e d }
  granted_answer q = rw (← q) refl

-- opening too
module _ (e : Desk) (n : ℕ) where
  pub refused_opening : (r : Refusal) → number_of r ≡ n → opened_by (Err r) ≡ record { refusal = n; desk = cond (eqb n 0) e no_desk }
  refused_opening r q = rw (← q, ne_eqb (number_of r) 0 (number-some r)) refl

  pub granted_opening : 0 ≡ n → opened_by (Ok e) ≡ record { refusal = n; desk = cond (eqb n 0) e no_desk }
  granted_opening q = rw (← q) refl

-- ---- claims and hand-backs

-- "granted when its holding plus k is within its ceiling, and when that sum, plus for every other controller …, is within L"
pub record Fits (d : Desk) (c k : ℕ) : Type 0 where
  pub one : 1 ≤ k
  pub under : holding d c + k ≤ ceiling_of d c
  pub beside : holding d c + k + reserved_for_others d c ≤ d.limit

-- the controller holds what it hands back
pub record Holds (d : Desk) (c k : ℕ) : Type 0 where
  pub one : 1 ≤ k
  pub within : k ≤ holding d c

module _ (d : Desk) (c k : ℕ) where
  pub booking_says : first_failing (booking_checks d c k) ≡ 0 → Fits d c k
  booking_says e =
      let p = all_passed (booking_checks d c k) refl e in
      let some : k ≡ 0 → ⊥ = eqb-false k 0 p.0 in
      record { one = omega arith; under = ltb-false _ _ p.1.0; beside = ltb-false _ _ p.1.1.0 }

  pub booking_fits : Fits d c k → first_failing (booking_checks d c k) ≡ 0
  booking_fits f =
      none_failing (booking_checks d c k)
      (ne_eqb k 0 (λ q. omega (arith, f.one)), (le-ltb _ _ f.under, (le-ltb _ _ f.beside, tt)))

  pub return_says : first_failing (return_checks d c k) ≡ 0 → Holds d c k
  return_says e =
      let p = all_passed (return_checks d c k) refl e in
      let some : k ≡ 0 → ⊥ = eqb-false k 0 p.0 in
      record { one = omega arith; within = ltb-false _ _ p.1.0 }

  pub return-holds : Holds d c k → first_failing (return_checks d c k) ≡ 0
  return-holds h = none_failing (return_checks d c k) (ne_eqb k 0 (λ q. omega (arith, h.one)), (le-ltb _ _ h.within, tt))

  -- a granted call is by a controller of a desk that can be
  pub claim_says : claim_refusal d c k ≡ 0 → Here d c × Fits d c k
  unfolding claim_refusal first_failing
  claim_says e = go (not_of_desk d c) refl
    where
      go : (b : Bool) → not_of_desk d c ≡ b → Here d c × Fits d c k
      go true q = let z : ◌≡◌ {A = ℕ} 14 0 = rw q at e in absurd (omega arith)
      go false q = (of-desk_says d c q, booking_says (rw q at e))

  pub claim-granted : Sound d → c < d.count → Fits d c k → claim_refusal d c k ≡ 0
  unfolding claim_refusal first_failing
  claim-granted s l f = rw (of-desk d c s l) (booking_fits f)

  pub hand_back_says : hand_back_refusal d c k ≡ 0 → Here d c × Holds d c k
  unfolding hand_back_refusal first_failing
  hand_back_says e = go (not_of_desk d c) refl
    where
      go : (b : Bool) → not_of_desk d c ≡ b → Here d c × Holds d c k
      go true q = let z : ◌≡◌ {A = ℕ} 14 0 = rw q at e in absurd (omega arith)
      go false q = (of-desk_says d c q, return_says (rw q at e))

  pub hand_back-granted : Sound d → c < d.count → Holds d c k → hand_back_refusal d c k ≡ 0
  unfolding hand_back_refusal first_failing
  hand_back-granted s l h = rw (of-desk d c s l) (return-holds h)

-- ---- new figures

-- what it takes for a running desk to get new figures
pub record Changes (d : Desk) (limit : ℕ) (assured ceilings : List ℕ) : Type 0 where
  pub opens : Opens limit assured ceilings
  pub count : length assured ≡ d.count
  pub holds : (i : ℕ) → i < d.count → holding d i ≤ get_or ceilings i 0
  pub total : raised_in_all d assured ≤ limit

module _ (d : Desk) (limit : ℕ) (assured ceilings : List ℕ) where
  pub figures_say : first_failing (figure_checks d limit assured ceilings) ≡ 0 → Changes d limit assured ceilings
  unfolding wrong_count some_holds_more raised_exceed opened open_refusal
  figures_say e =
      let p = all_passed (figure_checks d limit assured ceilings) refl e in
      let same = not (eqb (length assured) d.count) in
      record {
        opens = open_says limit assured ceilings
            (none_failing (open_checks limit assured ceilings)
            (or_left (wrong_lengths assured ceilings) same p.0, (p.1.0, (p.1.1.0, tt))));
        count = eqb-true _ _ (not-false (eqb (length assured) d.count) (or_right (wrong_lengths assured ceilings) same p.0));
        holds = λ i l. ltb-false _ _ (any_none d.count (λ k. ltb (get_or ceilings k 0) (holding d k)) p.1.1.1.0 i l);
        total = ltb-false _ _ p.1.1.1.1.0;
      }
