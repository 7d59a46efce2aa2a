-- What the calls on a desk answer, and what a list of calls leaves: "each takes the desk that the one before it handed back".
use Rattle.std.specs.Prelude.{◌≡◌, Bool, true, false, cond, List, [], ◌∷◌, ℕ, ◌+◌, ◌-◌, min, eqb, Result, Ok, Err}
use Rattle.counting.specs.Counting.{only}
use Rattle.checking.specs.Checking.{first_failing}
use Rattle.checking.specs.declared.Refusal.{Refusal}
use Rattle.checking.specs.Refusals.{number_of}
use Rattle.desk.specs.declared.Desk.{Desk}
use Rattle.desk.specs.declared.Opened.{Opened}
use Rattle.desk.specs.declared.Booked.{Booked}
use Rattle.desk.specs.declared.Looked.{Looked}
use Rattle.desk.specs.Desk.{holding, ceiling_of, reserved_for_others, new_desk, no_desk, padded, with_holding, with_figures}
use Rattle.desk.specs.Checks.{open_checks, claim_checks, hand_back_checks, look_checks, change_checks}

-- ---- one call

unfoldable pub open_refusal : ℕ → List ℕ → List ℕ → ℕ
open_refusal limit assured ceilings = first_failing (open_checks limit assured ceilings)

-- "It is opened with a feeder limit L … a list of assured shares and a list of ceilings."
unfoldable pub opened : ℕ → List ℕ → List ℕ → Opened
opened limit assured ceilings = record {
  refusal = open_refusal limit assured ceilings;
  desk = cond (eqb (open_refusal limit assured ceilings) 0) (new_desk limit assured ceilings) no_desk;
}

unfoldable pub claim_refusal : Desk → ℕ → ℕ → ℕ
claim_refusal d c k = first_failing (claim_checks d c k)

-- A claim that is granted is booked; a refused one leaves the desk.
unfoldable pub claimed : Desk → ℕ → ℕ → Booked
claimed d c k = record {
  refusal = claim_refusal d c k;
  desk = cond (eqb (claim_refusal d c k) 0) (with_holding d c (holding d c + k)) d;
}

unfoldable pub hand_back_refusal : Desk → ℕ → ℕ → ℕ
hand_back_refusal d c k = first_failing (hand_back_checks d c k)

-- "A hand-back lowers the holding."
unfoldable pub handed_back : Desk → ℕ → ℕ → Booked
handed_back d c k = record {
  refusal = hand_back_refusal d c k;
  desk = cond (eqb (hand_back_refusal d c k) 0) (with_holding d c (holding d c - k)) d;
}

unfoldable pub look_refusal : Desk → ℕ → ℕ
look_refusal d c = first_failing (look_checks d c)

-- what is left below the ceiling, and below L beside the others: the smaller
abbrev pub room : Desk → ℕ → ℕ
room d c = min (ceiling_of d c - holding d c) (d.limit - (holding d c + reserved_for_others d c))

-- "A look gives the largest k that a claim by this controller would be granted now, 0 if none": `look_exact` says that this is it.
unfoldable pub looked : Desk → ℕ → Looked
looked d c = record {
  refusal = look_refusal d c;
  desk = d;
  power = only (eqb (look_refusal d c) 0) (room d c);
}

unfoldable pub change_refusal : Desk → ℕ → List ℕ → List ℕ → ℕ
change_refusal d limit assured ceilings = first_failing (change_checks d limit assured ceilings)

-- F-7: "A running desk takes a new L, new shares and new ceilings for the same number of controllers, and all holdings carry over."
unfoldable pub changed : Desk → ℕ → List ℕ → List ℕ → Booked
changed d limit assured ceilings = record {
  refusal = change_refusal d limit assured ceilings;
  desk = cond (eqb (change_refusal d limit assured ceilings) 0) (with_figures d limit assured ceilings) d;
}

-- ---- what the code answers by

-- the desk that the call leaves, or the refusal's number and the desk as before
abbrev pub answered : Desk → Result Desk Refusal → Booked
answered d (Ok e) = record { refusal = 0; desk = e }
answered d (Err r) = record { refusal = number_of r; desk = d }

-- the desk that is opened, or the refusal's number and the desk of zeros
abbrev pub opened_by : Result Desk Refusal → Opened
opened_by (Ok d) = record { refusal = 0; desk = d }
opened_by (Err r) = record { refusal = number_of r; desk = no_desk }

-- ---- lists of calls

-- a claim and a hand-back by the controller of that number, for so many hundreds of watts; a look; a change to a new limit,
-- new shares and new ceilings (F-7)
pub data Call : Type 0 where
  claim hand_back : ℕ → ℕ → Call
  look : ℕ → Call
  change : ℕ → List ℕ → List ℕ → Call

-- the number that the call gives, 0 where it is granted
abbrev pub refusal_of : Desk → Call → ℕ
refusal_of d (claim c k) = (claimed d c k).refusal
refusal_of d (hand_back c k) = (handed_back d c k).refusal
refusal_of d (look c) = (looked d c).refusal
refusal_of d (change l a t) = (changed d l a t).refusal

-- "hands back the desk as it then is"
abbrev pub desk_after : Desk → Call → Desk
desk_after d (claim c k) = (claimed d c k).desk
desk_after d (hand_back c k) = (handed_back d c k).desk
desk_after d (look c) = (looked d c).desk
desk_after d (change l a t) = (changed d l a t).desk

-- the desk that a list of calls leaves
abbrev pub desk_after_all : Desk → List Call → Desk
desk_after_all d [] = d
desk_after_all d (x ∷ l) = desk_after_all (desk_after d x) l

-- "a desk that an answered opening and later calls leave": `reachable_by_calls` says that these are the desks of `Reachable`
pub record LeftByCalls (d : Desk) : Type 0 where
  pub limit : ℕ
  pub assured : List ℕ
  pub ceilings : List ℕ
  pub calls : List Call
  pub answered : (opened limit assured ceilings).refusal ≡ 0
  pub leaves : desk_after_all (opened limit assured ceilings).desk calls ≡ d

-- the call is granted, "which is to say not refused"
abbrev pub granted : Desk → Call → Bool
granted d x = eqb (refusal_of d x) 0

-- what the call claims, or hands back, in controller c's name
abbrev pub claims : ℕ → Call → ℕ
claims c (claim b k) = only (eqb b c) k
claims c (hand_back b k) = 0
claims c (look b) = 0
claims c (change l a t) = 0

abbrev pub hands_back : ℕ → Call → ℕ
hands_back c (claim b k) = 0
hands_back c (hand_back b k) = only (eqb b c) k
hands_back c (look b) = 0
hands_back c (change l a t) = 0

-- "granted claims" and "granted hand-backs" of controller c in a list of calls on the desk, added up
abbrev pub granted_claims : ℕ → Desk → List Call → ℕ
granted_claims c d [] = 0
granted_claims c d (x ∷ l) = only (granted d x) (claims c x) + granted_claims c (desk_after d x) l

abbrev pub granted_hand_backs : ℕ → Desk → List Call → ℕ
granted_hand_backs c d [] = 0
granted_hand_backs c d (x ∷ l) = only (granted d x) (hands_back c x) + granted_hand_backs c (desk_after d x) l

-- the two desks differ in nothing but holdings
pub record OnlyHoldings (d e : Desk) : Type 0 where
  pub count : d.count ≡ e.count
  pub limit : d.limit ≡ e.limit
  pub assured : d.assured ≡ e.assured
  pub ceiling : d.ceiling ≡ e.ceiling

-- ---- the figures in force

abbrev pub is_change : Call → Bool
is_change (claim c k) = false
is_change (hand_back c k) = false
is_change (look c) = false
is_change (change l a t) = true

pub record Figures : Type 0 where
  pub limit : ℕ
  pub assured : List ℕ
  pub ceilings : List ℕ

-- "From the change on, claims are judged by the new figures" (F-7): those of the last granted change in the list, else those before it
abbrev pub figures_after : Figures → Desk → List Call → Figures
figures_after f d [] = f
figures_after f d (claim c k ∷ l) = figures_after f (desk_after d (claim c k)) l
figures_after f d (hand_back c k ∷ l) = figures_after f (desk_after d (hand_back c k)) l
figures_after f d (look c ∷ l) = figures_after f (desk_after d (look c)) l
figures_after f d (change n a t ∷ l) =
    figures_after (cond (granted d (change n a t)) (record { limit = n; assured = a; ceilings = t }) f) (desk_after d (change n a t)) l

-- the desk has these figures
pub record InForce (f : Figures) (d : Desk) : Type 0 where
  pub limit : d.limit ≡ f.limit
  pub assured : d.assured ≡ padded f.assured
  pub ceiling : d.ceiling ≡ padded f.ceilings
