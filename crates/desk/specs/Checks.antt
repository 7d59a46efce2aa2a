-- C-11 to C-18, and 21 and 22 of F-7: each test is true where its check fails. A call gives the first that fails.
use Rattle.std.specs.Prelude.{Bool, not, ◌&&◌, ◌||◌, List, [], ◌∷◌, ℕ, ◌+◌, max, ltb, leb, eqb, length, get_or}
use Rattle.counting.specs.Counting.{only, sum, every, any}
use Rattle.checking.specs.Checking.{Check}
use Rattle.desk.specs.declared.Desk.{Desk}
use Rattle.desk.specs.Desk.{most_power, fewest_controllers, most_controllers, holding, assured_share, ceiling_of, reserved}
use Rattle.desk.specs.Desk.{reserved_for_others}

-- x is low to high
abbrev pub in_range : ℕ → ℕ → ℕ → Bool
in_range low high x = leb low x && leb x high

-- ---- opening: the limit, the assured shares and the ceilings

-- 11. "The two lists differ in length, or that length is not 2 to 8."
unfoldable pub wrong_lengths : List ℕ → List ℕ → Bool
wrong_lengths assured ceilings =
    not (eqb (length assured) (length ceilings)) || not (in_range fewest_controllers most_controllers (length assured))

-- "an assured share exceeds its ceiling, or a ceiling exceeds L"
abbrev pub wrong_pair : ℕ → ℕ → ℕ → Bool
wrong_pair limit assured ceiling = ltb ceiling assured || ltb limit ceiling

abbrev pub some_pair_wrong : ℕ → List ℕ → List ℕ → Bool
some_pair_wrong limit assured ceilings = any (length assured) (λ i. wrong_pair limit (get_or assured i 0) (get_or ceilings i 0))

-- 12. "L is 0 or above" 400,000 (F-6), "an assured share exceeds its ceiling, or a ceiling exceeds L."
unfoldable pub wrong_figures : ℕ → List ℕ → List ℕ → Bool
wrong_figures limit assured ceilings = not (in_range 1 most_power limit) || some_pair_wrong limit assured ceilings

abbrev pub shares_in_all : List ℕ → ℕ
shares_in_all assured = sum (length assured) (λ i. get_or assured i 0)

-- 13. "The assured shares add up to more than L."
unfoldable pub shares_exceed : ℕ → List ℕ → Bool
shares_exceed limit assured = ltb limit (shares_in_all assured)

-- ---- claims, hand-backs and looks: the desk, the controller's number and the power

-- The three lists have a place for each controller that there may be, as those of every desk in memory have.
abbrev pub full_lists : Desk → Bool
full_lists d =
    eqb (length d.held) most_controllers
    && eqb (length d.assured) most_controllers
    && eqb (length d.ceiling) most_controllers

-- A place of the desk: share and holding are within the ceiling, and the ceiling within L, or 0 past the last controller.
abbrev pub ceiling_bound : ℕ → ℕ → ℕ → ℕ
ceiling_bound limit count i = only (ltb i count) limit

abbrev pub place_ok : ℕ → ℕ → ℕ → ℕ → Bool
place_ok held assured ceiling bound = leb assured ceiling && leb held ceiling && leb ceiling bound

abbrev pub place_ok_at : Desk → ℕ → Bool
place_ok_at d i = place_ok (holding d i) (assured_share d i) (ceiling_of d i) (ceiling_bound d.limit d.count i)

-- A test of the desks "that an answered opening and later calls can leave". Those are the desks of `Reachable`;
-- that the test is true of these and of no others is the theorem `reachable_when`.
unfoldable pub desk_ok : Desk → Bool
desk_ok d =
    full_lists d
    && in_range fewest_controllers most_controllers d.count
    && in_range 1 most_power d.limit
    && every most_controllers (place_ok_at d)
    && leb (sum d.count (reserved d)) d.limit

-- 14. "The controller … number is not below the count of controllers …,
-- or the desk is one that no answered opening and later calls can leave."
unfoldable pub not_of_desk : Desk → ℕ → Bool
not_of_desk d c = not (ltb c d.count) || not (desk_ok d)

-- 15. "The call is for 0", hundreds of watts now.
abbrev pub for_nothing : ℕ → Bool
for_nothing k = eqb k 0

-- 16. "The claim would pass the controller's ceiling."
abbrev pub passes_ceiling : Desk → ℕ → ℕ → Bool
passes_ceiling d c k = ltb (ceiling_of d c) (holding d c + k)

-- 17. "The claim does not fit beside the others' holdings and reserved shares."
abbrev pub does_not_fit : Desk → ℕ → ℕ → Bool
does_not_fit d c k = ltb d.limit (holding d c + k + reserved_for_others d c)

-- 18. "The hand-back exceeds the holding."
abbrev pub exceeds_holding : Desk → ℕ → ℕ → Bool
exceeds_holding d c k = ltb (holding d c) k

-- ---- a change of the figures: the desk, the new limit, the new shares and the new ceilings

-- 11 "also refuses a changed number of controllers".
unfoldable pub wrong_count : Desk → List ℕ → List ℕ → Bool
wrong_count d assured ceilings = wrong_lengths assured ceilings || not (eqb (length assured) d.count)

-- 21. "some holding exceeds its new ceiling"
unfoldable pub some_holds_more : Desk → List ℕ → Bool
some_holds_more d ceilings = any d.count (λ i. ltb (get_or ceilings i 0) (holding d i))

-- "the holdings, each raised to its new assured share where that is larger", added up
abbrev pub raised_in_all : Desk → List ℕ → ℕ
raised_in_all d assured = sum d.count (λ i. max (holding d i) (get_or assured i 0))

-- 22. They "add up to more than the new L".
unfoldable pub raised_exceed : Desk → ℕ → List ℕ → Bool
raised_exceed d limit assured = ltb limit (raised_in_all d assured)

-- ---- in order

-- "Opening checks 11 to 13; claims 14 to 17; hand-backs 14, 15, 18; looks 14."
abbrev pub open_checks : ℕ → List ℕ → List ℕ → List Check
open_checks limit assured ceilings =
    (11, wrong_lengths assured ceilings) ∷ (12, wrong_figures limit assured ceilings) ∷ (13, shares_exceed limit assured) ∷ []

-- the checks of a claim and of a hand-back on a desk that can be, by one of its controllers
abbrev pub booking_checks : Desk → ℕ → ℕ → List Check
booking_checks d c k = (15, for_nothing k) ∷ (16, passes_ceiling d c k) ∷ (17, does_not_fit d c k) ∷ []

abbrev pub return_checks : Desk → ℕ → ℕ → List Check
return_checks d c k = (15, for_nothing k) ∷ (18, exceeds_holding d c k) ∷ []

abbrev pub claim_checks : Desk → ℕ → ℕ → List Check
claim_checks d c k = (14, not_of_desk d c) ∷ booking_checks d c k

abbrev pub hand_back_checks : Desk → ℕ → ℕ → List Check
hand_back_checks d c k = (14, not_of_desk d c) ∷ return_checks d c k

abbrev pub look_checks : Desk → ℕ → List Check
look_checks d c = (14, not_of_desk d c) ∷ []

-- the checks of a change on a desk that can be: "12 and 13 apply to the new figures", 21 "checked after 13", 22 "checked after 21"
abbrev pub figure_checks : Desk → ℕ → List ℕ → List ℕ → List Check
figure_checks d limit assured ceilings =
    (11, wrong_count d assured ceilings)
    ∷ (12, wrong_figures limit assured ceilings)
    ∷ (13, shares_exceed limit assured)
    ∷ (21, some_holds_more d ceilings)
    ∷ (22, raised_exceed d limit assured)
    ∷ []

-- "14, for the desk, comes before 11"
abbrev pub change_checks : Desk → ℕ → List ℕ → List ℕ → List Check
change_checks d limit assured ceilings = (14, not (desk_ok d)) ∷ figure_checks d limit assured ceilings
