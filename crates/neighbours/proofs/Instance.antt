-- An instance: two operators on a feeder of 300 kW, assured of 120 and 90 kW.
use mathlib.Core.Path.{◌≡◌, refl}
use mathlib.Core.Bool.{Bool, true, not, ◌&&◌, ◌||◌}
use mathlib.Core.List.{List, [], ◌∷◌}
use Prim.Native.Nat.{ℕ, zero, suc, ◌+◌, ◌<◌}
use native.Mathlib.Omega.{arith}
use lib.Dec.{leb, eqb}
use borrow.Author.Tests.{leb-true, not-true}
use Rattle.counting.specs.Counting.{sum, every, any}
use Rattle.counting.proofs.Tests.{clash, and_left, and_right, implied}
use Rattle.checking.specs.Checking.{first_failing}
use Rattle.desk.specs.declared.Desk.{Desk}
use Rattle.desk.specs.Desk.{holding, assured_share, new_desk}
use Rattle.desk.specs.Checks.{wrong_lengths, wrong_figures, shares_exceed, desk_ok, not_of_desk}
use Rattle.desk.specs.Reachable.{Reachable, opening}
use Rattle.desk.specs.Calls.{Call, claim, hand_back, look, change, is_change, desk_after, desk_after_all}
use Rattle.desk.specs.Calls.{claim_refusal, claimed, hand_back_refusal, handed_back, look_refusal, looked}
use Rattle.assurance.specs.Following.{own_calls}
use Rattle.neighbours.specs.Alone.{own_numbers, KeepsWithin, WithinShare, Unchanged, MergingOf}
use Rattle.neighbours.proofs.Alone.{unnoticed, same-desk}

-- ---- that a list of calls keeps to the share, as a computed test

abbrev keeps : ℕ → Desk → Call → Bool
keeps c d (claim b k) = not (eqb b c) || leb (holding d c + k) (assured_share d c)
keeps c d (hand_back b k) = true
keeps c d (look b) = true
keeps c d (change l a t) = true

abbrev keeps_all : ℕ → Desk → List Call → Bool
keeps_all c d [] = true
keeps_all c d (x ∷ l) = keeps c d x && keeps_all c (desk_after d x) l

keeps_says : (c : ℕ) (d : Desk) (x : Call) → keeps c d x ≡ true → KeepsWithin c d x
keeps_says c d (claim b k) e = λ q. leb-true _ _ (implied (eqb b c) (leb (holding d c + k) (assured_share d c)) e q)
keeps_says c d (hand_back b k) e = tt
keeps_says c d (look b) e = tt
keeps_says c d (change l a t) e = tt

within_says : (c : ℕ) (d : Desk) (l : List Call) → keeps_all c d l ≡ true → WithinShare c d l
within_says c d [] e = tt
within_says c d (x ∷ l) e = (
  keeps_says c d x (and_left (keeps c d x) (keeps_all c (desk_after d x) l) e),
  within_says c (desk_after d x) l (and_right (keeps c d x) (keeps_all c (desk_after d x) l) e),
)

-- ---- the operators' calls

abbrev feeder : Desk
feeder = new_desk 3000 (1200 ∷ 900 ∷ []) (3000 ∷ 3000 ∷ [])

opened : Reachable feeder
unfolding sum any first_failing wrong_lengths wrong_figures shares_exceed
opened = opening 3000 (1200 ∷ 900 ∷ []) (3000 ∷ 3000 ∷ []) refl

-- operator 0 takes its whole share, and asks once to hand back more than it holds; operator 1 takes its own, hands it back and takes a part
abbrev calls_of : ℕ → List Call
calls_of zero = claim 0 600 ∷ claim 0 600 ∷ hand_back 0 1300 ∷ hand_back 0 300 ∷ []
calls_of (suc zero) = claim 1 900 ∷ hand_back 1 900 ∷ claim 1 300 ∷ []
calls_of (suc (suc c)) = []

-- two mergings, the first with looks between
abbrev one_merging : List Call
one_merging =
    claim 0 600 ∷ claim 1 900 ∷ look 0 ∷ claim 0 600 ∷ hand_back 1 900 ∷ look 0 ∷ hand_back 0 1300 ∷ hand_back 0 300 ∷ claim 1 300 ∷ []

abbrev another_merging : List Call
another_merging = claim 1 900 ∷ hand_back 1 900 ∷ claim 1 300 ∷ claim 0 600 ∷ claim 0 600 ∷ hand_back 0 1300 ∷ hand_back 0 300 ∷ []

-- and operator 0's calls beside a neighbour that takes all that it can get
abbrev beside_greed : List Call
beside_greed =
    claim 1 1800 ∷ claim 0 600 ∷ claim 1 1200 ∷ claim 0 600 ∷ claim 1 1 ∷ hand_back 0 1300 ∷ hand_back 0 300 ∷ hand_back 1 1800 ∷ []

merges : (l : List Call) → own_calls 0 l ≡ calls_of 0 → own_calls 1 l ≡ calls_of 1 → MergingOf 2 calls_of l
merges l a b zero k = a
merges l a b (suc zero) k = b
merges l a b (suc (suc c)) k = absurd (omega arith)

-- no change stands there
abbrev no_change : List Call → Bool
no_change [] = true
no_change (x ∷ l) = not (is_change x) && no_change l

unchanged_says : (d : Desk) (l : List Call) → no_change l ≡ true → Unchanged d l
unchanged_says d [] e = tt
unchanged_says d (x ∷ l) e = (
  (λ q. clash (is_change x) q (not-true (is_change x) (and_left (not (is_change x)) (no_change l) e))),
  unchanged_says (desk_after d x) l (and_right (not (is_change x)) (no_change l) e),
)

-- both keep to their shares in one merging
both_within : (c : ℕ) → c < 2 → WithinShare c feeder one_merging
unfolding sum every any first_failing desk_ok not_of_desk claim_refusal claimed hand_back_refusal handed_back look_refusal looked
both_within zero k = within_says 0 feeder one_merging refl
both_within (suc zero) k = within_says 1 feeder one_merging refl
both_within (suc (suc c)) k = absurd (omega arith)

-- so the two mergings end in the same desk,
pub two_operators : desk_after_all feeder one_merging ≡ desk_after_all feeder another_merging
two_operators =
    same-desk opened calls_of one_merging another_merging (unchanged_says feeder one_merging refl) (unchanged_says feeder another_merging refl)
    (merges one_merging refl refl) (merges another_merging refl refl) both_within

within_greed : WithinShare 0 feeder beside_greed
unfolding sum every any first_failing desk_ok not_of_desk claim_refusal claimed hand_back_refusal handed_back
within_greed = within_says 0 feeder beside_greed refl

-- and operator 0 is answered the same beside a greedy neighbour: granted, granted, 18, granted.
pub greed_unnoticed : (own_numbers 0 feeder beside_greed ≡ own_numbers 0 feeder one_merging)
    × (holding (desk_after_all feeder beside_greed) 0 ≡ holding (desk_after_all feeder one_merging) 0)
greed_unnoticed =
    unnoticed beside_greed one_merging opened opened 0 (omega arith) (omega arith) within_greed (both_within 0 (omega arith))
    (unchanged_says feeder beside_greed refl) (unchanged_says feeder one_merging refl) refl refl

-- A look shows what the neighbour leaves: 150 kW, and 60 kW behind its claim of 180.
pub looks_differ : ((looked (desk_after_all feeder (claim 0 600 ∷ [])) 0).power ≡ 1500)
    × ((looked (desk_after_all feeder (claim 0 600 ∷ claim 1 1800 ∷ [])) 0).power ≡ 600)
unfolding sum every any first_failing desk_ok not_of_desk claim_refusal claimed look_refusal looked
looks_differ = (refl, refl)
