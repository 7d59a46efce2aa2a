-- Openings and calls as rows, with the answer that is expected, and the test that a row holds.
use Rattle.std.specs.Prelude.{Bool, true, false, ◌&&◌, List, [], ◌∷◌, ℕ, eqb}
use Rattle.desk.specs.declared.Desk.{Desk}
use Rattle.desk.specs.Calls.{Call, claim, hand_back, look, change, opened, looked, changed, refusal_of, desk_after}

-- the figure that a call shows: a look's power, and 0 for a claim, a hand-back or a change
abbrev pub figure_of : Desk → Call → ℕ
figure_of d (claim c k) = 0
figure_of d (hand_back c k) = 0
figure_of d (look c) = (looked d c).power
figure_of d (change l a t) = 0

-- a desk written out
abbrev pub desk : ℕ → ℕ → List ℕ → List ℕ → List ℕ → Desk
desk n limit held assured ceiling = record { count = n; limit = limit; held = held; assured = assured; ceiling = ceiling }

-- a call, the number and the figure that it gives, and the holdings on the desk that it hands back
pub record Step : Type 0 where
  pub call : Call
  pub refusal : ℕ
  pub figure : ℕ
  pub held : List ℕ

abbrev pub step : Call → ℕ → ℕ → List ℕ → Step
step x r f h = record { call = x; refusal = r; figure = f; held = h }

-- `opens`: opening with this limit, these shares and ceilings gives this number and this desk.
-- `runs`: the calls on the desk, one after another, answer so, and alter nothing but the holdings.
-- `changes`: on this desk a change to this limit, these shares and ceilings gives this number and this desk.
pub data Row : Type 0 where
  opens : ℕ → List ℕ → List ℕ → ℕ → Desk → Row
  runs : Desk → List Step → Row
  changes : Desk → ℕ → List ℕ → List ℕ → ℕ → Desk → Row

-- the desk d with these holdings
abbrev pub holding_on : Desk → List ℕ → Desk
holding_on d h = desk d.count d.limit h d.assured d.ceiling

-- ---- the test that a row holds

abbrev pub same_list : List ℕ → List ℕ → Bool
same_list [] [] = true
same_list [] (b ∷ m) = false
same_list (a ∷ l) [] = false
same_list (a ∷ l) (b ∷ m) = eqb a b && same_list l m

abbrev pub same_desk : Desk → Desk → Bool
same_desk d e =
    eqb d.count e.count
    && eqb d.limit e.limit
    && same_list d.held e.held
    && same_list d.assured e.assured
    && same_list d.ceiling e.ceiling

abbrev pub steps_hold : Desk → List Step → Bool
steps_hold d [] = true
steps_hold d (s ∷ l) =
    eqb (refusal_of d s.call) s.refusal
    && eqb (figure_of d s.call) s.figure
    && same_desk (desk_after d s.call) (holding_on d s.held)
    && steps_hold (holding_on d s.held) l

abbrev pub holds : Row → Bool
holds (opens limit assured ceilings r d) =
    eqb (opened limit assured ceilings).refusal r && same_desk (opened limit assured ceilings).desk d
holds (runs d l) = steps_hold d l
holds (changes d limit assured ceilings r e) =
    eqb (changed d limit assured ceilings).refusal r && same_desk (changed d limit assured ceilings).desk e

abbrev pub all_hold : List Row → Bool
all_hold [] = true
all_hold (r ∷ l) = holds r && all_hold l
