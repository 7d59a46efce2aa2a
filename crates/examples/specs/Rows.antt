-- The table's rows, of plans, of the planning call, of the call for the least count and of the desk: what a row says, and the same as a test.
use Rattle.std.specs.Prelude.{◌≡◌, Bool, true, ◌&&◌, List, [], ◌∷◌, ℕ, eqb, length}
use Rattle.schedule.specs.Rows as plans
use Rattle.planner.specs.Planning.{plan_refusal, card_after}
use Rattle.sizing.specs.Sizing.{size_answer, size_card_after}
use Rattle.occupancy.specs.declared.Usage.{Usage}
use Rattle.usage.specs.Usage.{usage}
use Rattle.desk.specs.declared.Desk.{Desk}
use Rattle.desk.specs.Calls.{Call, opened, refusal_of, desk_after}
use Rattle.desk.specs.Rows.{figure_of}

-- what a call answers: its number, and the figure that it shows
pub record Reply : Type 0 where
  pub number : ℕ
  pub figure : ℕ

-- "granted", "done"
abbrev pub done : Reply
done = record { number = 0; figure = 0 }

-- "looks give"
abbrev pub gives : ℕ → Reply
gives k = record { number = 0; figure = k }

abbrev pub refused : ℕ → Reply
refused n = record { number = n; figure = 0 }

-- `plan`: a row of sheets and plans. `call`: planning with this sheet's bytes and this lent card gives this number and leaves these
-- bytes in the card. `size`: the least count for this sheet and this minute, with this lent card, is answered with this number and this
-- count, and leaves these bytes in the card. `desk`: opening with this limit, these assured shares and these ceilings gives this number,
-- and then the calls, one after another, answer so. `uses`: the use of the cabinet is this, of this sheet's bytes.
pub data Row : Type 0 where
  plan : plans.Row → Row
  call : List ℕ → List ℕ → ℕ → List ℕ → Row
  size : List ℕ → ℕ → List ℕ → ℕ → ℕ → List ℕ → Row
  desk : ℕ → List ℕ → List ℕ → ℕ → List (Call × Reply) → Row
  uses : List ℕ → Usage → Row

-- ---- what a row says

-- the calls answer so, each on the desk that the one before it handed back
abbrev pub Answered : Desk → List (Call × Reply) → Type 0
Answered d [] = Unit {0}
Answered d (x ∷ l) =
    (refusal_of d x.0 ≡ x.1.number) × (figure_of d x.0 ≡ x.1.figure) × Answered (desk_after d x.0) l

abbrev pub Right : Row → Type 0
Right (plan r) = plans.Right r
Right (call s card n after) = (plan_refusal s (length card) ≡ n) × (card_after s card ≡ after)
Right (size s t card n k after) =
    ((size_answer s t (length card)).refusal ≡ n) × ((size_answer s t (length card)).modules ≡ k) × (size_card_after s t card ≡ after)
Right (desk limit assured ceilings n l) =
    ((opened limit assured ceilings).refusal ≡ n) × Answered (opened limit assured ceilings).desk l
Right (uses s u) = usage s ≡ u

-- ---- the same as a test

abbrev pub answered : Desk → List (Call × Reply) → Bool
answered d [] = true
answered d (x ∷ l) = eqb (refusal_of d x.0) x.1.number && (eqb (figure_of d x.0) x.1.figure && answered (desk_after d x.0) l)

abbrev pub holds : Row → Bool
holds (plan r) = plans.holds r
holds (call s card n after) = eqb (plan_refusal s (length card)) n && plans.same_list (card_after s card) after
holds (size s t card n k after) =
    eqb (size_answer s t (length card)).refusal n
    && (eqb (size_answer s t (length card)).modules k && plans.same_list (size_card_after s t card) after)
holds (desk limit assured ceilings n l) =
    eqb (opened limit assured ceilings).refusal n && answered (opened limit assured ceilings).desk l
holds (uses s u) =
    eqb (usage s).refusal u.refusal && (eqb (usage s).per_mille u.per_mille && eqb (usage s).remainder u.remainder)

-- what stands past a table's end
abbrev pub no_row : Row
no_row = desk 0 [] [] 0 []
