-- F-9: the end of the plan that planning gives, and no card.
use Rattle.std.specs.Prelude.{◌≡◌, cond, List, ℕ, ◌+◌, eqb, length}
use Rattle.std.proofs.Math.Option.{none, some}
use Rattle.words.specs.Words.{number_at}
use Rattle.schedule.specs.Plan.{Sheet}
use Rattle.schedule.specs.TieRule.{end_of, best_order}
use Rattle.schedule.specs.Ends.{EarliestEnd}
use Rattle.card.specs.Card.{trailer_at, trailer_end}
use Rattle.planable.specs.Planable.{sheet_in, planable_refusal}
use Rattle.planner.specs.Planning.{plan_refusal, card_after}
use Rattle.earliest.specs.declared.Earliest.{Earliest}

-- the end of the tie rule's plan; `end_is_earliest` says that no valid plan ends earlier
unfoldable pub earliest_end : Sheet → ℕ
earliest_end S = elim (best_order S) [ none ↦ 0 | some o ↦ end_of S o ]

-- "Refusals 1 to 9 and 19 are as for planning; 10 is not checked."
unfoldable pub end_answer : List ℕ → Earliest
end_answer s =
    cond (eqb (planable_refusal s) 0)
    (record { refusal = 0; end = earliest_end (sheet_in s) })
    (record { refusal = planable_refusal s; end = 0 })

-- "Its number must equal the end on the full planner's card for every sheet": the end in the trailer of whatever card planning writes
abbrev pub EndOnCard : Type 0
EndOnCard = (s card : List ℕ) → plan_refusal s (length card) ≡ 0
    → ((end_answer s).refusal ≡ 0) × ((end_answer s).end ≡ number_at (card_after s card) (trailer_at (sheet_in s).jobs + trailer_end) 2)

-- it is the end of some valid plan, and no valid plan ends earlier
abbrev pub EndIsEarliest : Type 0
EndIsEarliest = (s : List ℕ) → (end_answer s).refusal ≡ 0 → EarliestEnd (sheet_in s) (end_answer s).end
