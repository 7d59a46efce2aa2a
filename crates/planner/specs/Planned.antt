-- What is promised of an answered planning call, in the words of R-2 and R-3.
use Rattle.std.specs.Prelude.{◌≡◌, List, ◌++◌, ℕ, ◌+◌, ◌≤◌, drop}
use Rattle.schedule.specs.Plan.{Sheet, Plan, Valid, plan_end}
use Rattle.schedule.specs.TieRule.{Best}
use Rattle.card.specs.Card.{card_size, card_of, trailer_at, trailer_end}
use Rattle.words.specs.Words.{number_at}
use Rattle.card.specs.Decoding.{plan_on}
use Rattle.planable.specs.Planable.{sheet_in}
use Rattle.planner.specs.Planning.{card_after}

-- the plan that the card's bytes say
abbrev pub our_plan : List ℕ → List ℕ → Plan
our_plan s card = plan_on (card_after s card)

-- An answered call's card, and whatever stands behind it in the lent bytes. T is the sheet that s reads as.
pub record AnsweredFor (T : Sheet) (s card order : List ℕ) : Type 0 where
  -- the one that the tie rule names (R-2.4)
  pub best : Best T order
  pub written : card_after s card ≡ card_of T order ++ drop (card_size T.jobs) card
  -- "A plan keeps constraints (2) to (5)"
  pub valid : Valid T (our_plan s card)
  -- the end in the trailer is the plan's
  pub end : plan_end T (our_plan s card) ≡ number_at (card_after s card) (trailer_at T.jobs + trailer_end) 2
  -- "every valid plan, whoever finds it and however, ends no earlier than ours"
  pub earliest : (Q : Plan) → Valid T Q → plan_end T (our_plan s card) ≤ plan_end T Q

abbrev pub Answered : List ℕ → List ℕ → List ℕ → Type 0
Answered s = AnsweredFor (sheet_in s) s
