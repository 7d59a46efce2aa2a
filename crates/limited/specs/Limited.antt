-- What planning with a limit answers. Where the search gives up, the order on the card and the bound are free; all else is not.
use Rattle.std.specs.Prelude.{◌≡◌, Bool, cond, List, ◌++◌, ℕ, ◌≤◌, drop}
use Rattle.schedule.specs.Plan.{Sheet}
use Rattle.schedule.specs.ListPlan.{Order}
use Rattle.schedule.specs.TieRule.{Best, end_of}
use Rattle.card.specs.Card.{card_size, card_of}
use Rattle.search.specs.Search.{no_limit}
use Rattle.limited.specs.declared.Limited.{Limited}

-- a refused call's answer
abbrev pub refused_with : ℕ → Limited
refused_with k = record { refusal = k; end = 0; bound = 0; exact = 0 }

-- the mark of an answer that is planning's, or not
abbrev pub mark_of : Bool → ℕ
mark_of exact = cond exact 1 0

-- An answered call of the sheet T: what was lent as the card, what it holds afterwards, and the order o that the card has.
pub record WrittenFor (T : Sheet) (card after : List ℕ) (limit : ℕ) (o : List ℕ) (r : Limited) : Type 0 where
  pub refusal : r.refusal ≡ 0
  pub order : Order T o
  pub written : after ≡ card_of T o ++ drop (card_size T.jobs) card
  pub end : r.end ≡ end_of T o
  pub bound : (p : List ℕ) → Order T p → r.bound ≤ end_of T p
  -- marked, it is the tie rule's order
  pub exact : r.exact ≡ 1 → Best T o
  pub mark : r.exact ≤ 1
  -- without a limit it is marked
  pub unlimited : limit ≡ no_limit → r.exact ≡ 1

-- for some order
abbrev pub LimitedCard : Sheet → List ℕ → List ℕ → ℕ → Limited → Type 0
LimitedCard T card after limit r = (o : List ℕ) × WrittenFor T card after limit o r
