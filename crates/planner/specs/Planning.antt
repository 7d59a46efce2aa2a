-- What planning answers of a job sheet's bytes, and what it leaves in the lent card and working memory:
-- requirements, P and C.
use Rattle.std.specs.Prelude.{cond, List, [], ◌∷◌, ◌++◌, ℕ, eqb, ltb, length}
use Rattle.std.proofs.Math.Option.{none, some}
use Rattle.schedule.specs.Plan.{Sheet}
use Rattle.schedule.specs.TieRule.{best_order}
use Rattle.card.specs.Card.{card_size, card_of}
use Rattle.checking.specs.Checking.{Check, first_failing}
use Rattle.sheet.specs.Write.{over}
use Rattle.planable.specs.Planable.{sheet_in, planable_checks, work_after}

-- 10, against the room in the lent card
abbrev pub room_checks : Sheet → ℕ → List Check
room_checks S room = (10, ltb room (card_size S.jobs)) ∷ []

-- "planning 1 to 10"
abbrev pub plan_checks : List ℕ → ℕ → List Check
plan_checks s room = planable_checks s ++ room_checks (sheet_in s) room

unfoldable pub plan_refusal : List ℕ → ℕ → ℕ
plan_refusal s room = first_failing (plan_checks s room)

-- the card of the tie rule's plan
unfoldable pub best_card : Sheet → List ℕ
best_card S = elim (best_order S) [ none ↦ [] | some o ↦ card_of S o ]

-- the lent card afterwards: the tie rule's plan over its front; refused: as before
unfoldable pub card_after : List ℕ → List ℕ → List ℕ
card_after s card = cond (eqb (plan_refusal s (length card)) 0) (over (best_card (sheet_in s)) card) card

-- the lent working memory afterwards
abbrev pub memory_after : List ℕ → ℕ → List ℕ → List ℕ
memory_after s room memory = work_after (plan_refusal s room) memory
