-- What is promised of the least module count.
use Rattle.std.specs.Prelude.{◌≡◌, ◌↔◌, false, List, ℕ, ◌+◌, ◌≤◌, ◌<◌, length}
use Rattle.figures.specs.Figures.{most_modules}
use Rattle.words.specs.Words.{written}
use Rattle.schedule.specs.Plan.{Plan, Valid, plan_end}
use Rattle.schedule.specs.Cabinets.{with_modules}
use Rattle.card.specs.Decoding.{plan_on}
use Rattle.sheet_format.specs.Format.{trailer_at}
use Rattle.sheet.specs.Read.{read_refusal}
use Rattle.planable.specs.Planable.{sheet_in, no_order}
use Rattle.planner.specs.Planning.{plan_refusal, card_after}
use Rattle.sizing.specs.Sizing.{size_refusal, size_answer, size_card_after}

-- the bytes of the sheet with k in the place of N
unfoldable pub with_n : List ℕ → ℕ → List ℕ
with_n s k = written s (trailer_at s + 6) 2 k

-- An answered call's count k and card.
pub record SizedFor (s : List ℕ) (t : ℕ) (card : List ℕ) (k : ℕ) : Type 0 where
  pub some : 1 ≤ k
  pub most : k ≤ most_modules
  -- the plan on the card is a valid one for k modules, and it ends by t
  pub valid : Valid (with_modules (sheet_in s) k) (plan_on (size_card_after s t card))
  pub early : plan_end (with_modules (sheet_in s) k) (plan_on (size_card_after s t card)) ≤ t
  -- "No smaller count from 1 on has a valid plan that ends by T, whichever way it was found."
  pub least : (i : ℕ) → 1 ≤ i → i < k → (P : Plan) → Valid (with_modules (sheet_in s) i) P → t < plan_end (with_modules (sheet_in s) i) P

abbrev pub SizeAnswered : Type 0
SizeAnswered = (s : List ℕ) (t : ℕ) (card : List ℕ) → size_refusal s t (length card) ≡ 0
    → SizedFor s t card (size_answer s t (length card)).modules

-- 20 exactly where 1 to 7, 19 and 9 find nothing and no count from 1 to 64 has a valid plan that ends by t
abbrev pub NoCountExactly : Type 0
NoCountExactly = (s : List ℕ) (t room : ℕ) → read_refusal s ≡ 0 → no_order (sheet_in s) ≡ false
    → (size_refusal s t room ≡ 20)
    ↔ ((k : ℕ) → 1 ≤ k → k ≤ most_modules → (P : Plan) → Valid (with_modules (sheet_in s) k) P
    → t < plan_end (with_modules (sheet_in s) k) P)

-- "the card that planning gives for that count": planning the same bytes with the count in N's place is answered, and leaves the same card
abbrev pub SizeCardIsPlanned : Type 0
SizeCardIsPlanned = (s : List ℕ) (t : ℕ) (card : List ℕ) → size_refusal s t (length card) ≡ 0
    → let k = (size_answer s t (length card)).modules in
    (plan_refusal (with_n s k) (length card) ≡ 0) × (card_after (with_n s k) card ≡ size_card_after s t card)

-- "The sheet's own N is checked but otherwise unused": two sheets that differ in N alone are answered alike
abbrev pub SizeIgnoresN : Type 0
SizeIgnoresN = (s : List ℕ) (t k : ℕ) (card : List ℕ) → read_refusal s ≡ 0 → 1 ≤ k → k ≤ most_modules
    → (size_answer (with_n s k) t (length card) ≡ size_answer s t (length card))
    × (size_card_after (with_n s k) t card ≡ size_card_after s t card)
