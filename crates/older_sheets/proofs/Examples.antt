-- E1 as it was before F-2: the hypotheses of the theorems hold of it, it is E1 of today with arrivals and changeover 0, and its card is E1's.
use mathlib.Core.Path.{◌≡◌, refl, sym, ◌∙◌}
use mathlib.Core.List.{List, [], ◌∷◌, ◌++◌}
use Prim.Native.Nat.{ℕ}
use lib.ListN.{replicate}
use Rattle.counting.specs.Counting.{sum, largest, every, any, joined}
use Rattle.bits.specs.Bits.{bit, set_of}
use Rattle.checking.specs.Checking.{first_failing}
use Rattle.words.specs.Words.{number_at}
use Rattle.schedule.specs.Plan.{over_wide}
use Rattle.schedule.specs.ListPlan.{ready, first_minute, start_of, place_all}
use Rattle.schedule.specs.TieRule.{orders_after, earliest_of}
use Rattle.sheet_format.specs.Format.{record_at, places}
use Rattle.sheet_format.specs.Checks.{outside, faulty, wrong_label}
use Rattle.sheet.specs.Read.{reading}
use Rattle.card.specs.Card as card
use Rattle.planable.specs.Planable.{no_order}
use Rattle.planner.specs.Planning.{plan_refusal, best_card, card_after}
use Rattle.older_sheets.specs.Older as older
use Rattle.older_sheets.specs.Older.{before_arrivals}
use Rattle.older_sheets.specs.Relaid.{relaid, LaidOut}
use Rattle.older_sheets.proofs.Relaid.{reads_laid_out, relaid_plans}

unfoldable pub e1 : List ℕ
e1 =
    (65 ∷ 66 ∷ 67 ∷ [])
    ++ (1 ∷ 1 ∷ 10 ∷ 0 ∷ 0 ∷ 0 ∷ 0 ∷ 0 ∷ 30 ∷ 0 ∷ [])
    ++ (1 ∷ 2 ∷ 20 ∷ 0 ∷ 0 ∷ 0 ∷ 0 ∷ 0 ∷ 25 ∷ 0 ∷ [])
    ++ (1 ∷ 1 ∷ 10 ∷ 0 ∷ 0 ∷ 0 ∷ 0 ∷ 0 ∷ 30 ∷ 0 ∷ [])
    ++ (3 ∷ 0 ∷ 0 ∷ 0 ∷ 3 ∷ 0 ∷ 2 ∷ 0 ∷ [])

-- in the layout of today
unfoldable pub e1_today : List ℕ
e1_today =
    (65 ∷ 66 ∷ 67 ∷ [])
    ++ (1 ∷ 1 ∷ 10 ∷ 0 ∷ 0 ∷ 0 ∷ 0 ∷ 0 ∷ 30 ∷ 0 ∷ 0 ∷ 0 ∷ [])
    ++ (1 ∷ 2 ∷ 20 ∷ 0 ∷ 0 ∷ 0 ∷ 0 ∷ 0 ∷ 25 ∷ 0 ∷ 0 ∷ 0 ∷ [])
    ++ (1 ∷ 1 ∷ 10 ∷ 0 ∷ 0 ∷ 0 ∷ 0 ∷ 0 ∷ 30 ∷ 0 ∷ 0 ∷ 0 ∷ [])
    ++ (3 ∷ 0 ∷ 0 ∷ 0 ∷ 3 ∷ 0 ∷ 2 ∷ 0 ∷ 0 ∷ 0 ∷ [])

pub e1-relaid : relaid before_arrivals e1 ≡ e1_today
unfolding e1 e1_today relaid joined number_at
e1-relaid = refl

e1_reads : older.read_refusal before_arrivals e1 ≡ 0
unfolding e1 first_failing outside faulty wrong_label any sum older.record_at number_at
e1_reads = refl

pub e1_laid_out : LaidOut before_arrivals e1
e1_laid_out = reads_laid_out before_arrivals e1 e1_reads

-- 47 bytes, and one behind them
pub e1-card : List ℕ
e1-card =
    (0 ∷ 0 ∷ 10 ∷ 0 ∷ 1 ∷ 0 ∷ 0 ∷ 0 ∷ 0 ∷ 0 ∷ 0 ∷ 0 ∷ [])
    ++ (10 ∷ 0 ∷ 30 ∷ 0 ∷ 3 ∷ 0 ∷ 0 ∷ 0 ∷ 0 ∷ 0 ∷ 0 ∷ 0 ∷ [])
    ++ (0 ∷ 0 ∷ 10 ∷ 0 ∷ 2 ∷ 0 ∷ 0 ∷ 0 ∷ 0 ∷ 0 ∷ 0 ∷ 0 ∷ [])
    ++ (0 ∷ 2 ∷ 1 ∷ 36 ∷ 0 ∷ 0 ∷ 0 ∷ 30 ∷ 0 ∷ 3 ∷ 0 ∷ 7 ∷ [])

today : card_after (relaid before_arrivals e1) (replicate 48 7) ≡ e1-card
unfolding
    e1 relaid e1-card reading first_failing outside faulty wrong_label any sum places joined record_at number_at largest every bit set_of
    over_wide ready first_minute start_of place_all orders_after earliest_of no_order plan_refusal best_card card_after card.row_bytes card.trailer_bytes
    card.card_bytes
today = refl

-- so the card that it had
pub e1_planned : older.card_after before_arrivals e1 (replicate 48 7) ≡ e1-card
e1_planned = sym (relaid_plans before_arrivals e1 e1_laid_out (replicate 48 7) []).1 ∙ today
