-- F-11's rows: E1's sheet and card on E9's desk with modules of 30 kW, started, stepped and refused.
use Rattle.std.specs.Prelude.{◌≡◌, Bool, ◌&&◌, List, [], ◌∷◌, ℕ, eqb, replicate}
use Rattle.schedule.specs.Rows.{same_list}
use Rattle.desk.specs.declared.Desk.{Desk}
use Rattle.desk.specs.Calls.{Call, claim, opened, desk_after_all}
use Rattle.runner.specs.declared.Runner.{Runner}
use Rattle.runner.specs.Runner.{start_refusal, new_runner, no_runner, with_minute, stepped}
use Rattle.examples.specs.Table.{sheet_with, resting_with, entry}

-- `start`: a start with this sheet, card, desk, controller and size gives this number. `step`: a step of this runner on this desk gives this
-- number, and leaves a runner with this minute and a desk with these holdings.
pub data Run : Type 0 where
  start : List ℕ → List ℕ → Desk → ℕ → ℕ → ℕ → Run
  step : Desk → Runner → ℕ → ℕ → List ℕ → Run

abbrev pub Right : Run → Type 0
Right (start s card d c size n) = start_refusal s card d c size ≡ n
Right (step d r n minute held) =
    ((stepped d r).refusal ≡ n) × ((stepped d r).runner.minute ≡ minute) × ((stepped d r).desk.held ≡ held)

abbrev pub holds : Run → Bool
holds (start s card d c size n) = eqb (start_refusal s card d c size) n
holds (step d r n minute held) =
    eqb (stepped d r).refusal n && (eqb (stepped d r).runner.minute minute && same_list (stepped d r).desk.held held)

-- what stands past a table's end
abbrev pub no_run : Run
no_run = start [] [] (opened 0 [] []).desk 0 0 1

-- ---- the rows

-- E1's sheet, and its card
abbrev pub sheet : List ℕ
sheet = sheet_with (entry 1 10 0 30 ∷ entry 2 20 0 25 ∷ entry 1 10 0 30 ∷ []) 2

abbrev pub card : List ℕ
card =
    0 ∷ 0 ∷ 10 ∷ 0 ∷ 1 ∷ 0 ∷ 0 ∷ 0 ∷ 0 ∷ 0 ∷ 0 ∷ 0
    ∷ 10 ∷ 0 ∷ 30 ∷ 0 ∷ 3 ∷ 0 ∷ 0 ∷ 0 ∷ 0 ∷ 0 ∷ 0 ∷ 0
    ∷ 0 ∷ 0 ∷ 10 ∷ 0 ∷ 2 ∷ 0 ∷ 0 ∷ 0 ∷ 0 ∷ 0 ∷ 0 ∷ 0
    ∷ 0 ∷ 2 ∷ 1
    ∷ 36 ∷ 0 ∷ 0 ∷ 0 ∷ 30 ∷ 0 ∷ 3 ∷ 0 ∷ []

-- E9's desk with modules of 30 kW, and the same behind some calls
abbrev pub behind : List Call → Desk
behind l = desk_after_all (opened 3000 (1200 ∷ 900 ∷ []) (3000 ∷ 3000 ∷ [])).desk l

-- the runner of controller 0 in a minute
abbrev pub at : ℕ → Runner
at t = with_minute (new_runner sheet card 0 300) t

-- what the two controllers hold, and 0 past them
abbrev pub holding : ℕ → ℕ → List ℕ
holding a b = a ∷ b ∷ replicate 6 0

-- the same of E1 with a changeover of 5, whose plan has B from 15 to 35
abbrev pub resting_at : ℕ → Runner
resting_at t =
    with_minute (new_runner (resting_with (entry 1 10 0 30 ∷ entry 2 20 0 25 ∷ entry 1 10 0 30 ∷ []) 2 5)
    (0 ∷ 0 ∷ 10 ∷ 0 ∷ 1 ∷ 0 ∷ 0 ∷ 0 ∷ 0 ∷ 0 ∷ 0 ∷ 0
    ∷ 15 ∷ 0 ∷ 35 ∷ 0 ∷ 3 ∷ 0 ∷ 0 ∷ 0 ∷ 0 ∷ 0 ∷ 0 ∷ 0
    ∷ 0 ∷ 0 ∷ 10 ∷ 0 ∷ 2 ∷ 0 ∷ 0 ∷ 0 ∷ 0 ∷ 0 ∷ 0 ∷ 0
    ∷ 0 ∷ 2 ∷ 1
    ∷ 36 ∷ 0 ∷ 0 ∷ 0 ∷ 35 ∷ 0 ∷ 3 ∷ 0 ∷ []) 0 300) t

unfoldable pub runs : List Run
runs =
    -- N times s is 600, and controller 0 is assured of 1200: a start is accepted up to modules of 60 kW
    start sheet card (behind []) 0 300 0
    ∷ start sheet card (behind []) 0 600 0
    -- "25 when the controller's assured share is below N times s or it holds something"
    ∷ start sheet card (behind []) 0 601 25
    ∷ start sheet card (behind (claim 0 1 ∷ [])) 0 300 25
    -- "14, then 24 when s is 0 or above 10,000, then 25 …, then 26"
    ∷ start sheet [] (behind []) 2 0 14
    ∷ start sheet [] (behind []) 0 0 24
    ∷ start sheet [] (behind []) 0 10000 25
    ∷ start sheet [] (behind []) 0 10001 24
    ∷ start sheet [] (behind []) 0 300 26
    -- planning's checks come first: E4's sheet
    ∷ start (sheet_with (entry 1 1 2 0 ∷ entry 1 1 1 0 ∷ []) 1) [] (behind []) 2 0 9
    -- E1's card is none of a sheet with a changeover: A and C end as B starts
    ∷ start (resting_with (entry 1 10 0 30 ∷ entry 2 20 0 25 ∷ entry 1 10 0 30 ∷ []) 2 5) card (behind []) 0 300 26
    -- minute 0: A and C claim a module each, beside a greedy neighbour
    ∷ step (behind (claim 1 1800 ∷ [])) (at 0) 0 1 (holding 600 1800)
    -- minute 1: nothing is due
    ∷ step (behind (claim 0 600 ∷ [])) (at 1) 0 2 (holding 600 0)
    -- minute 10: A and C hand back, then B claims both, on a full feeder
    ∷ step (behind (claim 1 1800 ∷ claim 0 600 ∷ claim 1 900 ∷ [])) (at 10) 0 11 (holding 600 1800)
    -- minute 30: B hands back; from then on a step changes nothing
    ∷ step (behind (claim 0 600 ∷ [])) (at 30) 0 31 (holding 0 0)
    ∷ step (behind (claim 1 900 ∷ [])) (at 31) 0 31 (holding 0 900)
    -- "one that no accepted start and later steps can leave, a refused start's included"
    ∷ step (behind []) (at 32) 14 32 (holding 0 0)
    ∷ step (behind []) no_runner 14 0 (holding 0 0)
    -- "gives the first such number and leaves desk and runner as before it": nothing is held that could be handed back
    ∷ step (behind (claim 1 900 ∷ [])) (at 10) 18 10 (holding 0 900)
    -- with a changeover A and C hand back at minute 15, and not at 10
    ∷ step (behind (claim 0 600 ∷ [])) (resting_at 10) 0 11 (holding 600 0)
    ∷ step (behind (claim 0 600 ∷ claim 1 1800 ∷ [])) (resting_at 15) 0 16 (holding 600 1800)
    ∷ step (behind (claim 0 600 ∷ [])) (resting_at 40) 0 41 (holding 0 0)
    ∷ []
