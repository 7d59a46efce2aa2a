-- The examples E1 to E11: a row an example, with what the requirements say of it.
use Rattle.std.specs.Prelude.{List, [], ◌∷◌, ◌++◌, ℕ, length, take, replicate}
use Rattle.schedule.specs.Plan.{Sheet}
use Rattle.schedule.specs.TieRule.{wide, circular, planned}
use Rattle.schedule.specs.Rows.{job, sheet, slot, answers, places}
use Rattle.sheet_format.specs.declared.Job.{Job}
use Rattle.sheet_format.specs.Format.{jobs_in, sheet_bytes, cabinet}
use Rattle.desk.specs.Calls.{Call, claim, hand_back, look}
use Rattle.occupancy.specs.declared.Usage.{Usage}
use Rattle.usage.specs.Usage.{no_usage}
use Rattle.examples.specs.Rows.{Reply, done, gives, refused, Row, plan, call, size, desk, uses}

-- E1's sheet, and E4's: "Two jobs each before the other"
abbrev pub e1 : Sheet
e1 = sheet (job 1 10 [] ∷ job 2 20 [] ∷ job 1 10 [] ∷ []) 2

abbrev pub e4 : Sheet
e4 = sheet (job 1 1 (1 ∷ []) ∷ job 1 1 (0 ∷ []) ∷ []) 1

-- a sheet's bytes: jobs with the labels A, B, C, D, on N modules that rest so many minutes between two jobs
abbrev pub resting_with : List Job → ℕ → ℕ → List ℕ
resting_with jobs N changeover =
    sheet_bytes (jobs_in jobs) (length jobs) (take (length jobs) (65 ∷ 66 ∷ 67 ∷ 68 ∷ [])) (cabinet N changeover)

-- and without a changeover
abbrev pub sheet_with : List Job → ℕ → List ℕ
sheet_with jobs N = resting_with jobs N 0

-- a job of a sheet: modules, minutes, the set of its earlier jobs, departure, arrival
abbrev pub arriving : ℕ → ℕ → ℕ → ℕ → ℕ → Job
arriving modules minutes earlier departure arrival =
    record { label_len = 1; modules = modules; minutes = minutes; earlier = earlier; departure = departure; arrival = arrival }

-- a job whose bus is there from minute 0
abbrev pub entry : ℕ → ℕ → ℕ → ℕ → Job
entry modules minutes earlier departure =
    arriving modules minutes earlier departure 0

-- E1's bytes
abbrev pub e1_bytes : List ℕ
e1_bytes = sheet_with (entry 1 10 0 30 ∷ entry 2 20 0 25 ∷ entry 1 10 0 30 ∷ []) 2

-- E9's calls: "looks give 7 and 6; controller 0 claims 7, granted; 1 more, 17; controller 1 claims 3, granted; 1 more, 17"
abbrev pub e9 : List (Call × Reply)
e9 =
    (look 0, gives 7)
    ∷ (look 1, gives 6)
    ∷ (claim 0 7, done)
    ∷ (claim 0 1, refused 17)
    ∷ (claim 1 3, done)
    ∷ (claim 1 1, refused 17)
    ∷ []

-- F-6: the same with modules of 30 kW, every figure times 300: looks give the old figure times 300, and numbers are as before
abbrev pub e9_in_30_kw : List (Call × Reply)
e9_in_30_kw =
    (look 0, gives 2100)
    ∷ (look 1, gives 1800)
    ∷ (claim 0 2100, done)
    ∷ (claim 0 300, refused 17)
    ∷ (claim 1 900, done)
    ∷ (claim 1 300, refused 17)
    ∷ []

-- F-8: so many per mille of the cabinet, and this remainder
abbrev pub per_mille_of : ℕ → ℕ → Usage
per_mille_of share rest = record { refusal = 0; per_mille = share; remainder = rest }

unfoldable pub table : List Row
table =
    -- E1: "plan 30 3 2", "Its order is 0, 2, 1", and each line's start and module set
    plan (answers e1 (planned (0 ∷ 2 ∷ 1 ∷ []) 30))
    ∷ plan (places e1 (0 ∷ 2 ∷ 1 ∷ []) (slot 0 (0 ∷ []) ∷ slot 10 (0 ∷ 1 ∷ []) ∷ slot 0 (1 ∷ []) ∷ []))
    -- E2: no jobs, "end 0"
    ∷ plan (answers (sheet [] 1) (planned [] 0))
    -- E3: "one job of 2 modules", N = 1
    ∷ plan (answers (sheet (job 2 1 [] ∷ []) 1) wide)
    -- E4
    ∷ plan (answers e4 circular)
    -- E5: "one job before itself"
    ∷ plan (answers (sheet (job 1 1 (0 ∷ []) ∷ []) 1) circular)
    -- E6: "E4 with one job too wide"
    ∷ plan (answers (sheet (job 2 1 (1 ∷ []) ∷ job 1 1 (0 ∷ []) ∷ []) 1) wide)
    -- E7: "end 20, order 0, 2, 1"
    ∷ plan (answers (sheet (job 1 10 [] ∷ job 1 10 [] ∷ job 1 20 [] ∷ []) 2) (planned (0 ∷ 2 ∷ 1 ∷ []) 20))
    -- E8: "end 12, order 0, 2, 1, 3"
    ∷ plan (answers (sheet (job 1 1 [] ∷ job 1 10 [] ∷ job 2 1 (0 ∷ []) ∷ job 1 10 (2 ∷ []) ∷ []) 2) (planned (0 ∷ 2 ∷ 1 ∷ 3 ∷ []) 12))
    -- the same of the planning call: E1's card of 47 bytes, with what stands behind it
    ∷ call (sheet_with (entry 1 10 0 30 ∷ entry 2 20 0 25 ∷ entry 1 10 0 30 ∷ []) 2) (replicate 48 7) 0
    (0 ∷ 0 ∷ 10 ∷ 0 ∷ 1 ∷ 0 ∷ 0 ∷ 0 ∷ 0 ∷ 0 ∷ 0 ∷ 0
    ∷ 10 ∷ 0 ∷ 30 ∷ 0 ∷ 3 ∷ 0 ∷ 0 ∷ 0 ∷ 0 ∷ 0 ∷ 0 ∷ 0
    ∷ 0 ∷ 0 ∷ 10 ∷ 0 ∷ 2 ∷ 0 ∷ 0 ∷ 0 ∷ 0 ∷ 0 ∷ 0 ∷ 0
    ∷ 0 ∷ 2 ∷ 1
    ∷ 36 ∷ 0 ∷ 0 ∷ 0 ∷ 30 ∷ 0 ∷ 3 ∷ 0
    ∷ 7 ∷ [])
    -- E2: "a card of 8 zero bytes"
    ∷ call (sheet_with [] 1) (replicate 8 7) 0 (replicate 8 0)
    -- E3: 8; E4: 9; E5: 9; E6: 8
    ∷ call (sheet_with (entry 2 1 0 0 ∷ []) 1) (7 ∷ []) 8 (7 ∷ [])
    ∷ call (sheet_with (entry 1 1 2 0 ∷ entry 1 1 1 0 ∷ []) 1) (7 ∷ []) 9 (7 ∷ [])
    ∷ call (sheet_with (entry 1 1 1 0 ∷ []) 1) (7 ∷ []) 9 (7 ∷ [])
    ∷ call (sheet_with (entry 2 1 2 0 ∷ entry 1 1 1 0 ∷ []) 1) (7 ∷ []) 8 (7 ∷ [])
    -- E7 and E8: their rows, orders and ends
    ∷ call (sheet_with (entry 1 10 0 0 ∷ entry 1 10 0 0 ∷ entry 1 20 0 0 ∷ []) 2) (replicate 47 7) 0
    (0 ∷ 0 ∷ 10 ∷ 0 ∷ 1 ∷ 0 ∷ 0 ∷ 0 ∷ 0 ∷ 0 ∷ 0 ∷ 0
    ∷ 10 ∷ 0 ∷ 20 ∷ 0 ∷ 1 ∷ 0 ∷ 0 ∷ 0 ∷ 0 ∷ 0 ∷ 0 ∷ 0
    ∷ 0 ∷ 0 ∷ 20 ∷ 0 ∷ 2 ∷ 0 ∷ 0 ∷ 0 ∷ 0 ∷ 0 ∷ 0 ∷ 0
    ∷ 0 ∷ 2 ∷ 1
    ∷ 36 ∷ 0 ∷ 0 ∷ 0 ∷ 20 ∷ 0 ∷ 3 ∷ 0 ∷ [])
    ∷ call (sheet_with (entry 1 1 0 0 ∷ entry 1 10 0 0 ∷ entry 2 1 1 0 ∷ entry 1 10 4 0 ∷ []) 2) (replicate 60 7) 0
    (0 ∷ 0 ∷ 1 ∷ 0 ∷ 1 ∷ 0 ∷ 0 ∷ 0 ∷ 0 ∷ 0 ∷ 0 ∷ 0
    ∷ 2 ∷ 0 ∷ 12 ∷ 0 ∷ 1 ∷ 0 ∷ 0 ∷ 0 ∷ 0 ∷ 0 ∷ 0 ∷ 0
    ∷ 1 ∷ 0 ∷ 2 ∷ 0 ∷ 3 ∷ 0 ∷ 0 ∷ 0 ∷ 0 ∷ 0 ∷ 0 ∷ 0
    ∷ 2 ∷ 0 ∷ 12 ∷ 0 ∷ 2 ∷ 0 ∷ 0 ∷ 0 ∷ 0 ∷ 0 ∷ 0 ∷ 0
    ∷ 0 ∷ 2 ∷ 1 ∷ 3
    ∷ 48 ∷ 0 ∷ 0 ∷ 0 ∷ 12 ∷ 0 ∷ 4 ∷ 0 ∷ [])
    -- E9: "L = 10, assured 4 and 3, ceilings 10"
    ∷ desk 10 (4 ∷ 3 ∷ []) (10 ∷ 10 ∷ []) 0 e9
    -- E10: "Then controller 0 hands back 8: 18; 7: done."
    ∷ desk 10 (4 ∷ 3 ∷ []) (10 ∷ 10 ∷ []) 0 (e9 ++ ((hand_back 0 8, refused 18) ∷ (hand_back 0 7, done) ∷ []))
    -- E11: "L = 10, ceilings 10, assured 6 and 5: 13; 5 and 5 opens."
    ∷ desk 10 (6 ∷ 5 ∷ []) (10 ∷ 10 ∷ []) 13 []
    ∷ desk 10 (5 ∷ 5 ∷ []) (10 ∷ 10 ∷ []) 0 []
    -- F-6: E9 and E10 with every figure times 300
    ∷ desk 3000 (1200 ∷ 900 ∷ []) (3000 ∷ 3000 ∷ []) 0 e9_in_30_kw
    ∷ desk 3000 (1200 ∷ 900 ∷ []) (3000 ∷ 3000 ∷ []) 0
    (e9_in_30_kw ++ ((hand_back 0 2400, refused 18) ∷ (hand_back 0 2100, done) ∷ []))
    -- F-2: E1 with A on the road until minute 25: order 1, 0, 2, and C starts no earlier than A before it
    ∷ call (sheet_with (arriving 1 10 0 30 25 ∷ entry 2 20 0 25 ∷ entry 1 10 0 30 ∷ []) 2) (replicate 47 7) 0
    (25 ∷ 0 ∷ 35 ∷ 0 ∷ 1 ∷ 0 ∷ 0 ∷ 0 ∷ 0 ∷ 0 ∷ 0 ∷ 0
    ∷ 0 ∷ 0 ∷ 20 ∷ 0 ∷ 3 ∷ 0 ∷ 0 ∷ 0 ∷ 0 ∷ 0 ∷ 0 ∷ 0
    ∷ 25 ∷ 0 ∷ 35 ∷ 0 ∷ 2 ∷ 0 ∷ 0 ∷ 0 ∷ 0 ∷ 0 ∷ 0 ∷ 0
    ∷ 1 ∷ 0 ∷ 2
    ∷ 36 ∷ 0 ∷ 0 ∷ 0 ∷ 35 ∷ 0 ∷ 3 ∷ 0 ∷ [])
    -- "Departure may lie before arrival": departure 0, arrival 1440, 10 minutes
    ∷ call (sheet_with (arriving 1 10 0 0 1440 ∷ []) 1) (replicate 21 7) 0
    (160 ∷ 5 ∷ 170 ∷ 5 ∷ 1 ∷ 0 ∷ 0 ∷ 0 ∷ 0 ∷ 0 ∷ 0 ∷ 0
    ∷ 0
    ∷ 12 ∷ 0 ∷ 0 ∷ 0 ∷ 170 ∷ 5 ∷ 1 ∷ 0 ∷ [])
    -- F-4: E1 with a changeover of 5: B starts 5 minutes behind the ends of A and C, and the plan's end has no rest behind it
    ∷ call (resting_with (entry 1 10 0 30 ∷ entry 2 20 0 25 ∷ entry 1 10 0 30 ∷ []) 2 5) (replicate 47 7) 0
    (0 ∷ 0 ∷ 10 ∷ 0 ∷ 1 ∷ 0 ∷ 0 ∷ 0 ∷ 0 ∷ 0 ∷ 0 ∷ 0
    ∷ 15 ∷ 0 ∷ 35 ∷ 0 ∷ 3 ∷ 0 ∷ 0 ∷ 0 ∷ 0 ∷ 0 ∷ 0 ∷ 0
    ∷ 0 ∷ 0 ∷ 10 ∷ 0 ∷ 2 ∷ 0 ∷ 0 ∷ 0 ∷ 0 ∷ 0 ∷ 0 ∷ 0
    ∷ 0 ∷ 2 ∷ 1
    ∷ 36 ∷ 0 ∷ 0 ∷ 0 ∷ 35 ∷ 0 ∷ 3 ∷ 0 ∷ [])
    -- "A wait on an earlier job … counted without it": B, after A, starts as A ends, on the module that does not rest
    ∷ call (resting_with (entry 1 10 0 30 ∷ entry 1 10 1 30 ∷ []) 2 5) (replicate 34 7) 0
    (0 ∷ 0 ∷ 10 ∷ 0 ∷ 1 ∷ 0 ∷ 0 ∷ 0 ∷ 0 ∷ 0 ∷ 0 ∷ 0
    ∷ 10 ∷ 0 ∷ 20 ∷ 0 ∷ 2 ∷ 0 ∷ 0 ∷ 0 ∷ 0 ∷ 0 ∷ 0 ∷ 0
    ∷ 0 ∷ 1
    ∷ 24 ∷ 0 ∷ 0 ∷ 0 ∷ 20 ∷ 0 ∷ 2 ∷ 0 ∷ [])
    -- "19 when the changeover is above 30"
    ∷ call (resting_with (entry 1 1 0 0 ∷ []) 1 30) (7 ∷ []) 10 (7 ∷ [])
    ∷ call (resting_with (entry 1 1 0 0 ∷ []) 1 31) (7 ∷ []) 19 (7 ∷ [])
    -- F-5: E1 has no plan that ends by minute 19, whatever the cabinet (`e1_no-count`);
    -- by minutes 20 and 29 it takes 3 modules, with the order 0, 1, 2 and the end 20; by minute 30, and by any later one, the 2 of its cabinet
    ∷ size e1_bytes 20 (replicate 48 7) 0 3
    (0 ∷ 0 ∷ 10 ∷ 0 ∷ 1 ∷ 0 ∷ 0 ∷ 0 ∷ 0 ∷ 0 ∷ 0 ∷ 0
    ∷ 0 ∷ 0 ∷ 20 ∷ 0 ∷ 6 ∷ 0 ∷ 0 ∷ 0 ∷ 0 ∷ 0 ∷ 0 ∷ 0
    ∷ 10 ∷ 0 ∷ 20 ∷ 0 ∷ 1 ∷ 0 ∷ 0 ∷ 0 ∷ 0 ∷ 0 ∷ 0 ∷ 0
    ∷ 0 ∷ 1 ∷ 2
    ∷ 36 ∷ 0 ∷ 0 ∷ 0 ∷ 20 ∷ 0 ∷ 3 ∷ 0
    ∷ 7 ∷ [])
    ∷ size e1_bytes 29 (replicate 47 7) 0 3
    (0 ∷ 0 ∷ 10 ∷ 0 ∷ 1 ∷ 0 ∷ 0 ∷ 0 ∷ 0 ∷ 0 ∷ 0 ∷ 0
    ∷ 0 ∷ 0 ∷ 20 ∷ 0 ∷ 6 ∷ 0 ∷ 0 ∷ 0 ∷ 0 ∷ 0 ∷ 0 ∷ 0
    ∷ 10 ∷ 0 ∷ 20 ∷ 0 ∷ 1 ∷ 0 ∷ 0 ∷ 0 ∷ 0 ∷ 0 ∷ 0 ∷ 0
    ∷ 0 ∷ 1 ∷ 2
    ∷ 36 ∷ 0 ∷ 0 ∷ 0 ∷ 20 ∷ 0 ∷ 3 ∷ 0 ∷ [])
    ∷ size e1_bytes 30 (replicate 47 7) 0 2
    (0 ∷ 0 ∷ 10 ∷ 0 ∷ 1 ∷ 0 ∷ 0 ∷ 0 ∷ 0 ∷ 0 ∷ 0 ∷ 0
    ∷ 10 ∷ 0 ∷ 30 ∷ 0 ∷ 3 ∷ 0 ∷ 0 ∷ 0 ∷ 0 ∷ 0 ∷ 0 ∷ 0
    ∷ 0 ∷ 0 ∷ 10 ∷ 0 ∷ 2 ∷ 0 ∷ 0 ∷ 0 ∷ 0 ∷ 0 ∷ 0 ∷ 0
    ∷ 0 ∷ 2 ∷ 1
    ∷ 36 ∷ 0 ∷ 0 ∷ 0 ∷ 30 ∷ 0 ∷ 3 ∷ 0 ∷ [])
    ∷ size e1_bytes 65535 (replicate 47 7) 0 2
    (0 ∷ 0 ∷ 10 ∷ 0 ∷ 1 ∷ 0 ∷ 0 ∷ 0 ∷ 0 ∷ 0 ∷ 0 ∷ 0
    ∷ 10 ∷ 0 ∷ 30 ∷ 0 ∷ 3 ∷ 0 ∷ 0 ∷ 0 ∷ 0 ∷ 0 ∷ 0 ∷ 0
    ∷ 0 ∷ 0 ∷ 10 ∷ 0 ∷ 2 ∷ 0 ∷ 0 ∷ 0 ∷ 0 ∷ 0 ∷ 0 ∷ 0
    ∷ 0 ∷ 2 ∷ 1
    ∷ 36 ∷ 0 ∷ 0 ∷ 0 ∷ 30 ∷ 0 ∷ 3 ∷ 0 ∷ [])
    ∷ size e1_bytes 65535 (replicate 46 7) 10 0 (replicate 46 7)
    -- E2, by minute 0: 1 module
    ∷ size (sheet_with [] 1) 0 (replicate 8 7) 0 1 (replicate 8 0)
    -- "8 is not checked here": a job of 3 modules on 1; E6, too wide and circular, is 9; and no cabinet has 65 modules
    ∷ size (sheet_with (entry 3 5 0 0 ∷ []) 1) 5 (replicate 21 7) 0 3
    (0 ∷ 0 ∷ 5 ∷ 0 ∷ 7 ∷ 0 ∷ 0 ∷ 0 ∷ 0 ∷ 0 ∷ 0 ∷ 0
    ∷ 0
    ∷ 12 ∷ 0 ∷ 0 ∷ 0 ∷ 5 ∷ 0 ∷ 1 ∷ 0 ∷ [])
    ∷ size (sheet_with (entry 2 1 2 0 ∷ entry 1 1 1 0 ∷ []) 1) 65535 (7 ∷ []) 9 0 (7 ∷ [])
    ∷ size (sheet_with (entry 65 5 0 0 ∷ []) 64) 65535 (replicate 21 7) 20 0 (replicate 21 7)
    -- F-8: E1 uses the whole cabinet; with a changeover of 5, 60 of 70 module-minutes; E8 23 of 24
    ∷ uses (sheet_with (entry 1 10 0 30 ∷ entry 2 20 0 25 ∷ entry 1 10 0 30 ∷ []) 2) (per_mille_of 1000 0)
    ∷ uses (resting_with (entry 1 10 0 30 ∷ entry 2 20 0 25 ∷ entry 1 10 0 30 ∷ []) 2 5) (per_mille_of 857 10)
    ∷ uses (sheet_with (entry 1 1 0 0 ∷ entry 1 10 0 0 ∷ entry 2 1 1 0 ∷ entry 1 10 4 0 ∷ []) 2) (per_mille_of 958 8)
    -- "23 when the plan has no jobs, checked after 9"
    ∷ uses (sheet_with [] 1) (no_usage 23)
    ∷ uses (sheet_with (entry 1 1 2 0 ∷ entry 1 1 1 0 ∷ []) 1) (no_usage 9)
    ∷ []
