-- The theorems of plans, and one of cabinets, at two examples: their hypotheses are met, so they say something.
use mathlib.Core.Path.{◌≡◌, refl}
use mathlib.Core.Logic.{inr}
use mathlib.Core.Bool.{true}
use mathlib.Core.List.{[], ◌∷◌}
use Prim.Native.Nat.{ℕ, ◌<◌}
use native.Mathlib.Omega.{arith}
use lib.Dec.{ltb}
use borrow.Author.Tests.{ltb-true}
use Rattle.counting.specs.Counting.{sum, largest, every, any, joined}
use Rattle.counting.proofs.Ranges.{every-at, le-largest}
use Rattle.checking.specs.Checking.{first_failing}
use Rattle.bits.specs.Bits.{bit}
use Rattle.words.specs.Words.{number_at}
use Rattle.schedule.specs.Plan.{Sheet, Plan, Valid, Lasting, finish}
use Rattle.schedule.specs.ListPlan.{ready, first_minute, start_of, place_all}
use Rattle.schedule.specs.TieRule.{Planned, orders_after, earliest_of}
use Rattle.schedule.specs.Cabinets.{with_modules}
use Rattle.sheet_format.specs.Format.{record_at, record_bytes, trailer_bytes, sheet_bytes}
use Rattle.sheet_format.specs.Format.{places as sheet-places}
use Rattle.sheet_format.specs.Checks.{outside, faulty, wrong_label}
use Rattle.sheet.specs.Read.{reading}
use Rattle.planable.specs.Planable.{sheet_in, no_order}
use Rattle.sizing.specs.Sizing.{size_refusal}
use Rattle.sizing.proofs.Promised.{no-count_exactly}
use Rattle.schedule.proofs.Theorems.{planned_says, refused_exactly}
use Rattle.examples.specs.Table.{e1, e4, e1_bytes, table}
use Rattle.examples.proofs.Held.{examples_hold}

-- every job lasts a minute or more, as a computed test
lasting : (S : Sheet) → every S.jobs (λ j. ltb 0 (S.minutes j)) ≡ true → Lasting S
lasting S e j l = ltb-true 0 (S.minutes j) (every-at S.jobs (λ j. ltb 0 (S.minutes j)) e j l)

-- E1 has a plan: the tie rule's, valid, and no valid plan ends before minute 30.
pub e1_planned : Planned e1 (0 ∷ 2 ∷ 1 ∷ []) 30
unfolding table every
e1_planned = planned_says e1 (lasting e1 refl) (0 ∷ 2 ∷ 1 ∷ []) 30 (examples_hold 0 (omega arith))

-- E4 has none.
pub e4_no_plan : ¬ ((P : Plan) × Valid e4 P)
unfolding table every
e4_no_plan = (refused_exactly e4 (lasting e4 refl)).0 (inr (examples_hold 4 (omega arith)))

-- F-5: by no minute before 20 does a cabinet of 1 to 64 modules end E1, whatever card is lent: its job 1 takes 20 minutes.
pub e1_no-count : (t room : ℕ) → t < 20 → size_refusal e1_bytes t room ≡ 20
unfolding sum any joined bit number_at record_at record_bytes trailer_bytes sheet_bytes sheet-places outside faulty wrong_label reading first_failing
    every ready first_minute start_of place_all orders_after earliest_of largest no_order
e1_no-count t room l =
    (no-count_exactly e1_bytes t room refl refl).1
    (λ k one most P v. omega (arith, le-largest 3 (finish (with_modules (sheet_in e1_bytes) k) P) 1 (omega arith)))
