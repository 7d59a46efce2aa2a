-- The cards of the examples E1 and E2, computed from the definitions; the theorem of decoding at E1.
use mathlib.Core.Path.{◌≡◌, refl}
use mathlib.Core.List.{List, [], ◌∷◌, ◌++◌}
use Prim.Native.Nat.{ℕ, ◌+◌}
use lib.Dec.{ltb, leb, eqb, lit<, lit≤}
use lib.IntN.{negsuc}
use lib.ListN.{replicate}
use borrow.Author.Tests.{ltb-true, leb-true, eqb-true}
use Rattle.counting.specs.Counting.{sum, largest, every, any, joined}
use Rattle.counting.proofs.Ranges.{every-at}
use Rattle.figures.specs.Figures.{most_minutes, last_arrival}
use Rattle.bits.specs.Bits.{bit, set_of}
use Rattle.schedule.specs.Plan.{Sheet}
use Rattle.schedule.specs.ListPlan.{Order, ready, first_minute, start_of, place_all}
use Rattle.tables.specs.declared.Jobs.{Jobs}
use Rattle.tables.specs.Tables.{sheet_of, need_at, minutes_at, kept_at, arrival_at, Fit}
use Rattle.card.specs.Card.{row_bytes, trailer_bytes, card_bytes, card_of, lateness_of}
use Rattle.card.specs.Decoding.{Decodes}
use Rattle.card.proofs.Decoding.{card_decodes}

-- the job table of three jobs that wait for none and are here from minute 0 on, for two modules
abbrev table_with : ℕ → Jobs
table_with rest = record {
  need = 1 ∷ 2 ∷ 1 ∷ replicate 17 0;
  minutes = 10 ∷ 20 ∷ 10 ∷ replicate 17 0;
  arrival = replicate 20 0;
  earlier = replicate 20 0;
  kept = (10 + rest) ∷ (20 + rest) ∷ (10 + rest) ∷ replicate 17 0;
  count = 3;
  modules = 2;
  changeover = rest;
}

-- the job table without jobs, for one module
abbrev empty_table : Jobs
empty_table = record {
  need = replicate 20 0;
  minutes = replicate 20 0;
  arrival = replicate 20 0;
  earlier = replicate 20 0;
  kept = replicate 20 0;
  count = 0;
  modules = 1;
  changeover = 0;
}

abbrev table : Jobs
table = table_with 0

abbrev pub e1 : Sheet
e1 = sheet_of table

-- E1: "Its order is 0, 2, 1, and its card has 47 bytes."
abbrev pub order : List ℕ
order = 0 ∷ 2 ∷ 1 ∷ []

abbrev pub bytes : List ℕ
bytes =
    0 ∷ 0 ∷ 10 ∷ 0 ∷ 1 ∷ 0 ∷ 0 ∷ 0 ∷ 0 ∷ 0 ∷ 0 ∷ 0
    ∷ 10 ∷ 0 ∷ 30 ∷ 0 ∷ 3 ∷ 0 ∷ 0 ∷ 0 ∷ 0 ∷ 0 ∷ 0 ∷ 0
    ∷ 0 ∷ 0 ∷ 10 ∷ 0 ∷ 2 ∷ 0 ∷ 0 ∷ 0 ∷ 0 ∷ 0 ∷ 0 ∷ 0
    ∷ 0 ∷ 2 ∷ 1
    ∷ 36 ∷ 0 ∷ 0 ∷ 0 ∷ 30 ∷ 0 ∷ 3 ∷ 0 ∷ []

pub e1-card : card_of e1 order ≡ bytes
unfolding bit set_of sum largest any first_minute start_of place_all joined row_bytes trailer_bytes card_bytes
e1-card = refl

-- with a changeover of 5 job 1 starts when both modules have rested, 5 minutes later
pub e1_resting : card_of (sheet_of (table_with 5)) order
    ≡ 0 ∷ 0 ∷ 10 ∷ 0 ∷ 1 ∷ 0 ∷ 0 ∷ 0 ∷ 0 ∷ 0 ∷ 0 ∷ 0
    ∷ 15 ∷ 0 ∷ 35 ∷ 0 ∷ 3 ∷ 0 ∷ 0 ∷ 0 ∷ 0 ∷ 0 ∷ 0 ∷ 0
    ∷ 0 ∷ 0 ∷ 10 ∷ 0 ∷ 2 ∷ 0 ∷ 0 ∷ 0 ∷ 0 ∷ 0 ∷ 0 ∷ 0
    ∷ 0 ∷ 2 ∷ 1
    ∷ 36 ∷ 0 ∷ 0 ∷ 0 ∷ 35 ∷ 0 ∷ 3 ∷ 0 ∷ []
unfolding bit set_of sum largest any first_minute start_of place_all joined row_bytes trailer_bytes card_bytes
e1_resting = refl

-- E2: "n = 0, N = 1: end 0, a card of 8 zero bytes."
pub e2-card : card_of (sheet_of empty_table) [] ≡ 0 ∷ 0 ∷ 0 ∷ 0 ∷ 0 ∷ 0 ∷ 0 ∷ 0 ∷ []
unfolding sum largest joined row_bytes trailer_bytes card_bytes
e2-card = refl

-- "down to -2879"
pub lowest_lateness : lateness_of 1 2880 ≡ negsuc 2878
lowest_lateness = refl

-- ---- E1 meets what the theorem of decoding asks

e1_fit : Fit table
unfolding every
e1_fit = record {
  few = lit≤ tt;
  some = lit< tt;
  most = lit≤ tt;
  narrow = λ j l. leb-true (need_at table j) 2 (every-at 3 (λ j. leb (need_at table j) 2) refl j l);
  lasting = λ j l. ltb-true 0 (minutes_at table j) (every-at 3 (λ j. ltb 0 (minutes_at table j)) refl j l);
  short = λ j l. leb-true (minutes_at table j) most_minutes (every-at 3 (λ j. leb (minutes_at table j) most_minutes) refl j l);
  arrived = λ j l. leb-true (arrival_at table j) last_arrival (every-at 3 (λ j. leb (arrival_at table j) last_arrival) refl j l);
  rests = lit≤ tt;
  keeps = λ j l. eqb-true (kept_at table j) (minutes_at table j + 0) (every-at 3 (λ j. eqb (kept_at table j) (minutes_at table j + 0)) refl j l);
}

e1_order : Order e1 order
unfolding bit every ready
e1_order = record { all = refl; follows = (refl, (refl, (refl, tt))) }

pub e1_decodes : (rest : List ℕ) → Decodes e1 order (card_of e1 order ++ rest)
e1_decodes rest = card_decodes table e1_fit order e1_order rest
