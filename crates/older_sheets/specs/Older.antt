-- Job sheets of before: a trailer of 8 bytes without a changeover (before F-4), and records of 10 bytes without an arrival (before F-2 too);
-- labels as since F-1. What was read and planned of them is said in today's words: what a layout has no place for is 0.
use Rattle.std.specs.Prelude.{Bool, not, cond, List, [], ◌∷◌, ◌++◌, ℕ, ◌+◌, ◌-◌, ◌*◌, eqb, length, take}
use Rattle.words.specs.Words.{byte_at, u16_at, u32_at}
use Rattle.checking.specs.Checking.{Check, first_failing}
use Rattle.schedule.specs.Plan.{Sheet}
use Rattle.sheet_format.specs.declared.Job.{Job}
use Rattle.sheet_format.specs.Format.{cabinet}
use Rattle.sheet_format.specs.declared.Cabinet.{Cabinet}
use Rattle.sheet_format.specs.Checks.{outside, too_many_jobs, wrong_modules, content_checks}
use Rattle.sheet.specs.declared.Reading.{Reading}
use Rattle.sheet.specs.Read.{answered, refused}
use Rattle.sheet.specs.Write.{over}
use Rattle.planable.specs.Planable.{sheet_on, order_checks, work_after}
use Rattle.planner.specs.Planning.{room_checks, best_card}

-- the layouts of before: without arrivals and changeovers, and without changeovers
pub data Layout : Type 0 where
  before_arrivals : Layout
  before_changeovers : Layout

-- ---- figures

abbrev pub record_size : Layout → ℕ
record_size before_arrivals = 10
record_size before_changeovers = 12

abbrev pub trailer_size : ℕ
trailer_size = 8

abbrev pub longest_sheet : Layout → ℕ
longest_sheet before_arrivals = 528
longest_sheet before_changeovers = 568

-- ---- a record: label length (1 byte), modules needed (1), minutes (2), earlier jobs (4), departure (2), and arrival (2) where it has one

abbrev pub arrival_at : Layout → List ℕ → ℕ → ℕ
arrival_at before_arrivals s at = 0
arrival_at before_changeovers s at = u16_at s (at + 10)

unfoldable pub record_at : Layout → List ℕ → ℕ → Job
record_at L s at = record {
  label_len = byte_at s at;
  modules = byte_at s (at + 1);
  minutes = u16_at s (at + 2);
  earlier = u32_at s (at + 4);
  departure = u16_at s (at + 8);
  arrival = arrival_at L s at;
}

-- ---- the trailer: offset of the first record (4 bytes), n (2), modules N in the cabinet (2)

abbrev pub trailer_at : List ℕ → ℕ
trailer_at s = length s - trailer_size

abbrev pub offset_of : List ℕ → ℕ
offset_of s = u32_at s (trailer_at s)

abbrev pub count_of : List ℕ → ℕ
count_of s = u16_at s (trailer_at s + 4)

abbrev pub modules_of : List ℕ → ℕ
modules_of s = u16_at s (trailer_at s + 6)

-- a changeover was treated as immediate
abbrev pub cabinet_of : List ℕ → Cabinet
cabinet_of s = cabinet (modules_of s) 0

-- ---- a sheet: the labels one after another from offset 0, then n records, then the trailer

abbrev pub job_of : Layout → List ℕ → ℕ → Job
job_of L s i = record_at L s (offset_of s + record_size L * i)

abbrev pub labels_of : List ℕ → List ℕ
labels_of s = take (offset_of s) s

-- ---- checks

-- 1. The sheet has fewer than 8 or more bytes than the longest one.
abbrev pub wrong_length : Layout → List ℕ → Bool
wrong_length L s = outside trailer_size (longest_sheet L) (length s)

-- 4. The record offset plus n records plus 8 is not the sheet's length.
abbrev pub wrong_offset : Layout → List ℕ → Bool
wrong_offset L s = not (eqb (offset_of s + record_size L * count_of s + trailer_size) (length s))

-- 1 to 4
abbrev pub trailer_checks : Layout → List ℕ → List Check
trailer_checks L s =
    (1, wrong_length L s) ∷ (2, too_many_jobs (count_of s)) ∷ (3, wrong_modules (modules_of s)) ∷ (4, wrong_offset L s) ∷ []

-- ---- reading: 1 to 4, and 5 to 7 as today, where an arrival of 0 is within its range

abbrev pub read_checks : Layout → List ℕ → List Check
read_checks L s = trailer_checks L s ++ content_checks (count_of s) (job_of L s) (labels_of s)

abbrev pub read_refusal : Layout → List ℕ → ℕ
read_refusal L s = first_failing (read_checks L s)

unfoldable pub reading : Layout → List ℕ → Reading
reading L s = cond (eqb (read_refusal L s) 0) (answered (count_of s) (job_of L s) (cabinet_of s)) (refused (read_refusal L s))

-- ---- planning

abbrev pub sheet_in : Layout → List ℕ → Sheet
sheet_in L s = sheet_on (reading L s)

-- 1 to 10
unfoldable pub plan_refusal : Layout → List ℕ → ℕ → ℕ
plan_refusal L s room = first_failing (read_checks L s ++ (order_checks (sheet_in L s) ++ room_checks (sheet_in L s) room))

-- the lent card afterwards, and the working memory
unfoldable pub card_after : Layout → List ℕ → List ℕ → List ℕ
card_after L s card = cond (eqb (plan_refusal L s (length card)) 0) (over (best_card (sheet_in L s)) card) card

abbrev pub memory_after : Layout → List ℕ → ℕ → List ℕ → List ℕ
memory_after L s room memory = work_after (plan_refusal L s room) memory
