-- The example E1 as a sheet, and one job whose record, lengths and label byte are wrong at once: what the definitions give.
use mathlib.Core.Path.{◌≡◌, refl, ap}
use mathlib.Core.Logic.{⊎_elim}
use mathlib.Core.Bool.{false}
use mathlib.Core.List.{List, [], ◌∷◌, ◌++◌}
use Prim.Native.Nat.{ℕ, ◌≤◌, ◌<◌}
use native.Mathlib.Omega.{arith}
use lib.Dec.{leb, lit≤}
use lib.ListN.{length, replicate, get_or-eq_default}
use borrow.Author.Tests.{leb-false}
use Rattle.counting.specs.Counting.{sum, any, joined}
use Rattle.counting.proofs.Tests.{less-or-not}
use Rattle.counting.proofs.Ranges.{any_none}
use Rattle.checking.specs.Checking.{first_failing}
use Rattle.sheet_format.specs.declared.Job.{Job}
use Rattle.words.specs.Words.{byte_at, number_at}
use Rattle.sheet_format.specs.Format.{record_at, record_bytes, trailer_bytes, sheet_bytes, jobs_in, cabinet}
use Rattle.sheet_format.specs.Format.{places}
use Rattle.sheet_format.specs.Checks.{outside, faulty, wrong_label}
use Rattle.sheet.specs.declared.Reading.{Reading}
use Rattle.sheet.specs.Read.{answered, reading}
use Rattle.sheet.specs.Label.{label_refusal, label_of}
use Rattle.sheet.specs.Write.{over, write_answer, write_leaves}
use Rattle.sheet.specs.RoundTrip.{written_sheet, rewrite_leaves}
use Rattle.sheet.proofs.WrittenReads.{written_reads}
use Rattle.sheet.proofs.ReadIsWritten.{read_is-written_bytes}

-- ---- E1

unfoldable pub labels : List ℕ
labels = 65 ∷ 66 ∷ 67 ∷ []

pub job : ℕ → ℕ → ℕ → Job
job modules minutes departure =
    record { label_len = 1; modules = modules; minutes = minutes; earlier = 0; departure = departure; arrival = 0 }

pub jobs : List Job
jobs = job 1 10 30 ∷ job 2 20 25 ∷ job 1 10 30 ∷ []

unfoldable pub e1 : List ℕ
e1 =
    labels
    ++ (1 ∷ 1 ∷ 10 ∷ 0 ∷ 0 ∷ 0 ∷ 0 ∷ 0 ∷ 30 ∷ 0 ∷ 0 ∷ 0 ∷ [])
    ++ (1 ∷ 2 ∷ 20 ∷ 0 ∷ 0 ∷ 0 ∷ 0 ∷ 0 ∷ 25 ∷ 0 ∷ 0 ∷ 0 ∷ [])
    ++ (1 ∷ 1 ∷ 10 ∷ 0 ∷ 0 ∷ 0 ∷ 0 ∷ 0 ∷ 30 ∷ 0 ∷ 0 ∷ 0 ∷ [])
    ++ (3 ∷ 0 ∷ 0 ∷ 0 ∷ 3 ∷ 0 ∷ 2 ∷ 0 ∷ 0 ∷ 0 ∷ [])

pub e1_reads : reading e1 ≡ answered 3 (jobs_in jobs) (cabinet 2 0)
unfolding e1 labels jobs job reading first_failing outside faulty wrong_label any sum places joined record_at number_at
e1_reads = refl

pub e1_label : label_of e1 1 ≡ 66 ∷ []
unfolding e1 labels label_of first_failing outside faulty wrong_label any sum record_at number_at
e1_label = refl

pub e1_no_label : label_refusal e1 3 ≡ 14
unfolding e1 labels first_failing outside faulty wrong_label any sum record_at number_at
e1_no_label = refl

-- into a buffer that is longer than the sheet
pub e1-written : write_leaves (jobs_in jobs) 3 labels (cabinet 2 0) (replicate 53 7) ≡ e1 ++ (7 ∷ 7 ∷ 7 ∷ 7 ∷ [])
unfolding e1 labels jobs job write_leaves first_failing outside faulty wrong_label any sum sheet_bytes record_bytes trailer_bytes joined
e1-written = refl

-- the round trip's premise holds of it
e1-answered : (write_answer (jobs_in jobs) 3 labels (cabinet 2 0) (replicate 53 7)).refusal ≡ 0
unfolding labels jobs job write_answer first_failing outside faulty wrong_label any sum sheet_bytes
e1-answered = refl

pub e1_back : reading (written_sheet (jobs_in jobs) 3 labels (cabinet 2 0) (replicate 53 7)) ≡ answered 3 (jobs_in jobs) (cabinet 2 0)
e1_back = written_reads (jobs_in jobs) 3 labels (cabinet 2 0) (replicate 53 7) e1-answered

-- ---- 5 before 6 before 7

-- one job: the label's bytes, a label length, minutes
pub one : List ℕ → ℕ → ℕ → List ℕ
one label len minutes =
    label ++ (len ∷ 1 ∷ minutes ∷ 0 ∷ 0 ∷ 0 ∷ 0 ∷ 0 ∷ 0 ∷ 0 ∷ 0 ∷ 0 ∷ length label ∷ 0 ∷ 0 ∷ 0 ∷ 1 ∷ 0 ∷ 1 ∷ 0 ∷ 0 ∷ 0 ∷ [])

pub all_wrong : (reading (one (32 ∷ []) 2 0)).refusal ≡ 5
unfolding one reading first_failing outside faulty wrong_label any sum places joined record_at number_at
all_wrong = refl

pub lengths_wrong : (reading (one (32 ∷ []) 2 1)).refusal ≡ 6
unfolding one reading first_failing outside faulty wrong_label any sum places joined record_at number_at
lengths_wrong = refl

pub byte_wrong : ((reading (one (31 ∷ []) 1 1)).refusal ≡ 7) × ((reading (one (127 ∷ []) 1 1)).refusal ≡ 7)
unfolding one reading first_failing outside faulty wrong_label any sum places joined record_at number_at
byte_wrong = (refl, refl)

pub none_wrong : ((reading (one (33 ∷ []) 1 1)).refusal ≡ 0) × ((reading (one (126 ∷ []) 1 1)).refusal ≡ 0)
unfolding one reading first_failing outside faulty wrong_label any sum places joined record_at number_at
none_wrong = (refl, refl)

-- a space alone, first, last, and inside
pub spaces : ((reading (one (32 ∷ []) 1 1)).refusal ≡ 7) × ((reading (one (32 ∷ 65 ∷ []) 2 1)).refusal ≡ 7)
    × ((reading (one (65 ∷ 32 ∷ []) 2 1)).refusal ≡ 7) × ((reading (one (65 ∷ 32 ∷ 65 ∷ []) 3 1)).refusal ≡ 0)
unfolding one reading first_failing outside faulty wrong_label any sum places joined record_at number_at
spaces = (refl, refl, refl, refl)

-- a label of 16 bytes, and one of 17
pub lengths_edge : ((reading (one (replicate 16 65) 16 1)).refusal ≡ 0) × ((reading (one (replicate 17 65) 17 1)).refusal ≡ 5)
unfolding one reading first_failing outside faulty wrong_label any sum places joined record_at number_at
lengths_edge = (refl, refl)

-- ---- arrivals

-- one job of departure 0, and the two bytes of its arrival
pub arriving : ℕ → ℕ → List ℕ
arriving low high =
    65 ∷ 1 ∷ 1 ∷ 1 ∷ 0 ∷ 0 ∷ 0 ∷ 0 ∷ 0 ∷ 0 ∷ 0 ∷ low ∷ high ∷ 1 ∷ 0 ∷ 0 ∷ 0 ∷ 1 ∷ 0 ∷ 1 ∷ 0 ∷ 0 ∷ 0 ∷ []

-- 1440, behind the departure, and 1441
pub arrival_edge : ((reading (arriving 160 5)).refusal ≡ 0) × ((reading (arriving 161 5)).refusal ≡ 5)
unfolding arriving reading first_failing outside faulty wrong_label any sum places joined record_at number_at
arrival_edge = (refl, refl)

pub arrival_read : (jobs_in (reading (arriving 160 5)).jobs 0).arrival ≡ 1440
unfolding arriving reading first_failing outside faulty wrong_label any sum places joined record_at number_at
arrival_read = refl

-- ---- the changeover

-- no job: a record offset, N and a changeover
pub resting : ℕ → ℕ → ℕ → List ℕ
resting offset N changeover = offset ∷ 0 ∷ 0 ∷ 0 ∷ 0 ∷ 0 ∷ N ∷ 0 ∷ changeover ∷ 0 ∷ []

-- 30 minutes, and 31: behind 3, before 4
pub changeover_edge : ((reading (resting 0 1 30)).refusal ≡ 0) × ((reading (resting 0 1 31)).refusal ≡ 19)
    × ((reading (resting 0 0 31)).refusal ≡ 3) × ((reading (resting 1 1 31)).refusal ≡ 19) × ((reading (resting 1 1 30)).refusal ≡ 4)
unfolding resting reading first_failing outside faulty wrong_label any sum places joined record_at number_at
changeover_edge = (refl, refl, refl, refl, refl)

pub changeover_read : (reading (resting 0 1 30)).changeover ≡ 30
unfolding resting reading first_failing outside faulty wrong_label any sum places joined record_at number_at
changeover_read = refl

-- ---- E1 read and written again

-- a list whose bytes are below 256, by a test that computes
bytes_by_test : (s : List ℕ) → any (length s) (λ i. leb 256 (byte_at s i)) ≡ false → (i : ℕ) → byte_at s i < 256
bytes_by_test s e i =
    ⊎_elim
    (λ (l : i < length s). leb-false 256 (byte_at s i) (any_none (length s) (λ k. leb 256 (byte_at s k)) e i l))
    (λ (l : length s ≤ i). rw (get_or-eq_default s 0 l) (omega arith))
    (less-or-not i (length s))

e1-answers : (reading e1).refusal ≡ 0
e1-answers = ap (λ (r : Reading). r.refusal) e1_reads

e1_bytes_lem : (i : ℕ) → byte_at e1 i < 256
unfolding e1 labels any
e1_bytes_lem = bytes_by_test e1 refl

e1_fits : length e1 ≤ length (replicate {A = ℕ} 53 7)
unfolding e1 labels
e1_fits = lit≤ tt

pub e1_again : rewrite_leaves e1 (reading e1) (replicate 53 7) ≡ over e1 (replicate 53 7)
e1_again = read_is-written_bytes e1 e1_bytes_lem e1-answers (replicate 53 7) e1_fits
