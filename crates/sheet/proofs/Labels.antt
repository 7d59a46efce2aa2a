-- What the label calls answer in each case, and where a label lies.
use mathlib.Core.Path.{◌≡◌, refl, sym, ap, ap₂, ◌∙◌}
use mathlib.Core.Bool.{Bool, true, false, cond, ◌||◌}
use mathlib.Core.List.{List, [], ◌∷◌}
use Prim.Native.Nat.{ℕ, suc, ◌+◌, ◌≤◌, ◌<◌}
use native.Mathlib.Omega.{arith}
use lib.Dec.{leb, eqb}
use lib.ListN.{length, take, drop, length-drop}
use lib.Seq.{length-take-le}
use borrow.Author.Tests.{leb-true, leb-false, le-leb, lt-leb, ne_eqb, eqb-true, eqb-false}
use Rattle.counting.specs.Counting.{sum}
use Rattle.counting.proofs.Sums.{sum_up}
use Rattle.counting.proofs.Tests.{or_right}
use Rattle.checking.specs.Checking.{first_failing}
use Rattle.checking.proofs.Order.{all_passed, both_passed, none_failing, first_in_front, first-behind}
use Rattle.sheet_format.specs.Figures.{most_jobs}
use Rattle.sheet_format.specs.Format.{label_length, label_lengths, places, jobs_in, job_of, offset_of, count_of, cabinet_of}
use Rattle.sheet_format.specs.Checks.{no_such_job}
use Rattle.sheet_format.proofs.Lists.{job_in-place}
use Rattle.sheet_format.proofs.Cuts.{lengths_same}
use Rattle.sheet.specs.declared.LabelPlace.{LabelPlace}
use Rattle.sheet.specs.declared.Reading.{Reading}
use Rattle.sheet.specs.Read.{read_checks, read_refusal, answered, reading}
use Rattle.sheet.specs.Label.{label_checks, label_refusal, label_start, label_of, label_at, label_place, place_checks, place_in}
use Rattle.sheet.proofs.Answers.{Reads, reads, read_number, read_answer}

module _ (s : List ℕ) (job : ℕ) where
  pub refused_in-reading : (k : ℕ) → k ≡ read_refusal s → (k ≡ 0 → ⊥) → k ≡ label_refusal s job
  refused_in-reading k e h =
      e ∙ sym (first_in_front (read_checks s) ((14, no_such_job (count_of s) job) ∷ []) (λ z. h (e ∙ z)))

  behind-reading : read_refusal s ≡ 0 → label_refusal s job ≡ cond (leb (count_of s) job) 14 0
  unfolding first_failing
  behind-reading e = first-behind (read_checks s) ((14, no_such_job (count_of s) job) ∷ []) (all_passed (read_checks s) refl e)

  pub no-job_there : read_refusal s ≡ 0 → count_of s ≤ job → 14 ≡ label_refusal s job
  no-job_there e l = sym (behind-reading e ∙ ap (λ b. cond b 14 0) (le-leb (count_of s) job l))

  pub label_there : read_refusal s ≡ 0 → job < count_of s → 0 ≡ label_refusal s job
  label_there e l = sym (behind-reading e ∙ ap (λ b. cond b 14 0) (lt-leb (count_of s) job l))

  -- a label call that is answered: the sheet reads, the job is one of its jobs, and the label lies within the label bytes
  pub record There : Type 0 where
    pub sheet : Reads s
    pub below : job < count_of s
    pub within : label_start s job + label_length (job_of s job) ≤ offset_of s

  pub there : (k : ℕ) → k ≡ label_refusal s job → k ≡ 0 → There
  unfolding sum
  there k e z =
      let p = both_passed (read_checks s) ((14, no_such_job (count_of s) job) ∷ []) (all_passed (label_checks s job) refl (sym e ∙ z)) in
      let r = reads s (none_failing (read_checks s) p.0) in
      let l = leb-false (count_of s) job p.1.0 in
      record {
        sheet = r;
        below = l;
        within = omega (arith, r.lengths, sum_up (suc job) (count_of s) (λ i. label_length (job_of s i)) l);
      }

  module _ (k : ℕ) (e : k ≡ label_refusal s job) (h : k ≡ 0 → ⊥) where
    pub no_place : ◌≡◌ {A = LabelPlace} (record { refusal = k; offset = 0; length = 0 }) (label_place s job)
    unfolding label_place label_at label_of
    no_place = rw (← e, ne_eqb k 0 h) refl

  -- an answered call's label, as long as its record says
  whole_label : label_refusal s job ≡ 0 → length (label_of s job) ≡ label_length (job_of s job)
  unfolding label_of
  whole_label z =
      let t = there 0 (sym z) refl in
      rw z (length-take-le (label_length (job_of s job)) (drop (label_start s job) s)
      (omega (arith, t.within, t.sheet.trailer.whole, length-drop (label_start s job) s)))

  placed : label_refusal s job ≡ 0
      → ◌≡◌ {A = LabelPlace} (record { refusal = 0; offset = label_start s job; length = label_length (job_of s job) }) (label_place s job)
  unfolding label_place label_at
  placed z = rw (whole_label z, z) refl

  -- the part at the label's place is the label, and it ends within the sheet
  pub record Shown (at long : ℕ) : Type 0 where
    pub within : at + long ≤ length s
    pub part : take long (drop at s) ≡ label_of s job

  shown_there : label_refusal s job ≡ 0 → Shown (label_start s job) (label_length (job_of s job))
  unfolding label_of
  shown_there z =
      let t = there 0 (sym z) refl in
      record { within = omega (arith, t.within, t.sheet.trailer.whole); part = rw z refl }

  shown : Shown (label_at s job) (length (label_of s job))
  unfolding label_at label_of
  shown = go (eqb (label_refusal s job) 0) refl where
    go : (b : Bool) → eqb (label_refusal s job) 0 ≡ b → Shown (label_at s job) (length (label_of s job))
    go true e = rw (whole_label (eqb-true (label_refusal s job) 0 e), e) (shown_there (eqb-true (label_refusal s job) 0 e))
    go false e = rw e (record { within = omega arith; part = rw e refl })

  module _ (p : LabelPlace) (e : p ≡ label_place s job) where
    pub place_at : p.offset ≡ label_at s job
    unfolding label_place
    place_at = ap (λ (x : LabelPlace). x.offset) e

    pub place_shown : Shown p.offset p.length
    unfolding label_place
    place_shown = rw e shown

  -- the bytes of the sheet at the label's place are the label
  pub label-at-place : take (label_place s job).length (drop (label_place s job).offset s) ≡ label_of s job
  label-at-place = (place_shown (label_place s job) refl).part

-- ---- from what reading answered

-- what a reading that has this number, or this count and these jobs, says of a job
place-refused : (r : Reading) (job : ℕ) → (r.refusal ≡ 0 → ⊥)
    → place_in r job ≡ record { refusal = r.refusal; offset = 0; length = 0 }
unfolding place_in first_failing
place-refused r job h = rw (ne_eqb r.refusal 0 h, ne_eqb r.refusal 0 h)

place_of-none : (r : Reading) (job : ℕ) → r.refusal ≡ 0 → r.count ≤ job → place_in r job ≡ record { refusal = 14; offset = 0; length = 0 }
unfolding place_in first_failing
place_of-none r job z l = rw (z, le-leb r.count job l)

place_of_one : (r : Reading) (job : ℕ) → r.refusal ≡ 0 → job < r.count → r.count ≤ most_jobs
    → place_in r job ≡ record { refusal = 0; offset = label_lengths job (jobs_in r.jobs); length = label_length (jobs_in r.jobs job) }
unfolding place_in first_failing
place_of_one r job z l few = rw (z, lt-leb r.count job l, lt-leb most_jobs job (omega arith))

pub place-answered : (r : Reading) (job : ℕ) → first_failing (place_checks r job) ≡ 0
    → ◌≡◌ {A = LabelPlace}
    (record { refusal = 0; offset = label_lengths job (jobs_in r.jobs); length = label_length (jobs_in r.jobs job) }) (place_in r job)
unfolding place_in
place-answered r job e = rw e refl

-- the job of a call that is answered has a place
pub job-placed : (r : Reading) (job : ℕ) → first_failing (place_checks r job) ≡ 0 → job < most_jobs
unfolding first_failing
job-placed r job e = go (eqb r.refusal 0) refl
  where
    past : (b : Bool) → (no_such_job r.count job || no_such_job most_jobs job) ≡ b → cond {A = ℕ} b 14 0 ≡ 0 → job < most_jobs
    past true eb z = absurd (omega arith)
    past false eb z = leb-false most_jobs job (or_right (no_such_job r.count job) (no_such_job most_jobs job) eb)

    go : (b : Bool) → eqb r.refusal 0 ≡ b → job < most_jobs
    go true eb = past (no_such_job r.count job || no_such_job most_jobs job) refl (rw eb at e)
    go false eb = absurd (eqb-false r.refusal 0 eb (rw eb at e))

-- The place of a label that the reading of a sheet gives is the place that the label call answers for the sheet, refusals included.
pub place_in-reading : (s : List ℕ) (job : ℕ) → place_in (reading s) job ≡ label_place s job
place_in-reading s job = go (eqb (read_refusal s) 0) refl
  where
    here : read_refusal s ≡ 0 → (b : Bool) → leb (count_of s) job ≡ b → place_in (answered (count_of s) (job_of s) (cabinet_of s)) job ≡ label_place s job
    here z true e =
        place_of-none (answered (count_of s) (job_of s) (cabinet_of s)) job refl (leb-true (count_of s) job e)
        ∙ no_place s job 14 (no-job_there s job z (leb-true (count_of s) job e)) (λ w. omega arith)
    here z false e =
        let l = leb-false (count_of s) job e in
        let same = job_in-place (count_of s) (job_of s) in
        place_of_one (answered (count_of s) (job_of s) (cabinet_of s)) job refl l (reads s z).trailer.figures.few
        ∙ ap₂ (λ (o k : ℕ). record { refusal = 0; offset = o; length = k })
        (lengths_same (count_of s) (jobs_in (places (count_of s) (job_of s))) (job_of s) same job (omega arith)) (ap label_length (same job l))
        ∙ placed s job (sym (label_there s job z l))

    go : (b : Bool) → eqb (read_refusal s) 0 ≡ b → place_in (reading s) job ≡ label_place s job
    go true e =
        let z = eqb-true (read_refusal s) 0 e in
        ap (λ (r : Reading). place_in r job) (read_answer s z) ∙ here z (leb (count_of s) job) refl
    go false e =
        let h = eqb-false (read_refusal s) 0 e in
        let n = read_number s in
        place-refused (reading s) job (λ z. h (sym n ∙ z))
        ∙ no_place s job (reading s).refusal (refused_in-reading s job (reading s).refusal n (λ z. h (sym n ∙ z))) (λ z. h (sym n ∙ z))
