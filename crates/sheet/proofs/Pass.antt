-- What the pass over the records knows after some of them, and which of 5 to 7 it finds.
use mathlib.Core.Path.{◌≡◌, refl, sym, ap, ap₂, ◌∙◌}
use mathlib.Core.Bool.{Bool, true, false, ◌||◌}
use mathlib.Core.List.{List}
use Prim.Native.Nat.{ℕ, ◌+◌, ◌-◌, ◌*◌, ◌≤◌, ◌<◌}
use native.Mathlib.Numerals.{add-one}
use native.Mathlib.Omega.{arith}
use lib.ListN.{length, take, drop, set}
use lib.Seq.{length-take-le}
use borrow.Author.Tests.{eq-eqb, ne_eqb}
use Rattle.counting.specs.Counting.{sum, any, joined}
use Rattle.counting.proofs.Ranges.{any_at}
use Rattle.checking.specs.Checking.{first_failing}
use Rattle.sheet_format.specs.declared.Job.{Job}
use Rattle.sheet_format.specs.Figures.{most_jobs, record_size}
use Rattle.sheet_format.specs.Format.{no_jobs, places, job_from, label_length, label_lengths, offset_of, count_of}
use Rattle.sheet_format.specs.Checks.{faulty, wrong_label, wrong_labels, content_checks}
use Rattle.sheet_format.proofs.Lists.{place_more}
use Rattle.sheet.proofs.Answers.{Trailer}

-- after i of n records: none of them is faulty, their jobs stand in their places, their label lengths are summed, and where their labels end
-- within the labels it is known whether one of these is wrong
pub record After (s : List ℕ) (offset n i : ℕ) (jobs : List Job) (total : ℕ) (wrong : Bool) : Type 0 where
  pub few : n ≤ most_jobs
  pub whole : offset + record_size * n ≤ length s
  pub at : i ≤ n
  pub sound : any i (λ k. faulty n (job_from s offset k)) ≡ false
  pub listed : jobs ≡ places i (job_from s offset)
  pub summed : total ≡ label_lengths i (job_from s offset)
  pub small : total ≤ 255 * i
  pub labels : total ≤ offset → wrong ≡ wrong_labels i (job_from s offset) (take offset s)

module _ (s : List ℕ) (offset n : ℕ) where
  abbrev job : ℕ → Job
  job = job_from s offset

  abbrev bytes : List ℕ
  bytes = take offset s

  pub after_none : n ≤ most_jobs → offset + record_size * n ≤ length s → (jobs : List Job) → jobs ≡ no_jobs → After s offset n 0 jobs 0 false
  unfolding no_jobs places joined sum any
  after_none few whole jobs none = record {
    few = few;
    whole = whole;
    at = omega arith;
    sound = refl;
    listed = none;
    summed = refl;
    small = omega arith;
    labels = λ l. refl;
  }

  module _ (i : ℕ) (jobs : List Job) (total : ℕ) (wrong : Bool) (a : After s offset n i jobs total wrong) where
    -- the labels are as many bytes as the offset says
    pub labels_long : length bytes ≡ offset
    labels_long = length-take-le offset s (omega (arith, a.whole))

    -- one record more, with its label
    pub after_more : (j : Job) (long : ℕ) (off wrong' : Bool) → i < n → j ≡ job i → faulty n j ≡ false → (long ≡ label_length j) × (long ≤ 255)
        → (total + long ≤ length bytes → off ≡ wrong_label (take (total + long - total) (drop total bytes))) → wrong' ≡ (wrong || off)
        → After s offset n (i + 1) (set jobs i j) (total + long) wrong'
    unfolding sum any
    after_more j long off wrong' below is sound size eo ew =
        let long_is : long ≡ label_length (job i) = size.0 ∙ ap label_length is in
        let cut : total + long - total ≡ label_length (job i) = omega arith in
        record {
          few = a.few;
          whole = a.whole;
          at = omega arith;
          sound = rw add-one (ap₂ ◌||◌ a.sound (ap (faulty n) (sym is) ∙ sound));
          listed = ap₂ (λ (l : List Job) (x : Job). set l i x) a.listed is ∙ place_more i job (omega (arith, a.few));
          summed = rw add-one (ap₂ ◌+◌ a.summed long_is);
          small = omega (arith, size.1, a.small);
          labels = λ l. rw add-one (ew ∙ ap₂ ◌||◌ (a.labels (omega arith)) (eo (omega (arith, labels_long))
              ∙ ap₂ (λ (k m : ℕ). wrong_label (take k (drop m bytes))) cut a.summed));
        }

    -- a faulty record: 5
    pub finds_5 : (j : Job) → i < n → j ≡ job i → faulty n j ≡ true → 5 ≡ first_failing (content_checks n job bytes)
    unfolding first_failing
    finds_5 j below is bad = rw (any_at n (λ k. faulty n (job k)) i below (ap (faulty n) (sym is) ∙ bad))

    -- behind the last record: 6, 7, or none
    module _ (last : i ≡ n) where
      none-faulty : any n (λ k. faulty n (job k)) ≡ false
      none-faulty = ap (λ (m : ℕ). any m (λ k. faulty n (job k))) (sym last) ∙ a.sound

      total_is : label_lengths n job ≡ total
      total_is = sym (a.summed ∙ ap (λ (m : ℕ). label_lengths m job) last)

      pub finds_6 : (total ≡ offset → ⊥) → 6 ≡ first_failing (content_checks n job bytes)
      unfolding first_failing
      finds_6 h = rw (none-faulty, total_is, labels_long, ne_eqb total offset h)

      module _ (even : total ≡ offset) where
        wrong_is : wrong_labels n job bytes ≡ wrong
        wrong_is = sym (a.labels (omega arith) ∙ ap (λ (m : ℕ). wrong_labels m job bytes) last)

        pub finds_7 : wrong ≡ true → 7 ≡ first_failing (content_checks n job bytes)
        unfolding first_failing
        finds_7 w = rw (none-faulty, total_is, labels_long, eq-eqb total offset even, wrong_is ∙ w)

        pub finds-none : wrong ≡ false → 0 ≡ first_failing (content_checks n job bytes)
        unfolding first_failing
        finds-none w = rw (none-faulty, total_is, labels_long, eq-eqb total offset even, wrong_is ∙ w)

      pub jobs_all : jobs ≡ places n job
      jobs_all = a.listed ∙ ap (λ (m : ℕ). places m job) last

-- what the trailer says of the records
pub records_there : (s : List ℕ) (offset n : ℕ) → Trailer s → offset ≡ offset_of s → n ≡ count_of s
    → (n ≤ most_jobs) × (offset + record_size * n ≤ length s)
records_there s offset n t eo en = (omega (arith, t.figures.few), omega (arith, t.whole))
