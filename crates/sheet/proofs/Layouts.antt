-- Where the parts of a written sheet lie: its trailer, its records and its labels are found again.
use mathlib.Core.Path.{◌≡◌, sym, ap, ap₂, ◌∙◌}
use mathlib.Core.List.{List, ◌++◌, append_assoc}
use Prim.Native.Nat.{ℕ, ◌+◌, ◌*◌, ◌<◌}
use native.Mathlib.Nat.{add-zero}
use native.Mathlib.Omega.{arith}
use lib.ListN.{length, take, length-append}
use lib.Seq.{take-append_seam}
use Rattle.counting.specs.Counting.{joined}
use Rattle.counting.proofs.Joins.{joined_split}
use Rattle.sheet_format.specs.declared.Job.{Job}
use Rattle.sheet_format.specs.Figures.{record_size}
use Rattle.words.specs.Words.{number_at}
use Rattle.words.proofs.Numbers.{number_behind}
use Rattle.sheet_format.specs.Format.{record_at, record_bytes, trailer_bytes, sheet_bytes}
use Rattle.sheet_format.specs.declared.Cabinet.{Cabinet}
use Rattle.sheet_format.specs.Format.{trailer_at, offset_of, count_of, modules_of, changeover_of, cabinet, cabinet_of, job_of, labels_of}
use Rattle.sheet_format.proofs.Parts.{length_records}
use Rattle.sheet_format.proofs.Digits.{TrailerHolds, record_read, trailer_read, record-behind}
use Rattle.sheet.proofs.Writes.{length-sheet, Writes}

module _ (jobs : ℕ → Job) (n : ℕ) (labels : List ℕ) (C : Cabinet) (room : ℕ) (w : Writes jobs n labels C room) where
  abbrev s : List ℕ
  s = sheet_bytes jobs n labels C

  abbrev row : ℕ → List ℕ
  row i = record_bytes (jobs i)

  abbrev front : ℕ → List ℕ
  front i = labels ++ joined i row

  abbrev trailer : List ℕ
  trailer = trailer_bytes (length labels) n C

  length_front : (i : ℕ) → length (front i) ≡ length labels + record_size * i
  length_front i = length-append labels (joined i row) ∙ ap (λ (k : ℕ). length labels + k) (length_records i jobs)

  split_trailer : s ≡ front n ++ trailer
  unfolding sheet_bytes
  split_trailer = sym (append_assoc labels (joined n row) trailer)

  at_trailer : trailer_at s ≡ length labels + record_size * n
  at_trailer = omega (arith, length-sheet jobs n labels C)

  in_trailer : (a k : ℕ) → number_at s (trailer_at s + a) k ≡ number_at trailer a k
  in_trailer a k =
      ap₂ (λ (l : List ℕ) (i : ℕ). number_at l (i + a) k) split_trailer at_trailer
      ∙ number_behind (front n) trailer (length labels + record_size * n) a k (length_front n)

  trailer-holds : TrailerHolds trailer (length labels) n C
  trailer-holds =
      trailer_read (length labels) n C (omega (arith, w.short, w.figures.few)) (omega (arith, w.figures.few))
      (omega (arith, w.figures.most)) (omega (arith, w.figures.rests))

  pub offset_is : offset_of s ≡ length labels
  offset_is = ap (λ (i : ℕ). number_at s i 4) (sym (add-zero (trailer_at s))) ∙ in_trailer 0 4 ∙ trailer-holds.offset_is

  pub count_is : count_of s ≡ n
  count_is = in_trailer 4 2 ∙ trailer-holds.count_is

  modules_is : modules_of s ≡ C.modules
  modules_is = in_trailer 6 2 ∙ trailer-holds.modules_is

  changeover_is : changeover_of s ≡ C.changeover
  changeover_is = in_trailer 8 2 ∙ trailer-holds.changeover_is

  pub cabinet_is : cabinet_of s ≡ C
  cabinet_is = ap₂ cabinet modules_is changeover_is

  pub labels_is : labels_of s ≡ labels
  unfolding sheet_bytes
  labels_is = ap (λ (k : ℕ). take k s) offset_is ∙ take-append_seam labels (joined n row ++ trailer)

  pub job_is : (i : ℕ) → i < n → job_of s i ≡ jobs i
  unfolding sheet_bytes
  job_is i l =
      let r = joined_split n row i l in
      let split : s ≡ front i ++ (row i ++ (r.0 ++ trailer)) =
      ap (λ (x : List ℕ). labels ++ (x ++ trailer)) r.1
      ∙ ap (λ (x : List ℕ). labels ++ x) (append_assoc (joined i row) (row i ++ r.0) trailer)
      ∙ sym (append_assoc labels (joined i row) ((row i ++ r.0) ++ trailer))
      ∙ ap (λ (x : List ℕ). front i ++ x) (append_assoc (row i) r.0 trailer) in
      ap₂ (λ (x : List ℕ) (o : ℕ). record_at x (o + record_size * i)) split offset_is
      ∙ record-behind (front i) (row i ++ (r.0 ++ trailer)) (length labels + record_size * i) (length_front i)
      ∙ record_read n (jobs i) (r.0 ++ trailer) w.figures.few (w.sound i l)
