-- Where the parts of a relaid sheet lie: the same offset, n, N, labels and jobs are found in it, and a changeover of 0.
use mathlib.Core.Path.{◌≡◌, refl, sym, ap, ap₂, ◌∙◌}
use mathlib.Core.List.{List, [], ◌++◌, append_assoc}
use Prim.Native.Nat.{ℕ, ◌+◌, ◌*◌, ◌≤◌, ◌<◌}
use native.Mathlib.Nat.{add-zero}
use native.Mathlib.Omega.{arith}
use lib.ListN.{length, take, drop, length-append, length-drop, get_or-append}
use lib.Seq.{length-take-le, take_at, get_or-take, get_or-drop}
use borrow.Author.Tests.{ltb-false, eqb-true, not-false}
use Rattle.counting.specs.Counting.{joined}
use Rattle.counting.proofs.Joins.{joined_length, joined_split}
use Rattle.checking.proofs.Order.{all_passed}
use Rattle.words.specs.Words.{byte_at, number_at}
use Rattle.words.proofs.Numbers.{number_front, number_behind, number_part}
use Rattle.sheet_format.specs.Figures.{most_jobs, most_modules, longest_sheet, record_size, trailer_size}
use Rattle.sheet_format.specs.Format.{record_at, trailer_at, offset_of, count_of, changeover_of, cabinet, cabinet_of, job_of, labels_of}
use Rattle.sheet_format.proofs.Bounds.{inside}
use Rattle.sheet_format.proofs.Digits.{record-behind}
use Rattle.older_sheets.specs.Older as older
use Rattle.older_sheets.specs.Older.{Layout, before_arrivals, before_changeovers}
use Rattle.older_sheets.specs.Relaid.{zero16, behind_record, relaid_record, relaid_trailer, relaid, LaidOut}

-- what 1 to 4 said where they passed
pub record Laid (L : Layout) (s : List ℕ) : Type 0 where
  pub long : older.trailer_size ≤ length s
  pub short : length s ≤ older.longest_sheet L
  pub few : older.count_of s ≤ most_jobs
  pub some : 1 ≤ older.modules_of s
  pub most : older.modules_of s ≤ most_modules
  pub whole : older.offset_of s + older.record_size L * older.count_of s + older.trailer_size ≡ length s

pub laid : (L : Layout) (s : List ℕ) → LaidOut L s → Laid L s
laid L s e =
    let p = all_passed (older.trailer_checks L s) refl e in
    let l = inside older.trailer_size (older.longest_sheet L) (length s) p.0 in
    let m = inside 1 most_modules (older.modules_of s) p.1.1.0 in
    record {
      long = l.0;
      short = l.1;
      few = ltb-false most_jobs (older.count_of s) p.1.0;
      some = m.0;
      most = m.1;
      whole = eqb-true (older.offset_of s + older.record_size L * older.count_of s + older.trailer_size) (length s)
          (not-false _ p.1.1.1.0);
    }

-- ---- figures of a layout

-- record i of n lies before the trailer
within : (L : Layout) (i n : ℕ) → i < n → older.record_size L * i + older.record_size L ≤ older.record_size L * n
within before_arrivals i n l = omega arith
within before_changeovers i n l = omega arith

-- a relaid sheet is no longer than today's longest
pub not_longer : (L : Layout) (o n : ℕ) → n ≤ most_jobs → o + older.record_size L * n + older.trailer_size ≤ older.longest_sheet L
    → o + record_size * n + trailer_size ≤ longest_sheet
not_longer before_arrivals o n few l = omega arith
not_longer before_changeovers o n few l = omega arith

-- ---- a record, with what stands behind it and more

module _ (s : List ℕ) (w b : ℕ) (fits : b + w ≤ length s) (q : List ℕ) where
  abbrev bytes : List ℕ
  bytes = take w (drop b s)

  length_bytes : length bytes ≡ w
  length_bytes = length-take-le w (drop b s) (rw (length-drop b s) (omega arith))

  in_bytes : (i : ℕ) → i < w → byte_at (bytes ++ q) i ≡ byte_at s (b + i)
  in_bytes i l = get_or-append bytes q 0 i (omega (arith, length_bytes)) ∙ get_or-take w (drop b s) i 0 l ∙ get_or-drop b s i 0

  in_number : (a k : ℕ) → a + k ≤ w → number_at (bytes ++ q) a k ≡ number_at s (b + a) k
  in_number a k l = number_front bytes q a k (omega (arith, length_bytes)) ∙ number_part s w b a k l

-- all fields but the arrival
module _ (s : List ℕ) (w b : ℕ) (some : 10 ≤ w) (fits : b + w ≤ length s) (q : List ℕ) (arrival : ℕ)
    (is : number_at (take w (drop b s) ++ q) 10 2 ≡ arrival) where
  fields_are : record_at (take w (drop b s) ++ q) 0
      ≡ record {
        label_len = byte_at s b;
        modules = byte_at s (b + 1);
        minutes = number_at s (b + 2) 2;
        earlier = number_at s (b + 4) 4;
        departure = number_at s (b + 8) 2;
        arrival = arrival;
      }
  unfolding record_at
  fields_are =
      let first : byte_at (take w (drop b s) ++ q) 0 ≡ byte_at s b = in_bytes s w b fits q 0 (omega arith) ∙ ap (byte_at s) (add-zero b) in
      rw (
        first,
        in_bytes s w b fits q 1 (omega arith),
        in_number s w b fits q 2 2 (omega arith),
        in_number s w b fits q 4 4 (omega arith),
        in_number s w b fits q 8 2 (omega arith),
        is,
      )

record-relaid : (L : Layout) (s : List ℕ) (b : ℕ) → b + older.record_size L ≤ length s → (rest : List ℕ)
    → record_at ((take (older.record_size L) (drop b s) ++ behind_record L) ++ rest) 0 ≡ older.record_at L s b
unfolding older.record_at number_at
record-relaid before_arrivals s b fits rest =
    rw (append_assoc (take 10 (drop b s)) zero16 rest)
    (fields_are s 10 b (omega arith) fits (zero16 ++ rest) 0
    (number_behind (take 10 (drop b s)) (zero16 ++ rest) 10 0 2 (length_bytes s 10 b fits [])))
record-relaid before_changeovers s b fits rest =
    rw (append_assoc (take 12 (drop b s)) [] rest)
    (fields_are s 12 b (omega arith) fits rest (number_at s (b + 10) 2) (in_number s 12 b fits rest 10 2 (omega arith)))

length_record : (L : Layout) (s : List ℕ) (b : ℕ) → b + older.record_size L ≤ length s
    → length (take (older.record_size L) (drop b s) ++ behind_record L) ≡ record_size
length_record before_arrivals s b fits = length-append (take 10 (drop b s)) zero16 ∙ omega (arith, length_bytes s 10 b fits [])
length_record before_changeovers s b fits = length-append (take 12 (drop b s)) [] ∙ omega (arith, length_bytes s 12 b fits [])

-- ---- the whole sheet

module _ (L : Layout) (s : List ℕ) (t : Laid L s) where
  abbrev r : List ℕ
  r = relaid L s

  abbrev o : ℕ
  o = older.offset_of s

  abbrev n : ℕ
  n = older.count_of s

  abbrev row : ℕ → List ℕ
  row = relaid_record L s

  abbrev front : ℕ → List ℕ
  front i = older.labels_of s ++ joined i row

  length_labels : length (older.labels_of s) ≡ o
  length_labels = length-take-le o s (omega (arith, t.whole))

  record_fits : (i : ℕ) → i < n → o + older.record_size L * i + older.record_size L ≤ length s
  record_fits i l = omega (arith, t.whole, within L i n l)

  length_front : (i : ℕ) → i ≤ n → length (front i) ≡ o + record_size * i
  length_front i l =
      length-append (older.labels_of s) (joined i row)
      ∙ omega (
        arith,
        length_labels,
        joined_length i record_size row (λ k m.
            length_record L s (o + older.record_size L * k) (record_fits k (omega arith))),
      )

  abbrev trailer : List ℕ
  trailer = take older.trailer_size (drop (older.trailer_at s) s)

  length_end : length trailer ≡ older.trailer_size
  length_end =
      length-take-le older.trailer_size (drop (older.trailer_at s) s) (rw (length-drop (older.trailer_at s) s) (omega (arith, t.long)))

  split_trailer : r ≡ front n ++ relaid_trailer s
  unfolding relaid
  split_trailer = sym (append_assoc (older.labels_of s) (joined n row) (relaid_trailer s))

  pub length-relaid : length r ≡ o + record_size * n + trailer_size
  length-relaid =
      ap (length {A = ℕ}) split_trailer ∙ length-append (front n) (relaid_trailer s)
      ∙ omega (arith, length_front n (omega arith), length-append trailer zero16, length_end)

  -- a number of the relaid trailer
  in_trailer : (a k : ℕ) → number_at r (trailer_at r + a) k ≡ number_at (trailer ++ zero16) a k
  in_trailer a k =
      let at : trailer_at r ≡ o + record_size * n = omega (arith, length-relaid) in
      ap₂ (λ (x : List ℕ) (i : ℕ). number_at x (i + a) k) split_trailer at
      ∙ number_behind (front n) (relaid_trailer s) (o + record_size * n) a k (length_front n (omega arith))

  as_before : (a k : ℕ) → a + k ≤ older.trailer_size → number_at r (trailer_at r + a) k ≡ number_at s (older.trailer_at s + a) k
  as_before a k l =
      in_trailer a k ∙ number_front trailer zero16 a k (omega (arith, length_end))
      ∙ number_part s older.trailer_size (older.trailer_at s) a k l

  pub offset_is : offset_of r ≡ o
  offset_is =
      ap (λ (i : ℕ). number_at r i 4) (sym (add-zero (trailer_at r))) ∙ as_before 0 4 (omega arith)
      ∙ ap (λ (i : ℕ). number_at s i 4) (add-zero (older.trailer_at s))

  pub count_is : count_of r ≡ n
  count_is = as_before 4 2 (omega arith)

  changeover_is : changeover_of r ≡ 0
  unfolding number_at
  changeover_is = in_trailer 8 2 ∙ number_behind trailer zero16 older.trailer_size 0 2 length_end

  pub cabinet_is : cabinet_of r ≡ older.cabinet_of s
  cabinet_is = ap₂ cabinet (as_before 6 2 (omega arith)) changeover_is

  pub labels_is : labels_of r ≡ older.labels_of s
  unfolding relaid
  labels_is = ap (λ (k : ℕ). take k r) offset_is ∙ take_at (older.labels_of s) (joined n row ++ relaid_trailer s) o length_labels

  pub job_is : (i : ℕ) → i < n → job_of r i ≡ older.job_of L s i
  unfolding relaid
  job_is i l =
      let p = joined_split n row i l in
      let rest : List ℕ = p.0 ++ relaid_trailer s in
      let split : r ≡ front i ++ (row i ++ rest) =
      ap (λ (x : List ℕ). older.labels_of s ++ (x ++ relaid_trailer s)) p.1
      ∙ ap (λ (x : List ℕ). older.labels_of s ++ x) (append_assoc (joined i row) (row i ++ p.0) (relaid_trailer s))
      ∙ sym (append_assoc (older.labels_of s) (joined i row) ((row i ++ p.0) ++ relaid_trailer s))
      ∙ ap (λ (x : List ℕ). front i ++ x) (append_assoc (row i) p.0 (relaid_trailer s)) in
      ap₂ (λ (x : List ℕ) (k : ℕ). record_at x (k + record_size * i)) split offset_is
      ∙ record-behind (front i) (row i ++ rest) (o + record_size * i) (length_front i (omega arith))
      ∙ record-relaid L s (o + older.record_size L * i) (record_fits i l) rest
