-- The card's length, and that its plan can be read back from it.
use mathlib.Core.Path.{◌≡◌, sym, ap, ◌∙◌}
use mathlib.Core.List.{List, ◌++◌, append_assoc}
use Prim.Native.Nat.{ℕ, ◌+◌, ◌*◌, ◌^◌, ◌≤◌, ◌<◌}
use native.Mathlib.Omega.{arith}
use native.Mathlib.Nat.{add-zero, le_trans}
use lib.Dec.{lit≤}
use lib.ListN.{length, get_or, length-append, get_or-append}
use lib.Pow.{pow_mono}
use lib.Seq.{get_or-append-add}
use Rattle.counting.specs.Counting.{joined}
use Rattle.counting.proofs.Ranges.{largest-le}
use Rattle.counting.proofs.Joins.{joined_length}
use Rattle.figures.specs.Figures.{most_modules, last_end}
use Rattle.bits.proofs.Sets.{set_of-lt}
use Rattle.schedule.specs.Plan.{Sheet, finish}
use Rattle.schedule.specs.ListPlan.{Order, empty_part, list_plan}
use Rattle.schedule.specs.TieRule.{end_of}
use Rattle.schedule.proofs.Sound.{completes_all, order_completes}
use Rattle.tables.specs.declared.Jobs.{Jobs}
use Rattle.tables.proofs.Ends.{ends_short}
use Rattle.tables.specs.Tables.{sheet_of, count_of, modules_of, Fit}
use Rattle.card.specs.Card.{row_size, row_end, row_modules, trailer_size, trailer_end, trailer_count, order_at, trailer_at, card_size}
use Rattle.card.specs.Card.{row_bytes, trailer_bytes, card_bytes, row_of, card_of}
use Rattle.card.specs.Decoding.{Decodes}
use Rattle.card.proofs.Joins.{row-length, trailer-length}
use Rattle.words.specs.Words.{bytes_of, number_at}
use Rattle.words.proofs.Bytes.{bytes-length}
use Rattle.words.proofs.Numbers.{number_front, number_behind, number_first, number_next, number_last, number_joined}

-- ---- rows and trailers

module _ (start end modules : ℕ) where
  row_start : start < 2 ^ 16 → number_at (row_bytes start end modules) 0 2 ≡ start
  unfolding row_bytes
  row_start l = number_first 2 start (bytes_of 2 end ++ bytes_of 8 modules) l

  row_end_lem : end < 2 ^ 16 → number_at (row_bytes start end modules) row_end 2 ≡ end
  unfolding row_bytes
  row_end_lem l = number_next 2 2 end (bytes_of 2 start) (bytes_of 8 modules) (bytes-length 2 start) l

  row_modules_lem : modules < 2 ^ 64 → number_at (row_bytes start end modules) row_modules 8 ≡ modules
  unfolding row_bytes
  row_modules_lem l =
      number_behind (bytes_of 2 start) (bytes_of 2 end ++ bytes_of 8 modules) 2 2 8 (bytes-length 2 start)
      ∙ number_last 2 8 modules (bytes_of 2 end) (bytes-length 2 end) l

module _ (n end : ℕ) where
  trailer_offset : order_at n < 2 ^ 32 → number_at (trailer_bytes n end) 0 4 ≡ order_at n
  unfolding trailer_bytes
  trailer_offset l = number_first 4 (order_at n) (bytes_of 2 end ++ bytes_of 2 n) l

  trailer_end_lem : end < 2 ^ 16 → number_at (trailer_bytes n end) trailer_end 2 ≡ end
  unfolding trailer_bytes
  trailer_end_lem l = number_next 4 2 end (bytes_of 4 (order_at n)) (bytes_of 2 n) (bytes-length 4 (order_at n)) l

  trailer-count : n < 2 ^ 16 → number_at (trailer_bytes n end) trailer_count 2 ≡ n
  unfolding trailer_bytes
  trailer-count l =
      number_behind (bytes_of 4 (order_at n)) (bytes_of 2 end ++ bytes_of 2 n) 4 2 2 (bytes-length 4 (order_at n))
      ∙ number_last 2 2 n (bytes_of 2 end) (bytes-length 2 end) l

-- ---- the card

-- "It has 13n + 8 bytes."
pub card-length : (S : Sheet) (o : List ℕ) → Order S o → length (card_of S o) ≡ card_size S.jobs
unfolding card_bytes
card-length S o h =
    let n = S.jobs in
    let rows = joined_length n row_size (row_of S o) (λ j l. row-length _ _ _) in
    let tail = length-append o (trailer_bytes n (end_of S o)) in
    length-append (joined n (row_of S o)) (o ++ trailer_bytes n (end_of S o)) ∙ omega (arith, h.all, trailer-length n (end_of S o))

module _ (t : Jobs) (fit : Fit t) (o : List ℕ) (h : Order (sheet_of t) o) (rest : List ℕ) where
  abbrev S : Sheet
  S = sheet_of t

  abbrev jobs : ℕ
  jobs = count_of t

  pub end_short : (j : ℕ) → j < jobs → finish S (list_plan S o) j ≤ last_end
  end_short j l = ends_short t fit o h.follows j l (completes_all S empty_part o (order_completes S o h) j l)

  abbrev tail : List ℕ
  tail = trailer_bytes jobs (end_of S o) ++ rest

  abbrev s : List ℕ
  s = card_of S o ++ rest

  rows_first : s ≡ joined jobs (row_of S o) ++ (o ++ tail)
  unfolding card_bytes
  rows_first =
      append_assoc (joined jobs (row_of S o)) (o ++ trailer_bytes jobs (end_of S o)) rest
      ∙ ap (λ (x : List ℕ). joined jobs (row_of S o) ++ x) (append_assoc o (trailer_bytes jobs (end_of S o)) rest)

  rows-length : length (joined jobs (row_of S o)) ≡ order_at jobs
  rows-length = joined_length jobs row_size (row_of S o) (λ j l. row-length _ _ _)

  in_row : (j a k : ℕ) → j < jobs → a + k ≤ row_size → number_at s (row_size * j + a) k ≡ number_at (row_of S o j) a k
  in_row j a k l m =
      ap (λ (x : List ℕ). number_at x (row_size * j + a) k) rows_first
      ∙ number_joined jobs row_size (row_of S o) (λ i x. row-length _ _ _) (o ++ tail) j a k l m

  in_trailer : (a k : ℕ) → a + k ≤ trailer_size → number_at s (trailer_at jobs + a) k ≡ number_at (trailer_bytes jobs (end_of S o)) a k
  in_trailer a k m =
      let at : trailer_at jobs + a ≡ order_at jobs + (jobs + a) = omega arith in
      ap (λ (x : List ℕ). number_at x (trailer_at jobs + a) k) rows_first
      ∙ ap (λ (i : ℕ). number_at (joined jobs (row_of S o) ++ (o ++ tail)) i k) at
      ∙ number_behind (joined jobs (row_of S o)) (o ++ tail) (order_at jobs) (jobs + a) k rows-length
      ∙ number_behind o tail jobs a k h.all
      ∙ number_front (trailer_bytes jobs (end_of S o)) rest a k (omega (arith, trailer-length jobs (end_of S o)))

  -- The plan that the card holds is the list plan of the order, whatever stands behind the card.
  pub card_decodes : Decodes S o (card_of S o ++ rest)
  card_decodes = record {
    start = λ j l.
        ap (λ (i : ℕ). number_at s i 2) (sym (add-zero (row_size * j))) ∙ in_row j 0 2 l (lit≤ tt)
        ∙ row_start _ _ _ (omega (arith, end_short j l));
    end = λ j l. in_row j row_end 2 l (lit≤ tt) ∙ row_end_lem _ _ _ (omega (arith, end_short j l));
    modules = λ j l.
        in_row j row_modules 8 l (lit≤ tt)
        ∙ row_modules_lem _ _ _ (le_trans (set_of-lt (modules_of t) ((list_plan S o).uses j)) (pow_mono {i = modules_of t} {j = most_modules} fit.most));
    order = λ k l.
        ap (λ (x : List ℕ). get_or x (order_at jobs + k) 0) rows_first
        ∙ ap (λ (i : ℕ). get_or (joined jobs (row_of S o) ++ (o ++ tail)) (i + k) 0) (sym rows-length)
        ∙ get_or-append-add (joined jobs (row_of S o)) (o ++ tail) k 0 ∙ get_or-append o tail 0 k (omega (arith, h.all));
    offset =
        ap (λ (i : ℕ). number_at s i 4) (sym (add-zero (trailer_at jobs))) ∙ in_trailer 0 4 (lit≤ tt)
        ∙ trailer_offset jobs (end_of S o) (omega (arith, fit.few));
    last =
        in_trailer trailer_end 2 (lit≤ tt)
        ∙ trailer_end_lem jobs (end_of S o) (omega (arith, largest-le jobs (finish S (list_plan S o)) last_end end_short));
    count = in_trailer trailer_count 2 (lit≤ tt) ∙ trailer-count jobs (end_of S o) (omega (arith, fit.few));
  }
