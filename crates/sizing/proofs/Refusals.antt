-- Which of 9, 20 and 10 a sheet that reads gets, and what they say where they pass.
use mathlib.Core.Path.{◌≡◌, refl}
use mathlib.Core.Logic.{◌↔◌}
use mathlib.Core.Bool.{true, false}
use mathlib.Core.List.{List, [], ◌∷◌}
use Prim.Native.Nat.{ℕ, ◌≤◌, ◌<◌}
use lib.Dec.{ltb}
use borrow.Author.Tests.{ltb-false}
use Rattle.figures.specs.Figures.{most_modules}
use Rattle.schedule.specs.Plan.{Sheet, Lasting, Circular}
use Rattle.schedule.proofs.Same.{SameJobs, marks_of}
use Rattle.card.specs.Card.{card_size}
use Rattle.checking.specs.Checking.{first_failing, FirstFails}
use Rattle.checking.proofs.Order.{all_passed, both_passed, none_failing, first-behind, refused_exactly}
use Rattle.sheet.specs.Read.{read_checks, read_refusal}
use Rattle.planable.specs.Planable.{sheet_in, no_order}
use Rattle.planable.proofs.Circles.{circular_when, ordered_when, none_same}
use Rattle.cabinets.specs.Counts.{least_count}
use Rattle.cabinets.proofs.Counts.{least_same}
use Rattle.sizing.specs.Sizing.{count_checks, count_refusal, size_checks, size_refusal}

-- The number is k exactly when check k fails and none before it does.
pub size-refused : (s : List ℕ) (t room k : ℕ) → 0 < k → (size_refusal s t room ≡ k) ↔ FirstFails (size_checks s t room) k
unfolding size_refusal
size-refused s t room k h = refused_exactly (size_checks s t room) k h

-- behind a sheet that reads, 9, 20 and 10
pub behind-reading : (s : List ℕ) (t room : ℕ) → read_refusal s ≡ 0 → size_refusal s t room ≡ count_refusal (sheet_in s) t room
unfolding size_refusal count_refusal
behind-reading s t room e = first-behind (read_checks s) (count_checks (sheet_in s) t room) (all_passed (read_checks s) refl e)

-- two sheets that say the same of every job have the same number
pub number_same : {S T : Sheet} → SameJobs S T → Lasting S → (t room : ℕ) → count_refusal S t room ≡ count_refusal T t room
unfolding count_refusal
number_same h w t room = λ i.
    first_failing ((9, none_same (marks_of h) i) ∷ (20, ltb most_modules (least_same h w t i)) ∷ (10, ltb room (card_size (h.jobs i))) ∷ [])

-- ---- each number

module _ (S : Sheet) (t room : ℕ) where
  pub number_circular : Circular S → count_refusal S t room ≡ 9
  unfolding count_refusal first_failing
  number_circular c = rw ((circular_when S).1 c) refl

  module _ (c : ¬ Circular S) where
    pub number_no-count : ltb most_modules (least_count S t) ≡ true → count_refusal S t room ≡ 20
    unfolding count_refusal first_failing
    number_no-count e = rw ((ordered_when S).1 c, e) refl

    module _ (e : ltb most_modules (least_count S t) ≡ false) where
      pub number_no-room : ltb room (card_size S.jobs) ≡ true → count_refusal S t room ≡ 10
      unfolding count_refusal first_failing
      number_no-room l = rw ((ordered_when S).1 c, e, l) refl

      pub number-none : ltb room (card_size S.jobs) ≡ false → count_refusal S t room ≡ 0
      unfolding count_refusal first_failing
      number-none l = rw ((ordered_when S).1 c, e, l) refl

-- ---- where all pass

pub record Enough (S : Sheet) (t len : ℕ) : Type 0 where
  pub ordered : no_order S ≡ false
  pub count : least_count S t ≤ most_modules
  pub room : ltb len (card_size S.jobs) ≡ false

pub enough : (S : Sheet) (t room : ℕ) → count_refusal S t room ≡ 0 → Enough S t room
unfolding count_refusal
enough S t room e =
    let p = all_passed (count_checks S t room) refl e in
    record { ordered = p.0; count = ltb-false most_modules (least_count S t) p.1.0; room = p.1.1.0 }

pub size_reads : (s : List ℕ) (t room : ℕ) → size_refusal s t room ≡ 0 → read_refusal s ≡ 0
unfolding size_refusal
size_reads s t room e =
    none_failing (read_checks s) (both_passed (read_checks s) (count_checks (sheet_in s) t room) (all_passed (size_checks s t room) refl e)).0
