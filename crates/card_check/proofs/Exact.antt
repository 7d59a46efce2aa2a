-- The test of a card is true exactly where the card is one for the sheet.
use mathlib.Core.Path.{◌≡◌, refl, sym, ap, ◌∙◌}
use mathlib.Core.Logic.{◌⊎◌, inl, inr, ⊎_elim, ◌↔◌, ◌≢◌}
use mathlib.Core.Bool.{Bool, true, false, ◌&&◌, or-true}
use mathlib.Core.List.{List}
use Prim.Native.Nat.{ℕ, zero, suc, ◌+◌, ◌^◌, ◌≤◌, ◌<◌, zero-le}
use native.Mathlib.Omega.{arith}
use native.Mathlib.Nat.{mul-one}
use lib.Bits.{bit_and}
use lib.Count.{ones}
use lib.Dec.{ltb, leb, eqb}
use lib.ListN.{length}
use borrow.Author.Tests.{eqb-true, eqb-false, eq-eqb, ne_eqb, leb-true, le-leb, ltb-true, lt-ltb}
use Rattle.counting.specs.Counting.{only, every, count}
use Rattle.counting.proofs.Tests.{clash, true-or-false, less-or-not, eqb_turned, and_left, and_right, and_both, implied, implication}
use Rattle.counting.proofs.Sums.{sum_same, sum_swap, sum_const, sum-at}
use Rattle.counting.proofs.Counts.{count_full}
use Rattle.counting.proofs.Ranges.{every-at, every_intro}
use Rattle.bits.proofs.Digits.{bit_above}
use Rattle.bits.proofs.Sets.{bits_below, and-empty}
use Rattle.bits.proofs.Ones.{ones-count}
use Rattle.bits.proofs.Walks.{common_member}
use Rattle.schedule.specs.Plan.{Sheet, Plan, Valid, finish, plan_end}
use Rattle.words.specs.Words.{number_at}
use Rattle.card.specs.Card.{trailer_end, trailer_count, order_at, trailer_at, card_size}
use Rattle.card.specs.Decoding.{plan_on}
use Rattle.card_check.specs.CardFor.{job_at, CardFor}
use Rattle.card_check.specs.Test.{start_on, end_on, modules_on, clears, apart, follows, pair_fits, figures_fit, row_fits, named_once}
use Rattle.card_check.specs.Test.{start_before, rises, order_fits, trailer_fits, card_fits}

module _ (S : Sheet) (card : List ℕ) where
  abbrev P : Plan
  P = plan_on card

  abbrev n : ℕ
  n = S.jobs

  -- ---- one way: what the test says

  abbrev disjoint : ℕ → ℕ → Bool
  disjoint i j = eqb (bit_and (modules_on card i) (modules_on card j)) 0

  says-apart : (i j : ℕ) → apart S card i j ≡ true → i ≢ j → (m : ℕ) → P.uses i m ≡ true → P.uses j m ≡ true
      → (finish S P i + S.rest ≤ P.start j) ⊎ (finish S P j + S.rest ≤ P.start i)
  says-apart i j e d m u v = go (true-or-false (disjoint i j)) (true-or-false (clears S card i j)) (true-or-false (clears S card j i))
    where
      go : (disjoint i j ≡ true) ⊎ (disjoint i j ≡ false) → (clears S card i j ≡ true) ⊎ (clears S card i j ≡ false)
          → (clears S card j i ≡ true) ⊎ (clears S card j i ≡ false)
          → (finish S P i + S.rest ≤ P.start j) ⊎ (finish S P j + S.rest ≤ P.start i)
      go (inl t) b c = clash (P.uses j m) v (and-empty (modules_on card i) (modules_on card j) (eqb-true _ 0 t) m u)
      go (inr t) (inl b) c = inl (leb-true _ _ b)
      go (inr t) (inr b) (inl c) = inr (leb-true _ _ c)
      go (inr t) (inr b) (inr c) = clash false (rw (ne_eqb i j d, t, b, c) at e) refl

  module _ (e : card_fits S card ≡ true) where
    abbrev sized : Bool
    sized = eqb (length card) (card_size n)

    behind_size : (every n (row_fits S card) && (order_fits S card && trailer_fits S card)) ≡ true
    unfolding card_fits
    behind_size = and_right sized _ e

    behind_rows : (order_fits S card && trailer_fits S card) ≡ true
    behind_rows = and_right (every n (row_fits S card)) _ behind_size

    row : (j : ℕ) → j < n → row_fits S card j ≡ true
    row = every-at n (row_fits S card) (and_left (every n (row_fits S card)) _ behind_size)

    figures : (j : ℕ) → j < n → figures_fit S card j ≡ true
    figures j l = and_left (figures_fit S card j) (every n (pair_fits S card j)) (row j l)

    pair : (i j : ℕ) → i < n → j < n → pair_fits S card j i ≡ true
    pair i j k l = every-at n (pair_fits S card j) (and_right (figures_fit S card j) (every n (pair_fits S card j)) (row j l)) i k

    module _ (j : ℕ) (l : j < n) where
      abbrev r1 : Bool
      r1 = eqb (end_on card j) (finish S P j)

      abbrev r2 : Bool
      r2 = leb (S.arrival j) (start_on card j)

      abbrev r3 : Bool
      r3 = ltb (modules_on card j) (2 ^ S.modules)

      abbrev r4 : Bool
      r4 = eqb (ones (modules_on card j)) (S.need j)

      says_end : end_on card j ≡ finish S P j
      unfolding figures_fit
      says_end = eqb-true _ _ (and_left r1 _ (figures j l))

      behind_end : (r2 && (r3 && r4)) ≡ true
      unfolding figures_fit
      behind_end = and_right r1 _ (figures j l)

      says-arrived : S.arrival j ≤ P.start j
      says-arrived = leb-true _ _ (and_left r2 _ behind_end)

      says_below : modules_on card j < 2 ^ S.modules
      says_below = ltb-true _ _ (and_left r3 r4 (and_right r2 _ behind_end))

      says-inside : (m : ℕ) → P.uses j m ≡ true → m < S.modules
      says-inside m u =
          ⊎_elim (λ k. k) (λ k. clash (P.uses j m) u (bit_above S.modules (modules_on card j) m says_below k)) (less-or-not m S.modules)

      says-enough : count S.modules (P.uses j) ≡ S.need j
      says-enough =
          sym (ones-count S.modules (modules_on card j) says_below) ∙ eqb-true _ _ (and_right r3 r4 (and_right r2 _ behind_end))

    says_valid : Valid S P
    says_valid = record {
      inside = λ j m l u. says-inside j l m u;
      enough = says-enough;
      apart = λ i j m k l d u v. says-apart i j (and_left (apart S card i j) (follows S card i j) (pair i j k l)) d m u v;
      after = λ i j k l b.
          leb-true _ _ (implied (S.before i j) (leb (finish S P i) (start_on card j))
          (and_right (apart S card i j) (follows S card i j) (pair i j k l)) b);
      arrived = says-arrived;
    }

    order : (every n (named_once S card) && every n (rises S card)) ≡ true
    unfolding order_fits
    order = and_left (order_fits S card) (trailer_fits S card) behind_rows

    abbrev t1 : Bool
    t1 = eqb (number_at card (trailer_at n) 4) (order_at n)

    abbrev t2 : Bool
    t2 = eqb (number_at card (trailer_at n + trailer_end) 2) (plan_end S P)

    abbrev t3 : Bool
    t3 = eqb (number_at card (trailer_at n + trailer_count) 2) n

    trailer : (t1 && (t2 && t3)) ≡ true
    unfolding trailer_fits
    trailer = and_right (order_fits S card) (trailer_fits S card) behind_rows

    pub card_says : CardFor S card
    unfolding card_fits
    card_says = record {
      size = eqb-true _ _ (and_left sized _ e);
      ends = says_end;
      valid = says_valid;
      once = λ j l. eqb-true _ 1 (every-at n (named_once S card) (and_left (every n (named_once S card)) (every n (rises S card)) order) j l);
      rising = λ k l.
          leb-true _ _ (and_right (ltb (job_at S card (suc k)) n) _
          (every-at n (rises S card) (and_right (every n (named_once S card)) (every n (rises S card)) order) (suc k) l));
      offset = eqb-true _ _ (and_left t1 _ trailer);
      last = eqb-true _ _ (and_left t2 t3 (and_right t1 _ trailer));
      count = eqb-true _ _ (and_right t2 t3 (and_right t1 _ trailer));
    }

  -- ---- the other way

  module _ (f : CardFor S card) where
    fits-apart : (i j : ℕ) → i < n → j < n → apart S card i j ≡ true
    fits-apart i j k l = go (true-or-false (eqb i j)) (true-or-false (disjoint i j))
      where
        -- sets without a common module are disjoint, so where they are not, one job clears the other
        go : (eqb i j ≡ true) ⊎ (eqb i j ≡ false) → (disjoint i j ≡ true) ⊎ (disjoint i j ≡ false) → apart S card i j ≡ true
        go (inl q) b = rw q refl
        go (inr q) (inl b) = rw (q, b) refl
        go (inr q) (inr b) =
            let below = bits_below S.modules (modules_on card i) (λ m u. f.valid.inside i m k u) in
            let common = common_member S.modules (modules_on card i) (modules_on card j) below (eqb-false _ 0 b) in
            ⊎_elim (λ c. rw (q, b, le-leb (finish S P i + S.rest) (start_on card j) c) refl)
            (λ c. rw (q, b, le-leb (finish S P j + S.rest) (start_on card i) c) (or-true (clears S card i j)))
            (f.valid.apart i j common.0 k l (eqb-false i j q) common.1 common.2)

    fits_figures : (j : ℕ) → j < n → figures_fit S card j ≡ true
    unfolding figures_fit
    fits_figures j l =
        let below = bits_below S.modules (modules_on card j) (λ m u. f.valid.inside j m l u) in
        and_both _ _ (eq-eqb _ _ (f.ends j l))
        (and_both _ _ (le-leb _ _ (f.valid.arrived j l))
        (and_both _ _ (lt-ltb _ _ below) (eq-eqb _ _ (ones-count S.modules (modules_on card j) below ∙ f.valid.enough j l))))

    fits_row : (j : ℕ) → j < n → row_fits S card j ≡ true
    fits_row j l =
        and_both _ _ (fits_figures j l)
        (every_intro n (pair_fits S card j) (λ i k. and_both _ _ (fits-apart i j k l)
        (implication (S.before i j) (leb (finish S P i) (start_on card j)) (λ b. le-leb _ _ (f.valid.after i j k l b)))))

    -- each of n places names one of n jobs, since each of these is named once
    named : (k : ℕ) → k < n → ltb (job_at S card k) n ≡ true
    named = count_full n (λ k. ltb (job_at S card k) n) (omega (arith, all))
      where
        all : count n (λ k. ltb (job_at S card k) n) ≡ n
        all =
            sym (sum_same n _ _ (λ k l. sum_same n _ _ (λ j m. ap (λ (b : Bool). only b 1) (eqb_turned (job_at S card k) j))
            ∙ sum-at n (λ j. 1) (job_at S card k)))
            ∙ sum_swap n n (λ k j. only (eqb (job_at S card k) j) 1)
            ∙ sum_same n _ (λ j. 1) f.once
            ∙ sum_const n 1
            ∙ mul-one n

    steady : (k : ℕ) → k < n → start_before S card k ≤ start_on card (job_at S card k)
    steady zero l = zero-le
    steady (suc k) l = f.rising k l

    pub card_fits_lem : card_fits S card ≡ true
    unfolding card_fits order_fits trailer_fits
    card_fits_lem =
        and_both _ _ (eq-eqb _ _ f.size)
        (and_both _ _ (every_intro n (row_fits S card) fits_row)
        (and_both _ _
        (and_both _ _ (every_intro n (named_once S card) (λ j l. eq-eqb _ 1 (f.once j l)))
        (every_intro n (rises S card) (λ k l. and_both _ _ (named k l) (le-leb _ _ (steady k l)))))
        (and_both _ _ (eq-eqb _ _ f.offset) (and_both _ _ (eq-eqb _ _ f.last) (eq-eqb _ _ f.count)))))

-- 26 is given exactly where the card is none for the sheet.
pub card_fits_when : (S : Sheet) (card : List ℕ) → (card_fits S card ≡ true) ↔ CardFor S card
card_fits_when S card = (λ e. card_says S card e, λ f. card_fits_lem S card f)
