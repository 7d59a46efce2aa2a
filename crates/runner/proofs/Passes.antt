-- What the start's checks and the test of a runner say where they pass.
use mathlib.Core.Path.{◌≡◌, refl, sym, ◌∙◌}
use mathlib.Core.Logic.{◌≢◌}
use mathlib.Core.Bool.{Bool, true, false, not, cond}
use mathlib.Core.List.{List}
use Prim.Native.Nat.{ℕ, ◌≤◌, ◌<◌}
use native.Mathlib.Omega.{arith}
use lib.Dec.{ltb, leb, eqb}
use lib.ListN.{length}
use borrow.Author.Tests.{eqb-true, eq-eqb, leb-true, le-leb, ltb-true, lt-ltb, le-ltb, ltb-false, not-false}
use Rattle.counting.proofs.Tests.{and_left, and_right, and_both, or_left, or_right}
use Rattle.checking.specs.Checking.{first_failing}
use Rattle.checking.proofs.Order.{all_passed, none_failing, both_passed, first-behind}
use Rattle.sheet_format.specs.Figures.{longest_sheet}
use Rattle.planable.specs.Planable.{sheet_in, planable_checks, planable_refusal}
use Rattle.planable.proofs.Planable.{passes}
use Rattle.planable.proofs.Tables.{few_read}
use Rattle.sheet.proofs.Answers.{reads}
use Rattle.card_check.specs.Test.{card_fits}
use Rattle.card_check.proofs.Exact.{card_says}
use Rattle.desk.specs.declared.Desk.{Desk}
use Rattle.desk.specs.Desk.{most_power, most_controllers, holding, assured_share}
use Rattle.desk.specs.Checks.{in_range, not_of_desk}
use Rattle.desk.specs.Calls.{look_refusal, looked}
use Rattle.assurance.specs.Following.{plan_need}
use Rattle.runner.specs.declared.Runner.{Runner}
use Rattle.runner.specs.Runner.{longest_card, largest_size, kept_sheet, kept_card, sheet_of, run_checks, start_checks}
use Rattle.runner.specs.Runner.{start_refusal, zeros_behind, kept_ok}

-- ---- a look tells 14

module _ (d : Desk) (c : ℕ) where
  look_number : (looked d c).refusal ≡ cond (not_of_desk d c) 14 0
  unfolding looked look_refusal first_failing
  look_number = refl

  pub look-refused : (looked d c).refusal ≢ 0 → not_of_desk d c ≡ true
  look-refused n = go (not_of_desk d c) refl
    where
      go : (b : Bool) → not_of_desk d c ≡ b → b ≡ true
      go true e = refl
      go false e = absurd (n (look_number ∙ rw e refl))

  pub look-granted : (looked d c).refusal ≡ 0 → not_of_desk d c ≡ false
  look-granted z = go (not_of_desk d c) refl
    where
      go : (b : Bool) → not_of_desk d c ≡ b → b ≡ false
      go true e = let y : ◌≡◌ {A = ℕ} 14 0 = sym (look_number ∙ rw e refl) ∙ z in absurd (omega arith)
      go false e = refl

-- ---- the start's checks

pub record StartPasses (s card : List ℕ) (d : Desk) (c size : ℕ) : Type 0 where
  pub sheet : planable_refusal s ≡ 0
  pub desk : not_of_desk d c ≡ false
  pub sized : in_range 1 largest_size size ≡ true
  pub share : plan_need (sheet_in s) size ≤ assured_share d c
  pub none : holding d c ≡ 0
  pub fits : card_fits (sheet_in s) card ≡ true

module _ (s card : List ℕ) (d : Desk) (c size : ℕ) where
  pub start_says : start_refusal s card d c size ≡ 0 → StartPasses s card d c size
  unfolding start_refusal planable_refusal
  start_says e =
      let p = both_passed (planable_checks s) (run_checks (sheet_in s) card d c size) (all_passed (start_checks s card d c size) refl e) in
      let q = p.1 in
      let less = ltb (assured_share d c) (plan_need (sheet_in s) size) in
      record {
        sheet = none_failing (planable_checks s) p.0;
        desk = q.0;
        sized = not-false (in_range 1 largest_size size) q.1.0;
        share = ltb-false _ _ (or_left less (not (eqb (holding d c) 0)) q.1.1.0);
        none = eqb-true _ 0 (not-false (eqb (holding d c) 0) (or_right less (not (eqb (holding d c) 0)) q.1.1.0));
        fits = not-false (card_fits (sheet_in s) card) q.1.1.1.0;
      }

  pub start_passes : StartPasses s card d c size → start_refusal s card d c size ≡ 0
  unfolding start_refusal planable_refusal first_failing
  start_passes f =
      first-behind (planable_checks s) (run_checks (sheet_in s) card d c size) (all_passed (planable_checks s) refl f.sheet)
      ∙ rw (f.desk, f.sized, le-ltb _ _ f.share, eq-eqb _ 0 f.none, f.fits) refl

  -- an accepted start's sheet and card have room in a runner
  pub sheet-room : StartPasses s card d c size → length s ≤ longest_sheet
  sheet-room f = (reads s (passes s f.sheet).reads).trailer.short

  pub card-room : StartPasses s card d c size → length card ≤ longest_card
  card-room f =
      omega (arith, (card_says (sheet_in s) card f.fits).size, few_read s (passes s f.sheet).reads)

-- ---- the test of what is kept

pub record Kept (r : Runner) : Type 0 where
  pub sheet : zeros_behind longest_sheet r.sheet_len r.sheet ≡ true
  pub card : zeros_behind longest_card r.card_len r.card ≡ true
  pub reads : planable_refusal (kept_sheet r) ≡ 0
  pub size : in_range 1 largest_size r.size ≡ true
  pub within : plan_need (sheet_of r) r.size ≤ most_power
  pub number : r.controller < most_controllers
  pub fits : card_fits (sheet_of r) (kept_card r) ≡ true

pub kept_says : (r : Runner) → kept_ok r ≡ true → Kept r
unfolding kept_ok
kept_says r e =
    let a = zeros_behind longest_sheet r.sheet_len r.sheet in
    let b = zeros_behind longest_card r.card_len r.card in
    let c = eqb (planable_refusal (kept_sheet r)) 0 in
    let d = ltb r.controller most_controllers in
    let f = in_range 1 largest_size r.size in
    let g = leb (plan_need (sheet_of r) r.size) most_power in
    let x1 = and_right a _ e in
    let x2 = and_right b _ x1 in
    let x3 = and_right c _ x2 in
    let x4 = and_right d _ x3 in
    let x5 = and_right f _ x4 in
    record {
      sheet = and_left a _ e;
      card = and_left b _ x1;
      reads = eqb-true _ 0 (and_left c _ x2);
      number = ltb-true _ _ (and_left d _ x3);
      size = and_left f _ x4;
      within = leb-true _ _ (and_left g _ x5);
      fits = and_right g _ x5;
    }

pub kept_ok_lem : (r : Runner) → Kept r → kept_ok r ≡ true
unfolding kept_ok
kept_ok_lem r k =
    and_both _ _ k.sheet
    (and_both _ _ k.card
    (and_both _ _ (eq-eqb _ 0 k.reads)
    (and_both _ _ (lt-ltb _ _ k.number) (and_both _ _ k.size (and_both _ _ (le-leb _ _ k.within) k.fits)))))
