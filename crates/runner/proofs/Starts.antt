-- What a start answers, from what its parts give.
use mathlib.Core.Path.{◌≡◌, refl, sym, ap₂, ◌∙◌}
use mathlib.Core.Logic.{◌≢◌}
use mathlib.Core.Bool.{Bool, not, ◌||◌}
use mathlib.Core.List.{List, [], ◌∷◌}
use Prim.Native.Nat.{ℕ, ◌*◌, ◌≤◌}
use lib.Dec.{ltb, eqb}
use lib.ListN.{length}
use borrow.Author.Tests.{ne_eqb}
use Rattle.checking.specs.Checking.{first_failing}
use Rattle.checking.proofs.Order.{all_passed, first_in_front, first-behind}
use Rattle.schedule.specs.Plan.{Sheet}
use Rattle.schedule.proofs.Same.{SameJobs}
use Rattle.tables.specs.declared.Jobs.{Jobs}
use Rattle.tables.specs.Tables as tables
use Rattle.sheet_format.specs.Figures.{longest_sheet}
use Rattle.std.specs.Prelude.{Ok, Err}
use Rattle.checking.specs.declared.Refusal.{Refusal}
use Rattle.checking.specs.Refusals.{number_of}
use Rattle.checking.proofs.Numbers.{number-some}
use Rattle.runner.specs.Results.{started_by}
use Rattle.planable.specs.Planable.{sheet_in, planable_checks, planable_refusal}
use Rattle.planable.specs.Results.{CheckedOf}
use Rattle.planable.proofs.Planable.{Ready, ready-table}
use Rattle.card_check.proofs.Same.{card_fits_same}
use Rattle.desk.specs.declared.Desk.{Desk}
use Rattle.desk.specs.Desk.{holding, assured_share}
use Rattle.desk.specs.Checks.{not_of_desk}
use Rattle.runner.specs.declared.Runner.{Runner}
use Rattle.runner.specs.Runner.{longest_card, new_runner, wrong_size, run_checks, start_refusal, started}
use Rattle.runner.proofs.Passes.{start_says, sheet-room, card-room}

-- the checks of the desk, the size and the card are the same for sheets that say the same
run_same : {S T : Sheet} → SameJobs S T → (card : List ℕ) (d : Desk) (c size : ℕ)
    → first_failing (run_checks S card d c size) ≡ first_failing (run_checks T card d c size)
run_same {S} {T} h card d c size =
    ap₂ (λ (n : ℕ) (b : Bool). first_failing ((14, not_of_desk d c) ∷ (24, wrong_size size)
    ∷ (25, ltb (assured_share d c) (n * size) || not (eqb (holding d c) 0)) ∷ (26, not b) ∷ []))
    h.modules (card_fits_same h card)

module _ (s card : List ℕ) (d : Desk) (c size : ℕ) where
  front-refused : planable_refusal s ≢ 0 → start_refusal s card d c size ≡ planable_refusal s
  unfolding start_refusal planable_refusal
  front-refused n = first_in_front (planable_checks s) (run_checks (sheet_in s) card d c size) n

  front_passed : planable_refusal s ≡ 0 → start_refusal s card d c size ≡ first_failing (run_checks (sheet_in s) card d c size)
  unfolding start_refusal planable_refusal
  front_passed z = first-behind (planable_checks s) (run_checks (sheet_in s) card d c size) (all_passed (planable_checks s) refl z)

  refused : (e : Refusal) → number_of e ≡ start_refusal s card d c size → started_by (Err e) ≡ started s card d c size
  unfolding started
  refused e q = rw (sym q, ne_eqb (number_of e) 0 (number-some e)) refl

  -- from the front of the planning calls
  pub not_planable : (e : Refusal) → CheckedOf s (Err e) → started_by (Err e) ≡ started s card d c size
  not_planable e f = refused e (f.refusal ∙ sym (front-refused (λ z. number-some e (f.refusal ∙ z))))

  module _ (t : Jobs) (f : CheckedOf s (Ok t)) where
    passed : planable_refusal s ≡ 0
    passed = sym f.refusal

    pub ready : Ready s t
    ready = ready-table s t passed f.table

    -- and the checks behind it
    number : (k : ℕ) → k ≡ first_failing (run_checks (tables.sheet_of t) card d c size) → k ≡ start_refusal s card d c size
    number k e = e ∙ run_same ready.same card d c size ∙ sym (front_passed passed)

    pub not_startable : (e : Refusal) → number_of e ≡ first_failing (run_checks (tables.sheet_of t) card d c size)
        → started_by (Err e) ≡ started s card d c size
    not_startable e q = refused e (number (number_of e) q)

    module _ (y : 0 ≡ first_failing (run_checks (tables.sheet_of t) card d c size)) where
      pub rooms : (length s ≤ longest_sheet) × (length card ≤ longest_card)
      rooms =
          let p = start_says s card d c size (sym (number 0 y)) in
          (sheet-room s card d c size p, card-room s card d c size p)

      pub startable : (x : Runner) → x ≡ new_runner s card c size → started_by (Ok x) ≡ started s card d c size
      unfolding started
      startable x w = rw (sym (number 0 y), w) refl
