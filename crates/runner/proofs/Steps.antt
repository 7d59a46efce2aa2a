-- What a step answers, from what its parts give.
use mathlib.Core.Path.{◌≡◌, refl, sym, ap, ◌∙◌}
use mathlib.Core.Logic.{◌≢◌}
use mathlib.Core.Bool.{true, false, cond}
use mathlib.Core.List.{List}
use Prim.Native.Nat.{ℕ, ◌+◌, ◌≤◌, ◌<◌}
use native.Mathlib.Omega.{arith}
use native.Mathlib.Nat.{mul-le-mul}
use lib.Dec.{leb}
use borrow.Author.Tests.{ne_eqb, lt-leb, le-leb}
use Rattle.tables.specs.declared.Jobs.{Jobs}
use Rattle.tables.specs.Tables as tables
use Rattle.planable.proofs.Planable.{Ready, ready-table}
use Rattle.card.specs.Card.{card_size}
use Rattle.card.specs.Decoding.{plan_on}
use Rattle.card_check.specs.Test.{Sized}
use Rattle.card_check.proofs.Exact.{card_says}
use Rattle.desk.specs.declared.Desk.{Desk}
use Rattle.desk.specs.declared.Booked.{Booked}
use Rattle.desk.specs.Calls.{desk_after_all}
use Rattle.desk.specs.Checks.{not_of_desk}
use Rattle.desk.proofs.Sound.{range_says}
use Rattle.assurance.specs.Minutes.{due_calls, last_minute, first_refusal}
use Rattle.minutes.specs.Together.{together, PowersFit}
use Rattle.minutes.proofs.Same.{last_same, due_same}
use Rattle.runner.specs.declared.Runner.{Runner}
use Rattle.runner.specs.Runner.{longest_card, largest_size, kept_sheet, kept_card, sheet_of, plan_of, with_minute, due_now, next_minute, kept_ok}
use Rattle.runner.specs.Runner.{runner_ok, not_of_runner, step_refusal, stepped}
use Rattle.runner.specs.Results.{Stepping}
use Rattle.runner.proofs.Passes.{Kept, kept_says}
use Rattle.runner.proofs.Places.{behind-inside}

module _ (d : Desk) (r : Runner) where
  -- 14
  barred : not_of_runner d r ≡ true → record { refusal = 14; desk = d; runner = r } ≡ stepped d r
  unfolding stepped step_refusal
  barred e = rw e refl

  pub wrong-desk : not_of_desk d r.controller ≡ true → record { refusal = 14; desk = d; runner = r } ≡ stepped d r
  unfolding not_of_runner
  wrong-desk e = barred (rw e refl)

  module _ (w : not_of_desk d r.controller ≡ false) where
    wrong_runner : runner_ok r ≡ false → record { refusal = 14; desk = d; runner = r } ≡ stepped d r
    unfolding not_of_runner
    wrong_runner e = barred (rw (w, e) refl)

    pub not-kept : kept_ok r ≡ false → record { refusal = 14; desk = d; runner = r } ≡ stepped d r
    unfolding runner_ok
    not-kept e = wrong_runner (rw e refl)

  module _ (t : Jobs) (h : Stepping d r t) where
    kept : Kept r
    kept = kept_says r h.kept

    ready : Ready (kept_sheet r) t
    ready = ready-table (kept_sheet r) t kept.reads h.table

    pub card-inside : r.card_len ≤ longest_card
    card-inside = behind-inside longest_card r.card_len r.card kept.card

    pub sized : Sized t (kept_card r)
    sized = record {
      fit = ready.fit;
      size = (card_says (sheet_of r) (kept_card r) kept.fits).size ∙ ap card_size (sym ready.same.jobs);
    }

    pub powers : PowersFit t r.size
    powers j l =
        let size = (range_says 1 largest_size r.size kept.size).most in
        let need = ready.fit.narrow j l in
        let most = ready.fit.most in
        let p = mul-le-mul (let n : tables.need_at t j ≤ 64 = omega arith in n) size in
        omega arith

    module _ (last : ℕ) (l : last ≡ last_minute (tables.sheet_of t) (plan_on (kept_card r))) where
      last_is : last ≡ last_minute (sheet_of r) (plan_of r)
      last_is = l ∙ last_same ready.same (plan_of r)

      pub past : last < r.minute → record { refusal = 14; desk = d; runner = r } ≡ stepped d r
      unfolding runner_ok
      past n = wrong_runner h.desk (rw (h.kept, lt-leb r.minute (last_minute (sheet_of r) (plan_of r)) (omega (arith, last_is))) refl)

      module _ (in_time : r.minute ≤ last) (b : Booked)
          (e : b ≡ together d (due_calls (tables.sheet_of t) (plan_on (kept_card r)) r.size r.controller r.minute)) where
        of_runner : not_of_runner d r ≡ false
        unfolding not_of_runner runner_ok
        of_runner =
            rw (h.desk, h.kept, le-leb r.minute (last_minute (sheet_of r) (plan_of r)) (omega (arith, last_is, in_time))) refl

        booked : b ≡ together d (due_now r)
        booked = e ∙ ap (together d) (due_same ready.same (plan_of r) r.size r.controller r.minute)

        number : b.refusal ≡ step_refusal d r
        unfolding step_refusal together
        number = ap (λ (x : Booked). x.refusal) booked ∙ rw of_runner refl

        pub refused : b.refusal ≢ 0 → record { refusal = b.refusal; desk = d; runner = r } ≡ stepped d r
        unfolding stepped
        refused n = rw (sym number, ne_eqb b.refusal 0 n) refl

        pub made : b.refusal ≡ 0 → (x : Runner) → x ≡ cond (leb last r.minute) r (with_minute r (r.minute + 1))
            → record { refusal = 0; desk = b.desk; runner = x } ≡ stepped d r
        unfolding stepped together
        made z x q =
            let first : first_refusal d (due_now r) ≡ 0 = ap (λ (y : Booked). y.refusal) (sym booked) ∙ z in
            let desk : b.desk ≡ desk_after_all d (due_now r) = ap (λ (y : Booked). y.desk) booked ∙ rw first refl in
            let next : x ≡ next_minute r = q ∙ ap (λ (m : ℕ). cond (leb m r.minute) r (with_minute r (r.minute + 1))) last_is in
            rw (sym number ∙ z, desk, next) refl
