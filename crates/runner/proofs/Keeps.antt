-- What the test of a runner gives, from what its parts give.
use mathlib.Core.Path.{◌≡◌, refl, sym, ap₂, ◌∙◌}
use mathlib.Core.Bool.{Bool, true, false, ◌&&◌}
use mathlib.Core.List.{List}
use Prim.Native.Nat.{ℕ, ◌*◌, ◌≤◌}
use lib.Dec.{ltb, leb}
use borrow.Author.Tests.{eq-eqb, ne_eqb}
use Rattle.counting.proofs.Tests.{and_left, and_right}
use Rattle.tables.specs.declared.Jobs.{Jobs}
use Rattle.tables.specs.Tables as tables
use Rattle.sheet_format.specs.Figures.{longest_sheet}
use Rattle.std.specs.Prelude.{Ok, Err}
use Rattle.checking.specs.declared.Refusal.{Refusal}
use Rattle.checking.proofs.Numbers.{number-some}
use Rattle.planable.specs.Planable.{planable_refusal}
use Rattle.planable.specs.Results.{CheckedOf}
use Rattle.planable.proofs.Planable.{Ready, ready-table}
use Rattle.card_check.specs.Test.{card_fits}
use Rattle.card_check.proofs.Same.{card_fits_same}
use Rattle.desk.specs.Desk.{most_power, most_controllers}
use Rattle.desk.specs.Checks.{in_range}
use Rattle.assurance.specs.Following.{plan_need}
use Rattle.runner.specs.declared.Runner.{Runner}
use Rattle.runner.specs.Runner.{longest_card, largest_size, kept_sheet, kept_card, zeros_behind, kept_ok}
use Rattle.runner.proofs.Places.{behind-inside}

module _ (r : Runner) where
  abbrev sheet_whole : Bool
  sheet_whole = zeros_behind longest_sheet r.sheet_len r.sheet

  abbrev card_whole : Bool
  card_whole = zeros_behind longest_card r.card_len r.card

  pub not_whole : (sheet_whole && card_whole) ≡ false → kept_ok r ≡ false
  unfolding kept_ok
  not_whole e = go sheet_whole card_whole _ e
    where
      go : (a b c : Bool) → (a && b) ≡ false → (a && (b && c)) ≡ false
      go true b c q = rw q refl
      go false b c q = refl

  module _ (w : (sheet_whole && card_whole) ≡ true) where
    pub sheet-inside : r.sheet_len ≤ longest_sheet
    sheet-inside = behind-inside longest_sheet r.sheet_len r.sheet (and_left sheet_whole card_whole w)

    pub card-inside : r.card_len ≤ longest_card
    card-inside = behind-inside longest_card r.card_len r.card (and_right sheet_whole card_whole w)

    pub not_planable : (e : Refusal) → CheckedOf (kept_sheet r) (Err e) → kept_ok r ≡ false
    unfolding kept_ok
    not_planable e f =
        rw (
          and_left sheet_whole card_whole w,
          and_right sheet_whole card_whole w,
          ne_eqb (planable_refusal (kept_sheet r)) 0 (λ z. number-some e (f.refusal ∙ z)),
        ) refl

    module _ (t : Jobs) (f : CheckedOf (kept_sheet r) (Ok t)) where
      pub ready : Ready (kept_sheet r) t
      ready = ready-table (kept_sheet r) t (sym f.refusal) f.table

      -- the rest of the test, over the table
      pub tested : (b : Bool)
          → b
          ≡ (ltb r.controller most_controllers
          && (in_range 1 largest_size r.size
          && (leb (plan_need (tables.sheet_of t) r.size) most_power && card_fits (tables.sheet_of t) (kept_card r))))
          → kept_ok r ≡ b
      unfolding kept_ok
      tested b e =
          sym (e
          ∙ ap₂ (λ (n : ℕ) (c : Bool). ltb r.controller most_controllers
          && (in_range 1 largest_size r.size && (leb (n * r.size) most_power && c)))
          ready.same.modules (card_fits_same ready.same (kept_card r))
          ∙ rw (
            and_left sheet_whole card_whole w,
            and_right sheet_whole card_whole w,
            eq-eqb (planable_refusal (kept_sheet r)) 0 (sym f.refusal),
          ) refl)
