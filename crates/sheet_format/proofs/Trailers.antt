-- Which of 1, 2, 3, 19 and 4 a trailer gets, and what 2, 3 and 19 say where they pass.
use mathlib.Core.Path.{◌≡◌, refl, sym, ap, ap₂, ◌∙◌}
use mathlib.Core.Bool.{false, not, cond}
use mathlib.Core.List.{List, [], ◌∷◌}
use Prim.Native.Nat.{ℕ, ◌+◌, ◌*◌, ◌≤◌}
use lib.ListN.{length}
use borrow.Author.Tests.{ltb-false, le-ltb, eq-eqb, ne_eqb}
use Rattle.checking.specs.Checking.{first_failing}
use Rattle.checking.proofs.Order.{Passed, all_passed, first_in_front, first-behind}
use Rattle.sheet_format.specs.Figures.{most_jobs, most_modules, longest_changeover, longest_sheet, record_size, trailer_size}
use Rattle.sheet_format.specs.Format.{offset_of, count_of, cabinet_of}
use Rattle.sheet_format.specs.declared.Cabinet.{Cabinet}
use Rattle.sheet_format.specs.Checks.{wrong_length, wrong_offset, figure_checks, trailer_checks}
use Rattle.sheet_format.proofs.Bounds.{inside, not-outside}

pub record FiguresFit (n : ℕ) (C : Cabinet) : Type 0 where
  pub few : n ≤ most_jobs
  pub some : 1 ≤ C.modules
  pub most : C.modules ≤ most_modules
  pub rests : C.changeover ≤ longest_changeover

pub figures_fit_lem : (n : ℕ) (C : Cabinet) → first_failing (figure_checks n C) ≡ 0 → FiguresFit n C
figures_fit_lem n C e =
    let p = all_passed (figure_checks n C) refl e in
    let m = inside 1 most_modules C.modules p.1.0 in
    record {
      few = ltb-false most_jobs n p.0;
      some = m.0;
      most = m.1;
      rests = ltb-false longest_changeover C.changeover p.1.1.0;
    }

-- and the other way round
pub fit_passed : (n : ℕ) (C : Cabinet) → FiguresFit n C → Passed (figure_checks n C)
fit_passed n C f = (
  le-ltb most_jobs n f.few,
  (not-outside 1 most_modules C.modules f.some f.most, (le-ltb longest_changeover C.changeover f.rests, tt)),
)

pub long-enough : (s : List ℕ) → wrong_length s ≡ false → trailer_size ≤ length s
long-enough s e = (inside trailer_size longest_sheet (length s) e).0

-- the checks of figures that were read from the trailer
pub figures_are : (s : List ℕ) (k n : ℕ) (C : Cabinet) → n ≡ count_of s → C ≡ cabinet_of s
    → k ≡ first_failing (figure_checks n C) → k ≡ first_failing (figure_checks (count_of s) (cabinet_of s))
figures_are s k n C a b e = e ∙ ap₂ (λ (m : ℕ) (D : Cabinet). first_failing (figure_checks m D)) a b

module _ (s : List ℕ) (size : wrong_length s ≡ false) (k : ℕ) (is : k ≡ first_failing (figure_checks (count_of s) (cabinet_of s))) where
  pub refused_figures : (k ≡ 0 → ⊥) → k ≡ first_failing (trailer_checks s)
  unfolding first_failing
  refused_figures h =
      rw size (is ∙ sym (first_in_front (figure_checks (count_of s) (cabinet_of s)) ((4, wrong_offset s) ∷ []) (λ z. h (is ∙ z))))

  module _ (passed : k ≡ 0) where
    behind_figures : first_failing (trailer_checks s) ≡ cond (wrong_offset s) 4 0
    unfolding first_failing
    behind_figures =
        rw size (first-behind (figure_checks (count_of s) (cabinet_of s)) ((4, wrong_offset s) ∷ [])
        (all_passed (figure_checks (count_of s) (cabinet_of s)) refl (sym is ∙ passed)))

    module _ (offset n : ℕ) (o : offset ≡ offset_of s) (c : n ≡ count_of s) where
      pub refused_offset : (offset + record_size * n + trailer_size ≡ length s → ⊥) → 4 ≡ first_failing (trailer_checks s)
      refused_offset h =
          let e = ne_eqb (offset + record_size * n + trailer_size) (length s) h in
          sym (behind_figures ∙ rw (← o, ← c) (ap (λ b. cond (not b) 4 0) e))

      pub not-refused : offset + record_size * n + trailer_size ≡ length s → 0 ≡ first_failing (trailer_checks s)
      not-refused h =
          let e = eq-eqb (offset + record_size * n + trailer_size) (length s) h in
          sym (behind_figures ∙ rw (← o, ← c) (ap (λ b. cond (not b) 4 0) e))
