-- What a change answers, test by test in the code's order.
use mathlib.Core.Path.{◌≡◌, refl, ◌∙◌}
use mathlib.Core.Bool.{Bool, true, false, not, ◌||◌, cond, or-true}
use mathlib.Core.List.{List, [], ◌∷◌, ◌++◌}
use Prim.Native.Nat.{ℕ}
use lib.Dec.{eqb}
use lib.ListN.{length}
use native.Mathlib.Omega.{arith}
use borrow.Author.Tests.{eqb-true, ne_eqb}
use Rattle.counting.specs.Counting.{every}
use Rattle.checking.specs.Checking.{Check, first_failing}
use Rattle.checking.proofs.Order.{all_passed, first_in_front, first-behind}
use Rattle.desk.specs.declared.Desk.{Desk}
use Rattle.desk.specs.Desk.{most_controllers, new_desk, with_figures}
use Rattle.desk.specs.Checks.{wrong_lengths, wrong_count, some_holds_more, raised_exceed, place_ok_at, desk_ok, open_checks}
use Rattle.desk.specs.Calls.{open_refusal, opened, change_refusal, changed}
use Rattle.desk.proofs.Sound.{ok_says}
use Rattle.desk.proofs.Grants.{Opens, open_says}
use Rattle.desk.proofs.Lists.{opened_new}
use Rattle.desk.proofs.NewFigures.{next-places, next_ok}
use Rattle.share_change.specs.Change.{refused_with, taken_over}

or-false : (b : Bool) → (b || false) ≡ b
or-false true = refl
or-false false = refl

module _ (d : Desk) (l : ℕ) (a t : List ℕ) where
  -- a refused change hands back the desk as it was
  refused_so : (n : ℕ) → change_refusal d l a t ≡ n → (n ≡ 0 → ⊥) → refused_with d n ≡ changed d l a t
  unfolding changed
  refused_so n e z = rw (e, ne_eqb n 0 z) refl

  pub desk_impossible : desk_ok d ≡ false → refused_with d 14 ≡ changed d l a t
  unfolding changed change_refusal first_failing
  desk_impossible e = rw e refl

  module _ (k : desk_ok d ≡ true) where
    pub number-changed : eqb (length a) d.count ≡ false → refused_with d 11 ≡ changed d l a t
    unfolding changed change_refusal first_failing wrong_count
    number-changed e = rw (k, e, or-true (wrong_lengths a t)) refl

    module _ (n : eqb (length a) d.count ≡ true) where
      -- what is checked behind the checks of an opening
      abbrev later : List Check
      later = (21, some_holds_more d t) ∷ (22, raised_exceed d l a) ∷ []

      behind : change_refusal d l a t ≡ first_failing (open_checks l a t ++ later)
      unfolding change_refusal first_failing wrong_count
      behind = rw (k, n, or-false (wrong_lengths a t)) refl

      pub figures-refused : (open_refusal l a t ≡ 0 → ⊥) → refused_with d (open_refusal l a t) ≡ changed d l a t
      unfolding open_refusal
      figures-refused z = refused_so (open_refusal l a t) (behind ∙ first_in_front (open_checks l a t) later z) z

      module _ (o : open_refusal l a t ≡ 0) where
        last : change_refusal d l a t ≡ first_failing later
        unfolding open_refusal
        last = behind ∙ first-behind (open_checks l a t) later (all_passed (open_checks l a t) refl o)

        -- the desk with the new figures, and its two tests
        abbrev next : Desk
        next = with_figures d l a t

        opens : Opens l a t
        unfolding opened
        opens = open_says l a t o

        places : every most_controllers (place_ok_at next) ≡ not (some_holds_more d t)
        places = next-places d l a t (ok_says d k) opens (eqb-true _ _ n)

        can_be : some_holds_more d t ≡ false → desk_ok next ≡ not (raised_exceed d l a)
        can_be = next_ok d l a t (ok_says d k) opens (eqb-true _ _ n)

        new-desk : (opened l a t).desk ≡ new_desk l a t
        unfolding opened
        new-desk = opened_new l a t o

        above : some_holds_more d t ≡ true → refused_with d 21 ≡ changed d l a t
        unfolding first_failing
        above q = refused_so 21 (last ∙ rw q refl) (λ z. omega arith)

        beyond : some_holds_more d t ≡ false → raised_exceed d l a ≡ true → refused_with d 22 ≡ changed d l a t
        unfolding first_failing
        beyond q r = refused_so 22 (last ∙ rw (q, r) refl) (λ z. omega arith)

        fits : some_holds_more d t ≡ false → raised_exceed d l a ≡ false → record { refusal = 0; desk = next } ≡ changed d l a t
        unfolding changed first_failing
        fits q r = rw (last, q, r) refl

        -- what the code tests and hands back is the desk with the new figures
        pub taken-over : taken_over d (opened l a t).desk ≡ changed d l a t
        unfolding taken_over
        taken-over = rw (new-desk, places) (go (some_holds_more d t) refl (raised_exceed d l a) refl)
          where
            go : (m : Bool) → some_holds_more d t ≡ m → (r : Bool) → raised_exceed d l a ≡ r
                → cond (not (some_holds_more d t)) (cond (desk_ok next) (record { refusal = 0; desk = next }) (refused_with d 22))
                (refused_with d 21) ≡ changed d l a t
            go true p r q = rw p (above p)
            go false p true q = rw (p, can_be p, q) (beyond p q)
            go false p false q = rw (p, can_be p, q) (fits p q)
