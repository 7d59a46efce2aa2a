-- The whole search: from the first list plan to an order that ends first, and from there to the tie rule's.
use mathlib.Core.Path.{◌≡◌, refl, sym, ap, ◌∙◌, subst}
use mathlib.Core.Logic.{◌⊎◌, inl, inr, ◌↔◌}
use mathlib.Core.Bool.{true, false}
use mathlib.Core.List.{List, []}
use Prim.Native.Nat.{ℕ, suc, ◌+◌, ◌≤◌, ◌<◌}
use native.Mathlib.Omega.{arith}
use lib.Dec.{ltb}
use lib.ListN.{replicate, length-replicate}
use borrow.Author.Tests.{ltb-true, lt-ltb}
use Rattle.tables.specs.declared.Jobs.{Jobs}
use Rattle.tables.specs.declared.Prepared.{Prepared}
use Rattle.counting.specs.Counting.{only}
use Rattle.counting.proofs.Tests.{true-or-false, clash, less-or-not}
use Rattle.bits.specs.Bits.{bit}
use Rattle.bits.proofs.Digits.{bit-none}
use Rattle.schedule.specs.Plan.{Sheet}
use Rattle.schedule.specs.ListPlan.{Order}
use Rattle.schedule.specs.TieRule.{end_of}
use Rattle.schedule.specs.Ends.{EarliestEnd, EndsBy}
use Rattle.schedule.specs.Beginnings.{CannotBeat}
use Rattle.schedule.proofs.Theorems.{earliest_of_orders, order_ends_by, none_ends_by}
use Rattle.tables.specs.Tables.{sheet_of, Fit}
use Rattle.tables.specs.declared.Part.{Part}
use Rattle.tables.proofs.Laws.{zeros}
use Rattle.placement.specs.Part.{FirstPart}
use Rattle.candidates.proofs.Children.{first_known}
use Rattle.sums.specs.Sums.{Rounded}
use Rattle.listing.specs.declared.Found.{Found}
use Rattle.listing.specs.Listing.{OrderOf}
use Rattle.preparing.specs.Preparing.{Tabled}
use Rattle.search.specs.Search.{no_limit, Remembered, Outcome, SettledSo, Going, kept_as, Lowering, Lowered, Lowest, LowestIf}
use Rattle.search.specs.Search.{TieRuled, NoneBefore, WithinLimit}
use Rattle.search.proofs.Recalls.{remembered_less}

-- ---- nothing is settled

pub none_settled : (S : Sheet) (target : ℕ) (v : List ℕ) → SettledSo S target v (replicate 20 0) 0
none_settled S target v = record {
  size = length-replicate {A = ℕ} 20 0;
  each = λ u i q x e l b. clash (bit 0 x) (ap (λ (y : ℕ). bit y x) (sym (zeros 20 i)) ∙ b) (bit-none x);
  same_start = λ x l b. clash (bit 0 x) b (bit-none x);
}

-- ---- the earliest end

kept_is : {S : Sheet} {best : Found} → OrderOf S best → OrderOf S (kept_as best)
kept_is h = record { size = h.size; order = h.order; end = h.end; low = h.low }

-- an order that is to end by the target
pub enter : {t : Jobs} {prepared : Prepared} {part : Part} {memory : List ℕ} (target : ℕ) → Fit t → Tabled t prepared → target < 65535
    → Remembered (sheet_of t) memory (suc target) → FirstPart t part → Going t prepared part target memory
enter {t} {part = part} target fit tabled low m first =
    record { low = low; known = first_known t part fit first; tabled = tabled; remembered = m }

-- an order that ends by the target, and so earlier
pub lower_hit : {S : Sheet} {best r : Found} {left : ℕ} (memory : List ℕ) {v : List ℕ} (target : ℕ) → OrderOf S best
    → target < best.end → Outcome S target v r left → r.hit ≡ true → Remembered S memory (suc target)
    → Lowered S best r left × Remembered S memory r.end
lower_hit {S} {best} {r} memory target s l o e m =
    let f = o.hit e in (
      record {
        is = record { size = o.size; order = f.order; end = f.end; low = omega (arith, f.within, s.low) };
        hit = λ _. omega (arith, f.within);
        miss = λ h. clash r.hit e h;
      },
      remembered_less S memory (omega (arith, f.within)) m,
    )

-- ---- a target that is rounded

-- no order ends between the two
module _ (t : Jobs) (target goal : ℕ) where
  abbrev S : Sheet
  S = sheet_of t

  pub none_between : Rounded t target goal → (o : List ℕ) → Order S o → suc goal ≤ end_of S o → suc target ≤ end_of S o
  none_between h o d l = go (less-or-not target (end_of S o))
    where
      go : (target < end_of S o) ⊎ (end_of S o ≤ target) → suc target ≤ end_of S o
      go (inl x) = x
      go (inr x) = absurd (omega (arith, h.none_between o d x))

-- so that what is found of the one is found of the other
pub rounded_outcome : {S : Sheet} {target goal : ℕ} {r : Found} {left : ℕ} → goal ≤ target
    → ((o : List ℕ) → Order S o → suc goal ≤ end_of S o → suc target ≤ end_of S o)
    → Outcome S goal [] r left → Outcome S target [] r left
unfolding CannotBeat
rounded_outcome l between m = record {
  size = m.size;
  hit = λ e. let f = m.hit e in record { order = f.order; begins = f.begins; end = f.end; within = omega (arith, f.within) };
  miss = λ e s o d b. between o d (m.miss e s o d b);
}

-- ---- an end that is lowered

-- none ends earlier
pub lower_miss : {S : Sheet} {best : Found} {left : ℕ} → OrderOf S best
    → (¬ (left ≡ 0) → (o : List ℕ) → Order S o → best.end ≤ end_of S o) → Lowered S best (kept_as best) left
lower_miss s least = record { is = kept_is s; hit = λ x. clash false x refl; miss = λ x. (refl, least) }

pub none_by : {S : Sheet} {target : ℕ} {r : Found} {left : ℕ} → Outcome S target [] r left → r.hit ≡ false → ¬ (left ≡ 0)
    → (o : List ℕ) → Order S o → suc target ≤ end_of S o
unfolding CannotBeat
none_by m h s o d = m.miss h s o d (o, refl)

-- ---- a turn of the loop

-- while earlier ends are looked for, an order and what is remembered; then no order ends earlier
pub record Turn (t : Jobs) (prepared : Prepared) (best : Found) (memory : List ℕ) (left : ℕ) : Type 0 where
  pub state : Lowering t prepared best memory
  pub done : best.hit ≡ false → ¬ (left ≡ 0) → (o : List ℕ) → Order (sheet_of t) o
      → best.end ≤ end_of (sheet_of t) o

pub turn_next : {t : Jobs} {prepared : Prepared} {best r : Found} {memory : List ℕ} {left : ℕ}
    (memory' : List ℕ) → Lowering t prepared best memory
    → Lowered (sheet_of t) best r left → Remembered (sheet_of t) memory' r.end
    → Turn t prepared r memory' left
turn_next memory' s l m = record {
  state = record { fit = s.fit; tabled = s.tabled; best_is = l.is; remembered = m };
  done = λ e. (l.miss e).1;
}

pub turn_less : {S : Sheet} {best r : Found} {left : ℕ} → Lowered S best r left → best.hit ≡ true
    → r.end + only r.hit 1 < best.end + only best.hit 1
turn_less {S} {best} {r} l e = rw e (go (true-or-false r.hit))
  where
    go : (r.hit ≡ true) ⊎ (r.hit ≡ false) → r.end + only r.hit 1 < best.end + 1
    go (inl h) = rw h (omega (arith, l.hit h))
    go (inr h) = rw h (omega (arith, (l.miss h).0))

pub turn_last : {t : Jobs} {prepared : Prepared} {best : Found} {memory : List ℕ} {left : ℕ} → Turn t prepared best memory left
    → best.hit ≡ false → LowestIf (sheet_of t) best left
turn_last t e = record { is = t.state.best_is; least = t.done e }

-- without a limit the search does not give up
pub goes_on : {left : ℕ} → left ≡ no_limit → ¬ (left ≡ 0)
goes_on e z = omega (arith, e, z)

-- where some part-plans are left, it did not either
pub some_left : (left : ℕ) → ltb 0 left ≡ true → ¬ (left ≡ 0)
some_left left e z = let some = ltb-true 0 left e in omega (arith, some, z)

pub unlimited_left : (left : ℕ) → left ≡ no_limit → ltb 0 left ≡ true
unlimited_left left e = lt-ltb 0 left (omega (arith, e))

pub lowest_of : {S : Sheet} {r : Found} {left : ℕ} → LowestIf S r left → ¬ (left ≡ 0) → Lowest S r
lowest_of h s = record { is = h.is; least = h.least s }

-- ---- the questions, of all valid plans

-- the end of an order before which none ends
pub earliest_end_lem : {t : Jobs} {r : Found} → Fit t → Lowest (sheet_of t) r → EarliestEnd (sheet_of t) r.end
earliest_end_lem {t} {r} fit h =
    subst (EarliestEnd (sheet_of t)) h.is.end
    (earliest_of_orders (sheet_of t) fit.lasting fit.narrow _ h.is.order (λ p d. omega (arith, h.is.end, h.least p d)))

-- an order that ends by the target already
pub listed_ends_by : {t : Jobs} {r : Found} {target : ℕ} → Fit t → OrderOf (sheet_of t) r → r.end ≤ target
    → (true ≡ true) ↔ EndsBy (sheet_of t) target
listed_ends_by {t} {r} {target} fit h l =
    (λ _. order_ends_by (sheet_of t) fit.lasting fit.narrow _ h.order target (omega (arith, h.end)), λ _. refl)

-- the outcome of the search
pub found_ends_by : {t : Jobs} {r : Found} {target left : ℕ} → Fit t → Outcome (sheet_of t) target [] r left → ¬ (left ≡ 0)
    → (r.hit ≡ true) ↔ EndsBy (sheet_of t) target
found_ends_by {t} {r} {target} fit m s = (there, λ some. back some (true-or-false r.hit))
  where
    there : r.hit ≡ true → EndsBy (sheet_of t) target
    there e =
        let f = m.hit e in
        order_ends_by (sheet_of t) fit.lasting fit.narrow _ f.order target (omega (arith, f.end, f.within))

    back : EndsBy (sheet_of t) target → (r.hit ≡ true) ⊎ (r.hit ≡ false) → r.hit ≡ true
    back some (inl e) = e
    back some (inr e) = absurd (none_ends_by (sheet_of t) fit.lasting fit.narrow target (none_by m e s) some)

-- ---- within a limit

-- an order that the search gave up to lower
pub bounded_within : {S : Sheet} {best : Found} {bound : ℕ} → OrderOf S best → NoneBefore S bound
    → WithinLimit S (record { order = best.order; end = best.end; bound = bound; exact = false })
bounded_within h b = record { size = h.size; order = h.order; end = h.end; bound = b; exact = λ e. clash false e refl }

-- an order that ends first, and the tie rule's where the search did not give up
pub settled_within : {S : Sheet} {found : Found} {left : ℕ} → Lowest S found → (¬ (left ≡ 0) → TieRuled S found)
    → WithinLimit S (record { order = found.order; end = found.end; bound = found.end; exact = ltb 0 left })
settled_within {S} {found} {left} h tied = record {
  size = h.is.size;
  order = h.is.order;
  end = h.is.end;
  bound = h.least;
  exact = λ e. (tied (some_left left e)).best;
}
