-- An order placed job by job: its slots are those of its list plan.
use mathlib.Core.Path.{◌≡◌, refl, sym, ap, ap₂, ◌∙◌, subst}
use mathlib.Core.Bool.{Bool, true, false, ◌||◌}
use mathlib.Core.List.{List, [], ◌∷◌, ◌++◌}
use Prim.Native.Nat.{ℕ, suc, ◌+◌, ◌≤◌, ◌<◌}
use native.Mathlib.Omega.{arith}
use native.Mathlib.Numerals.{add-one}
use lib.Dec.{eqb}
use lib.ListN.{length, get_or, take, drop, length-take}
use lib.Seq.{get_or-take, take-take, split_at, take-suc}
use borrow.Author.Tests.{eqb-true}
use Rattle.counting.specs.Counting.{only}
use Rattle.counting.proofs.Tests.{only_within}
use Rattle.figures.specs.Figures.{most_jobs, last_end}
use Rattle.bits.specs.Bits.{set_of}
use Rattle.schedule.specs.Plan.{Sheet, finish}
use Rattle.schedule.specs.ListPlan.{Order, PartPlan, no_jobs, Follows, ready, start_of, place, empty_part, place_all, part_of}
use Rattle.schedule.proofs.Starts.{ready_says}
use Rattle.schedule.proofs.Sound.{completes_all, order_completes}
use Rattle.schedule.proofs.Prefixes.{order_split, part_more}
use Rattle.tables.specs.declared.Jobs.{Jobs}
use Rattle.tables.specs.Tables.{sheet_of, minutes_at, count_of, changeover_of, Fit}
use Rattle.tables.specs.declared.Part.{Part}
use Rattle.tables.proofs.Ends.{ends_short}
use Rattle.placement.specs.Part.{StartFor, IsPart, Placeable, Placed}
use Rattle.placement.proofs.Parts.{start_is, start_short, placeable, placed_part}
use Rattle.replay.specs.declared.Slots.{Slots}
use Rattle.replay.specs.Slots.{Ending, with_job, Replayed}
use Rattle.replay.proofs.PlacedSlots.{SlotsOf, slot_more}

-- ---- one turn: the order's next job is placed

-- job j is the order's k-th
pub record Turn (t : Jobs) (order : List ℕ) (k j : ℕ) : Type 0 where
  pub fit : Fit t
  pub whole : Order (sheet_of t) (take (count_of t) order)
  pub inside : k < count_of t
  pub here : j ≡ get_or order k 0

module _ {t : Jobs} {order : List ℕ} {k j : ℕ} (turn : Turn t order k j) where
  abbrev T : Sheet
  T = sheet_of t

  abbrev w : List ℕ
  w = take k order

  next-ready : ready T (part_of T w).placed j ≡ true
  next-ready =
      let o = take (count_of t) order in
      let here : get_or o k 0 ≡ j = get_or-take (count_of t) order k 0 turn.inside ∙ sym turn.here in
      let front : take k o ≡ w = take-take k (count_of t) order (omega (arith, turn.inside)) in
      let cut : o ≡ w ++ (j ∷ drop (suc k) o) =
      split_at o k 0 (omega (arith, turn.whole.all, turn.inside)) ∙ ap₂ (λ (x : List ℕ) (y : ℕ). x ++ (y ∷ drop (suc k) o)) front here in
      (order_split T w (j ∷ drop (suc k) o) (subst (λ (x : List ℕ). Order T x) cut turn.whole)).1.0.0

  pub next-job : j < count_of t
  next-job = (ready_says T (part_of T w).placed j next-ready).job

  pub next_low : j < most_jobs
  next_low = omega (arith, next-job, turn.fit.few)

  word_more : take (k + 1) order ≡ w ++ (j ∷ [])
  word_more =
      let l : k < length order = omega (arith, turn.whole.all, turn.inside, length-take (count_of t) order) in
      ap (λ (i : ℕ). take i order) (add-one k) ∙ take-suc order k 0 l ∙ ap (λ (x : ℕ). w ++ (x ∷ [])) (sym turn.here)

  module _ {p : Part} {u : ℕ} (is : IsPart T w p) (f : StartFor t p j u) where
    start : u ≡ start_of T (part_of T w) j
    start = start_is t turn.fit p w is j next-ready u f

    pub next_short : u + minutes_at t j ≤ last_end
    next_short = omega (arith, start, start_short t turn.fit p w is j next-ready)

    pub next_placeable : Placeable t p j u
    next_placeable = subst (λ (x : ℕ). Placeable t p j x) (sym start) (placeable t turn.fit p w is j next-ready)

    pub next_part : {q : Part} → Placed t p j u q → IsPart T (take (k + 1) order) q
    next_part {q} d =
        subst (λ (x : List ℕ). IsPart T x q) (sym word_more)
        (placed_part t turn.fit p w is j next-ready q (subst (λ (x : ℕ). Placed t p j x q) start d))

    pub next_slots : {s r : Slots} → SlotsOf T (part_of T w) s → r ≡ with_job t s j u → SlotsOf T (part_of T (take (k + 1) order)) r
    next_slots {s} {r} g h =
        let next : place T (part_of T w) j u ≡ part_of T (take (k + 1) order) =
        ap (λ (x : ℕ). place T (part_of T w) j x) start ∙ sym (part_more T w j) ∙ ap (λ (x : List ℕ). part_of T x) (sym word_more) in
        subst (λ (x : Slots). SlotsOf T (part_of T (take (k + 1) order)) x) (sym h)
        (subst (λ (X : PartPlan). SlotsOf T X (with_job t s j u)) next (slot_more t (part_of T w) s g j u next_low))

-- the ends with the changeover are small
pub ends_fit : {t : Jobs} {s : Slots} (w : List ℕ) → Fit t → Follows (sheet_of t) no_jobs w → SlotsOf (sheet_of t) (part_of (sheet_of t) w) s
    → Ending s (count_of t) (changeover_of t)
ends_fit {t} w fit f g i l =
    let short = only_within ((part_of (sheet_of t) w).placed i) _ last_end (ends_short t fit w f i l) in
    omega (arith, g.end i, fit.rests)

-- ---- all turns

-- only jobs of the sheet are placed
placed_jobs : (S : Sheet) (P : PartPlan) (o : List ℕ) → Follows S P.placed o → (i : ℕ) → S.jobs ≤ i → P.placed i ≡ false
    → (place_all S P o).placed i ≡ false
unfolding place_all
placed_jobs S P [] f i l e = e
placed_jobs S P (j ∷ o) f i l e =
    placed_jobs S (place S P j (start_of S P j)) o f.1 i l (go (eqb i j) refl)
  where
    go : (b : Bool) → eqb i j ≡ b → (eqb i j || P.placed i) ≡ false
    go true q = absurd (omega (arith, eqb-true i j q, (ready_says S P.placed j f.0).job))
    go false q = rw q e

-- The slots of all the jobs of an order are those of its list plan.
pub all_replayed : (S : Sheet) (o : List ℕ) (s : Slots) → Order S o → SlotsOf S (part_of S o) s → Replayed S o s
all_replayed S o s h g = record {
  start = λ j l. g.start j ∙ ap (λ b. only b ((part_of S o).plan.start j)) (all j l);
  end = λ j l. g.end j ∙ ap (λ b. only b (finish S (part_of S o).plan j)) (all j l);
  modules = λ j l. g.modules j ∙ ap (λ b. only b (set_of S.modules ((part_of S o).plan.uses j))) (all j l);
  past = λ j l. (
    g.start j ∙ ap (λ b. only b ((part_of S o).plan.start j)) (none j l),
    g.end j ∙ ap (λ b. only b (finish S (part_of S o).plan j)) (none j l),
    g.modules j ∙ ap (λ b. only b (set_of S.modules ((part_of S o).plan.uses j))) (none j l),
  );
}
  where
    all : (j : ℕ) → j < S.jobs → (part_of S o).placed j ≡ true
    all = completes_all S empty_part o (order_completes S o h)

    none : (j : ℕ) → S.jobs ≤ j → (part_of S o).placed j ≡ false
    none j l = placed_jobs S empty_part o h.follows j l refl
