-- The jobs that may come next, and their starts.
use mathlib.Core.Path.{◌≡◌, refl, sym, ap, ◌∙◌}
use mathlib.Core.Logic.{◌⊎◌, inl, inr}
use mathlib.Core.Bool.{true, false, ◌&&◌}
use mathlib.Core.List.{List}
use Prim.Native.Nat.{ℕ, ◌≤◌, ◌<◌, min}
use native.Mathlib.Omega.{arith}
use lib.Dec.{eqb}
use lib.Bits.{bit_and}
use lib.ListN.{length, get_or, set, length-set, replicate, length-replicate, get_or-replicate}
use lib.Seq.{get_or-set_same, get_or-set_other}
use Rattle.counting.proofs.Tests.{true-or-false, clash}
use Rattle.bits.specs.Bits.{bit, without_bit, set_of}
use Rattle.bits.proofs.Digits.{bit-none}
use Rattle.bits.proofs.Walks.{Walk, walk_first, walk_none, walk_next, walk_gone}
use Rattle.schedule.specs.Plan.{Sheet}
use Rattle.schedule.specs.ListPlan.{PartPlan, ready, part_of}
use Rattle.schedule.specs.PartPlans.{NoneBefore}
use Rattle.tables.specs.declared.Jobs.{Jobs}
use Rattle.tables.specs.Tables.{sheet_of, earlier_at, count_of}
use Rattle.tables.specs.declared.Part.{Part}
use Rattle.tables.specs.Part.{word_of}
use Rattle.schedule.proofs.Starts.{ready_says, start_may}
use Rattle.placement.specs.Part.{StartFor, is_ready}
use Rattle.placement.proofs.Parts.{ready_is, start_is, last_short}
use Rattle.candidates.specs.Candidates.{StartOr, Known, theory_part, JobStart, JobStarts}

-- a job with a start may come next
pub started : {S : Sheet} {P : PartPlan} {j s : ℕ} → StartOr S P j s → s < 65535 → ready S P.placed j ≡ true
started {S} {P} {j} h l = go (true-or-false (ready S P.placed j))
  where
    go : (ready S P.placed j ≡ true) ⊎ (ready S P.placed j ≡ false) → ready S P.placed j ≡ true
    go (inl e) = e
    go (inr e) = absurd (omega (arith, h.none e))

module _ {t : Jobs} {p : Part} (known : Known t p) where
  abbrev S : Sheet
  S = sheet_of t

  abbrev P : PartPlan
  P = theory_part t p

  module _ {j : ℕ} (l : j < count_of t) where
    is-ready : is_ready t p j ≡ ready S P.placed j
    is-ready = ready_is t known.fit p (word_of p) known.is j l

    -- a job that may come next starts at the first minute from which on its modules are free
    pub start_here : {s : ℕ} → is_ready t p j ≡ true → StartFor t p j s → JobStart t p j s
    start_here {s} e f = record {
      here = λ r. start_is t known.fit p (word_of p) known.is j r s f;
      none = λ r. clash (ready S P.placed j) (sym is-ready ∙ e) r;
    }

    pub start_none : is_ready t p j ≡ false → JobStart t p j 65535
    start_none e = record { here = λ r. clash (ready S P.placed j) r (sym is-ready ∙ e); none = λ r. refl }

    pub placed-none : bit p.unplaced j ≡ false → JobStart t p j 65535
    placed-none b = start_none (ap (λ x. x && eqb (bit_and (earlier_at t j) p.unplaced) 0) b)

    -- a start lies at the last start or after it
    pub start_from : {s : ℕ} → JobStart t p j s → p.last ≤ s
    start_from {s} h = go (true-or-false (ready S P.placed j))
      where
        go : (ready S P.placed j ≡ true) ⊎ (ready S P.placed j ≡ false) → p.last ≤ s
        go (inl r) =
            let later = (start_may S P j (known.fit.narrow j l)).later in
            omega (arith, h.here r, known.is.figures.last)
        go (inr r) = omega (arith, h.none r, last_short t known.fit p (word_of p) known.is)

  -- no job that can come next starts before the least
  pub none_before : {at : List ℕ} {least : ℕ} → JobStarts t p at least
      → NoneBefore S (part_of S (word_of p)) least
  none_before starts j r =
      let l = (ready_says S P.placed j r).job in
      omega (arith, starts.first j l, (starts.each j l).here r)

  -- ---- the walk over the unplaced jobs

  -- the starts of the jobs that are not still to come
  pub record Starting (at : List ℕ) (least todo : ℕ) : Type 0 where
    pub walk : Walk p.unplaced (count_of t) todo
    pub size : length at ≡ 20
    pub each : (j : ℕ) → j < count_of t → bit todo j ≡ false → JobStart t p j (get_or at j 0)
    pub low : p.last ≤ least
    pub first : (j : ℕ) → j < count_of t → bit todo j ≡ false → least ≤ get_or at j 0

  pub starting-none : Starting (replicate 20 65535) 65535 (set_of (count_of t) (bit p.unplaced))
  starting-none = record {
    walk = walk_first (count_of t) p.unplaced;
    size = length-replicate {A = ℕ} 20 65535;
    each = λ j l b. rw (none j l) (placed-none l (walk_none (count_of t) p.unplaced j l b));
    low = omega (arith, last_short t known.fit p (word_of p) known.is);
    first = λ j l b. rw (none j l) (omega arith);
  }
    where
      none : (j : ℕ) → j < count_of t → ◌≡◌ {A = ℕ} (get_or (replicate 20 65535) j 0) 65535
      none j l = get_or-replicate 20 j 65535 0 (omega (arith, known.fit.few))

  pub starting-step : (at : List ℕ) (least todo j s : ℕ) → Starting at least todo → bit todo j ≡ true → JobStart t p j s
      → Starting (set at j s) (min least s) (without_bit todo j)
  starting-step at least todo j s h b is = record {
    walk = walk_next j h.walk;
    size = length-set at j s ∙ h.size;
    each = λ k l g. each k l (walk_gone todo j k g);
    low = omega (arith, h.low, start_from (h.walk.below j b) is);
    first = λ k l g. first k l (walk_gone todo j k g);
  }
    where
      has-place : j < length at
      has-place = omega (arith, h.walk.below j b, h.size, known.fit.few)

      other : (k : ℕ) → bit todo k ≡ false → ¬ (k ≡ j)
      other k g e = clash (bit todo k) (rw e b) g

      each : (k : ℕ) → k < count_of t → (k ≡ j) ⊎ (bit todo k ≡ false) → JobStart t p k (get_or (set at j s) k 0)
      each k l (inl e) = rw (e, get_or-set_same at j s 0 has-place) is
      each k l (inr g) = rw (get_or-set_other at j k s 0 (other k g)) (h.each k l g)

      first : (k : ℕ) → k < count_of t → (k ≡ j) ⊎ (bit todo k ≡ false) → min least s ≤ get_or (set at j s) k 0
      first k l (inl e) = rw (e, get_or-set_same at j s 0 has-place) (omega arith)
      first k l (inr g) = rw (get_or-set_other at j k s 0 (other k g)) (omega (arith, h.first k l g))

  pub starting_all : (at : List ℕ) (least todo : ℕ) → Starting at least todo → todo ≡ 0 → JobStarts t p at least
  starting_all at least todo h e = record {
    each = λ j l. h.each j l (rw e (bit-none j));
    low = omega (arith, h.low, known.is.figures.last);
    first = λ j l. h.first j l (rw e (bit-none j));
  }
