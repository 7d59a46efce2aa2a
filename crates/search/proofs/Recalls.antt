-- Working memory: what it remembers stays true, and a remembered part-plan that is ahead gives a cut.
use mathlib.Core.Path.{◌≡◌, refl, sym, ap, ◌∙◌, subst}
use mathlib.Core.Logic.{◌⊎◌, inl, inr}
use mathlib.Core.Bool.{Bool, true, false, not}
use mathlib.Core.List.{List}
use Prim.Native.Nat.{ℕ, suc, ◌≤◌, ◌<◌}
use native.Mathlib.Omega.{arith}
use lib.Count.{ones}
use lib.ListN.{get_or, replicate}
use Rattle.counting.proofs.Tests.{clash}
use Rattle.bits.specs.Bits.{bit}
use Rattle.bits.proofs.Ones.{ones_none}
use Rattle.schedule.specs.Plan.{Sheet, finish}
use Rattle.schedule.specs.ListPlan.{Order, part_of}
use Rattle.schedule.specs.TieRule.{end_of}
use Rattle.schedule.specs.Beginnings.{CannotBeat}
use Rattle.schedule.specs.PartPlans.{NoneBefore}
use Rattle.schedule.proofs.Cuts.{ahead_cut}
use Rattle.tables.specs.declared.Jobs.{Jobs}
use Rattle.tables.specs.Tables.{sheet_of, count_of}
use Rattle.tables.specs.declared.Part.{Part}
use Rattle.tables.specs.Part.{word_of}
use Rattle.placement.proofs.Parts.{left-count}
use Rattle.memory.specs.Entries.{Entry, entries, entry_at, end_at, EntryOf, Hit, Adds}
use Rattle.memory.proofs.Slots.{zero_sets}
use Rattle.candidates.specs.Candidates.{Known}
use Rattle.search.specs.Search.{StandsFor, Remembered}

-- another minute before which no order ends that does not end before the first
pub remembered_until : {S : Sheet} (m : List ℕ) {e f : ℕ} → ((o : List ℕ) → Order S o → e ≤ end_of S o → f ≤ end_of S o)
    → Remembered S m e → Remembered S m f
unfolding Remembered CannotBeat
remembered_until m until h k i p = let v = h k i p in (v.0, v.1, λ o d b. until o d (v.2 o d b))

-- the best so far only falls
pub remembered_less : (S : Sheet) (m : List ℕ) {e f : ℕ} → f ≤ e → Remembered S m e → Remembered S m f
remembered_less S m l = remembered_until m (λ o d b. omega arith)

-- a memory that is all zero remembers nothing
pub remembered-none : (S : Sheet) (m : List ℕ) (n e : ℕ) → m ≡ replicate n 0 → Remembered S m e
unfolding Remembered
remembered-none S m n e z k i p = absurd (omega (arith, zero_sets m n z k i))

same_not : (a b : Bool) → not a ≡ not b → a ≡ b
same_not true true e = refl
same_not false false e = refl
same_not true false e = clash false e refl
same_not false true e = clash true refl e

some_ones : (x : ℕ) → 0 < ones x → 0 < x
some_ones ℕ.zero h = absurd (omega (arith, ones_none))
some_ones (suc x) h = omega arith

module _ {t : Jobs} {part : Part} (known : Known t part) where
  abbrev S : Sheet
  S = sheet_of t

  abbrev jobs : ℕ
  jobs = count_of t

  abbrev w : List ℕ
  w = word_of part

  -- one more part-plan that cannot beat e
  pub remembered_adds : {m m' : List ℕ} (e : ℕ) → Remembered S m e → CannotBeat S e w
      → Adds m m' jobs part.ends part.unplaced part.last → Remembered S m' e
  unfolding Remembered
  remembered_adds {m} {m'} e h c a k i p = go (a.each k i')
    where
      i' : k < entries m
      i' = rw a.size at i

      go : (entry_at m' k ≡ entry_at m k) ⊎ EntryOf (entry_at m' k) jobs part.ends part.unplaced part.last
          → (v : List ℕ) × StandsFor S (entry_at m' k) v × CannotBeat S e v
      go (inl q) =
          let v = h k i' (rw q at p) in
          (v.0, subst (λ (x : Entry). StandsFor S x v.0) (sym q) v.1, v.2)
      go (inr y) = (
        w,
        record {
          follows = known.is.follows;
          set = λ i l. ap (λ (x : ℕ). bit x i) y.set ∙ known.is.figures.set i l;
          last = y.figures.last ∙ known.is.figures.last;
          ends = λ i l. y.figures.end i l ∙ known.is.figures.ends i l;
        },
        c,
      )

  -- a remembered part-plan is ahead from a minute on, before which no job that may come next starts
  pub hit_cut : {m : List ℕ} {l : ℕ} (e : ℕ) → 0 < ones part.unplaced → NoneBefore S (part_of S w) l
      → Remembered S m e → Hit m jobs part.ends part.unplaced l S.rest → CannotBeat S e w
  unfolding Remembered
  hit_cut {m} {l} e pos none h found =
      let x = entry_at m found.at in
      let q : x.set ≡ part.unplaced = found.ahead.set in
      let r = h found.at found.inside (rw q (some_ones part.unplaced pos)) in
      let v = r.0 in
      let st = r.1 in
      let same : (i : ℕ) → i < jobs → (part_of S v).placed i ≡ (part_of S w).placed i =
      λ i k. same_not _ _ (sym (st.set i k) ∙ ap (λ (y : ℕ). bit y i) q ∙ known.is.figures.set i k) in
      ahead_cut S known.fit.narrow w known.is.follows v st.follows l e (record {
        same = same;
        last = omega (arith, st.last, found.ahead.last);
        ends = λ i k a.
            let b : (part_of S w).placed i ≡ true = sym (same i k) ∙ a in
            let y : end_at x.figures i ≡ finish S (part_of S v).plan i = rw a at (st.ends i k) in
            let z : get_or part.ends i 0 ≡ finish S (part_of S w).plan i = rw b at (known.is.figures.ends i k) in
            omega (arith, found.ahead.end i k);
      }) none (omega (arith, left-count t known.fit part w known.is)) r.2
