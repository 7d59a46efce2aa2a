-- What one call of the search does to what is known.
use mathlib.Core.Path.{◌≡◌, sym, ap, ◌∙◌}
use mathlib.Core.Bool.{true}
use mathlib.Core.List.{List, [], ◌∷◌, ◌++◌, append-nil}
use Prim.Native.Nat.{ℕ, suc, ◌+◌, ◌<◌}
use native.Mathlib.Omega.{arith}
use lib.Count.{ones}
use lib.ListN.{length, length-append}
use borrow.Author.Tests.{ltb-true, ltb-false, not-true, not-false}
use Rattle.schedule.specs.Plan.{Sheet}
use Rattle.schedule.specs.ListPlan.{Order, PartPlan, ready}
use Rattle.schedule.specs.Beginnings.{Begins, CannotBeat}
use Rattle.schedule.proofs.Starts.{ready_says}
use Rattle.schedule.proofs.Cuts.{children_cut}
use Rattle.tables.specs.declared.Jobs.{Jobs}
use Rattle.tables.specs.Tables.{sheet_of, count_of}
use Rattle.tables.specs.declared.Part.{Part}
use Rattle.tables.specs.Part.{word_of}
use Rattle.placement.proofs.Parts.{left-count}
use Rattle.memory.specs.Entries.{Hit, Adds}
use Rattle.candidates.specs.Candidates.{Known, theory_part, JobStarts}
use Rattle.candidates.proofs.Starting.{none_before}
use Rattle.listing.specs.declared.Found.{Found}
use Rattle.listing.specs.Listing.{Finished}
use Rattle.listing.proofs.Listing.{bytes_fewer, whole, end_is, word_is, finished_order}
use Rattle.search.proofs.Recalls.{remembered_adds, hit_cut}
use Rattle.search.specs.Search.{Remembered, Fails, Outcome}

module _ {t : Jobs} {part : Part} (known : Known t part) where
  abbrev S : Sheet
  S = sheet_of t

  abbrev jobs : ℕ
  jobs = count_of t

  abbrev w : List ℕ
  w = word_of part

  abbrev P : PartPlan
  P = theory_part t part

  size : length w + ones part.unplaced ≡ jobs
  size = left-count t known.fit part w known.is

  -- ---- every job is placed

  module _ (all : part.placed ≡ jobs) where
    pub visit_leaf : {target : ℕ} {r : Found} {left : ℕ} → Finished part jobs target r → Outcome S target w r left
    unfolding CannotBeat
    visit_leaf {target} {r} f = record {
      size = f.order.size;
      hit = λ h. record {
        order = (finished_order known all f).order;
        begins = ([], word_is known all r.order (bytes_fewer f.order known.fit.few) ∙ sym (append-nil w));
        end = (finished_order known all f).end;
        within = ltb-false target r.end (not-true _ (sym f.hit ∙ h));
      };
      miss = λ h s o d b. rw (alone o d b) (omega (arith, end_is known all, f.end, ltb-true target r.end (not-false _ (sym f.hit ∙ h))));
    }
      where
        alone : (o : List ℕ) → Order S o → Begins w o → o ≡ w
        alone o d ([], e) = e ∙ append-nil w
        alone o d (j ∷ p, e) = absurd (omega (arith, d.all, (whole known all).all, ap length e, length-append w (j ∷ p)))

  -- ---- a part-plan that was remembered

  pub recall_cut : {at : List ℕ} {least : ℕ} → JobStarts t part at least → (e : ℕ) {m : List ℕ}
      → 0 < ones part.unplaced → Remembered S m e → Hit m jobs part.ends part.unplaced least S.rest → CannotBeat S e w
  recall_cut starts e pos = hit_cut known e pos (none_before known starts)

  -- ---- all children

  pub visit_all : (target : ℕ) → 0 < ones part.unplaced
      → ((j : ℕ) → j < jobs → ready S P.placed j ≡ true → Fails S target (w ++ (j ∷ []))) → Fails S target w
  visit_all target pos h =
      children_cut S (suc target) w (omega (arith, size)) (λ j r. h j (ready_says S P.placed j r).job r)

  pub visit_remember : (target : ℕ) {m m' : List ℕ} → Remembered S m (suc target) → Fails S target w
      → Adds m m' jobs part.ends part.unplaced part.last → Remembered S m' (suc target)
  visit_remember target = remembered_adds known (suc target)
