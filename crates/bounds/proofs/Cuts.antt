-- A bound that holds of a part-plan cuts it: no order that goes on from it ends by the target.
use mathlib.Core.Path.{◌≡◌}
use mathlib.Core.Logic.{◌⊎◌, inl, inr}
use mathlib.Core.Bool.{true, false, not}
use mathlib.Core.List.{List}
use Prim.Native.Nat.{ℕ, suc, ◌+◌, ◌-◌, ◌*◌, ◌≤◌, ◌<◌}
use native.Mathlib.Omega.{arith}
use native.Mathlib.Numerals.{add-one}
use lib.Count.{ones}
use Rattle.tables.specs.declared.Jobs.{Jobs}
use Rattle.tables.specs.declared.Prepared.{Prepared}
use Rattle.counting.specs.Counting.{only}
use Rattle.counting.proofs.Tests.{true-or-false}
use Rattle.counting.proofs.Sums.{sum_same, sum-add}
use Rattle.schedule.specs.Plan.{Sheet, finish}
use Rattle.schedule.specs.ListPlan.{PartPlan}
use Rattle.schedule.specs.Bounds.{kept, work, todo}
use Rattle.schedule.specs.Beginnings.{CannotBeat}
use Rattle.schedule.proofs.Cuts.{area_cut, chain_cut}
use Rattle.tables.specs.Tables.{sheet_of, count_of, modules_of, changeover_of}
use Rattle.tables.specs.declared.Part.{Part}
use Rattle.tables.specs.Part.{word_of}
use Rattle.placement.specs.Profile.{held_since}
use Rattle.placement.proofs.Profiles.{profile_later}
use Rattle.placement.proofs.Parts.{after_is, after_small, left_small, left-count}
use Rattle.relations.specs.Relations.{ChainsOf}
use Rattle.heads.specs.Heads.{HeadsOf}
use Rattle.candidates.specs.Candidates.{Known, theory_part, JobStarts}
use Rattle.candidates.proofs.Starting.{started, none_before}
use Rattle.areas.specs.Areas.{HeldLater}
use Rattle.bounds.specs.Bounds.{SomeTooLong, Hopeless, Bounding}
use Rattle.bounds.proofs.Shortages.{short_cut}

-- from the last start on, what is held is a small number
pub held_later : {t : Jobs} {part : Part} → Known t part → HeldLater part
held_later {t} {part} known a from =
    let q = known.is.figures.profile in
    record {
      few = q.few;
      inside = q.inside;
      ended = λ k l. omega (arith, q.ended k l);
      small = after_small t known.fit part (word_of part) known.is a;
    }

module _ {t : Jobs} {part : Part} (known : Known t part)
    {at : List ℕ} {least : ℕ} (starts : JobStarts t part at least) where
  abbrev S : Sheet
  S = sheet_of t

  abbrev jobs : ℕ
  jobs = count_of t

  abbrev w : List ℕ
  w = word_of part

  abbrev P : PartPlan
  P = theory_part t part

  work_is : work S P least ≡ modules_of t * least + (held_since part least + part.left)
  unfolding work
  work_is =
      let F = known.is.figures in
      let parts = sum_same jobs (todo S P least)
      (λ i. only (P.placed i) (S.need i * (finish S P.plan i + S.rest - least)) + only (not (P.placed i)) (S.need i * kept S i))
      (λ i l. one i (true-or-false (P.placed i))) in
      let split = sum-add jobs (λ i. only (P.placed i) (S.need i * (finish S P.plan i + S.rest - least)))
      (λ i. only (not (P.placed i)) (S.need i * kept S i)) in
      omega (arith, after_is t known.fit part w known.is least, F.left)
    where
      one : (i : ℕ) → (P.placed i ≡ true) ⊎ (P.placed i ≡ false) → todo S P least i
          ≡ only (P.placed i) (S.need i * (finish S P.plan i + S.rest - least)) + only (not (P.placed i)) (S.need i * kept S i)
      one i (inl e) = rw e (omega arith)
      one i (inr e) = rw e (omega arith)

  -- what the bounds need of the figures
  pub bounding : Bounding t part least
  bounding =
      let from : part.last ≤ least = omega (arith, known.is.figures.last, starts.low) in
      record {
        held_after = held_later known least from;
        profile = profile_later least from known.is.figures.profile;
        little = left_small t known.fit part w known.is;
      }

  crowded_cut : (T : ℕ) → 0 < ones part.unplaced
      → modules_of t * (T + changeover_of t) < modules_of t * least + (held_since part least + part.left) → CannotBeat S (suc T) w
  crowded_cut T pos h =
      let size = left-count t known.fit part w known.is in
      area_cut S known.fit.narrow w known.is.follows least T starts.low
      (none_before known starts) (omega arith) (omega (arith, work_is))

  long_cut : (tails : List ℕ) (e : ℕ) → ChainsOf t tails jobs → SomeTooLong at tails jobs e → CannotBeat S e w
  long_cut tails e chains (j, l, k, h) =
      let r = started (starts.each j l) k in
      chain_cut S known.fit.narrow w known.is.follows jobs j e r (omega (arith, chains.each j l, (starts.each j l).here r))

  pub hopeless_cut : (prepared : Prepared) (T : ℕ) → ChainsOf t prepared.tails jobs → HeadsOf t prepared.heads jobs
      → 0 < ones part.unplaced → Hopeless t prepared part at least T (T + changeover_of t)
      → CannotBeat S (suc T) w
  hopeless_cut prepared T chains heads pos (inl h) = crowded_cut T pos h
  hopeless_cut prepared T chains heads pos (inr (inl h)) = long_cut prepared.tails (suc T) chains (rw add-one at h)
  hopeless_cut prepared T chains heads pos (inr (inr h)) = short_cut known starts T prepared chains heads h
