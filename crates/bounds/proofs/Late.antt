-- Jobs that arrive too late cut a part-plan: no order that goes on from it ends by the target.
use mathlib.Core.Path.{◌≡◌, refl, ap}
use mathlib.Core.Logic.{◌⊎◌, inl, inr}
use mathlib.Core.Bool.{Bool, true, false, not, cond}
use mathlib.Core.List.{List}
use Prim.Native.Nat.{ℕ, suc, ◌+◌, ◌-◌, ◌*◌, ◌<◌, max}
use native.Mathlib.Omega.{arith}
use native.Mathlib.Nat.{le_of_eq}
use Rattle.tables.specs.declared.Jobs.{Jobs}
use Rattle.tables.specs.declared.Prepared.{Prepared}
use Rattle.counting.specs.Counting.{only}
use Rattle.counting.proofs.Tests.{true-or-false}
use Rattle.counting.proofs.Sums.{sum_same, sum-add}
use Rattle.bits.specs.Bits.{bit}
use Rattle.schedule.specs.Plan.{Sheet, finish}
use Rattle.schedule.specs.ListPlan.{PartPlan}
use Rattle.schedule.specs.PartPlans.{NoneBefore}
use Rattle.schedule.specs.Bounds.{kept, head, minutes_behind}
use Rattle.schedule.specs.Beginnings.{CannotBeat}
use Rattle.schedule.proofs.Starts.{ready_says, start_may}
use Rattle.schedule.proofs.Bounds.{head_cut, late_cut}
use Rattle.tables.specs.Tables.{sheet_of, count_of, changeover_of}
use Rattle.tables.specs.declared.Part.{Part}
use Rattle.tables.specs.Part.{word_of}
use Rattle.placement.specs.Part.{Figures}
use Rattle.placement.proofs.Parts.{after_is}
use Rattle.relations.specs.Relations.{ChainsOf}
use Rattle.heads.specs.Heads.{HeadsOf}
use Rattle.areas.specs.Areas.{late_work, LateChain, LateArea, TooLate}
use Rattle.candidates.specs.Candidates.{Known, theory_part}

module _ {t : Jobs} {part : Part} (known : Known t part) (T : ℕ) (prepared : Prepared)
    (chains : ChainsOf t prepared.tails (count_of t)) (heads : HeadsOf t prepared.heads (count_of t)) where
  abbrev S : Sheet
  S = sheet_of t

  abbrev jobs : ℕ
  jobs = count_of t

  abbrev w : List ℕ
  w = word_of part

  abbrev P : PartPlan
  P = theory_part t part

  abbrev F : Figures S P part
  F = known.is.figures

  none_before_last : NoneBefore S P P.last
  none_before_last j r = (start_may S P j (known.fit.narrow j (ready_says S P.placed j r).job)).later

  chain_late : LateChain t prepared T → CannotBeat S (suc T) w
  chain_late (k, l, over) =
      head_cut S known.fit.lasting known.fit.narrow w known.is.follows P.last (le_of_eq refl) none_before_last T
      jobs jobs k l (omega (arith, over, heads.each k l, chains.each k l))

  -- what is placed and what is not, of one job
  one : (a : ℕ) (k : ℕ) → k < jobs → (P.placed k ≡ true) ⊎ (P.placed k ≡ false)
      → only (P.placed k) (S.need k * (finish S P.plan k + S.rest - a)) + only (not (P.placed k)) (late_work t prepared part.last a k)
      ≡ S.need k * cond (P.placed k) (finish S P.plan k + S.rest - a) (minutes_behind (max P.last (head S jobs k)) a (kept S k))
  one a k l (inl e) = rw e (omega arith)
  one a k l (inr e) = rw (e, heads.each k l, F.last, known.fit.keeps k l) (omega arith)

  area_late : LateArea t prepared part (T + changeover_of t) → CannotBeat S (suc T) w
  area_late (a, from, over) =
      let held = after_is t known.fit part w known.is a in
      let late = sum_same jobs (λ k. only (bit part.unplaced k) (late_work t prepared part.last a k))
      (λ k. only (not (P.placed k)) (late_work t prepared part.last a k)) (λ k l. ap (λ (b : Bool). only b (late_work t prepared part.last a k)) (F.set k l)) in
      let split = sum-add jobs (λ k. only (P.placed k) (S.need k * (finish S P.plan k + S.rest - a)))
      (λ k. only (not (P.placed k)) (late_work t prepared part.last a k)) in
      let all = sum_same jobs _ (λ k. S.need k
      * cond (P.placed k) (finish S P.plan k + S.rest - a) (minutes_behind (max P.last (head S jobs k)) a (kept S k)))
      (λ k l. one a k l (true-or-false (P.placed k))) in
      late_cut S known.fit.lasting known.fit.narrow w known.is.follows P.last (le_of_eq refl) none_before_last T
      jobs a (omega (arith, from, F.last)) (omega (arith, over, held, late, split, all))

  pub too_late_cut : TooLate t prepared part T (T + changeover_of t) → CannotBeat S (suc T) w
  too_late_cut (inl h) = chain_late h
  too_late_cut (inr h) = area_late h
