-- Every figure that a report shows is below 100000, where `decimal_is` and `signed_is` say that its digits are printed, and every set of
-- modules below 2 ^ 64, where `hexadecimal_is` does.
use mathlib.Core.Path.{◌≡◌, subst}
use mathlib.Core.Bool.{Bool, true, false, cond}
use mathlib.Core.List.{List, [], ◌∷◌}
use mathlib.Core.Option.{some}
use Prim.Native.Nat.{ℕ, suc, ◌≤◌, ◌<◌}
use native.Mathlib.Nat.{le_trans}
use native.Mathlib.Omega.{arith}
use lib.Dec.{T, leb, leb→le}
use lib.IntN.{nat_abs}
use lib.ListN.{replicate}
use lib.Pow.{pow_mono}
use lib.Signed.{nat_abs-le}
use Rattle.counting.proofs.Ranges.{largest-le}
use Rattle.figures.specs.Figures.{most_modules, last_end}
use Rattle.bits.proofs.Sets.{set_of-lt}
use Rattle.checking.specs.Checking.{Check, first_failing}
use Rattle.schedule.specs.Plan.{Sheet, Plan, finish}
use Rattle.schedule.specs.ListPlan.{list_plan}
use Rattle.schedule.specs.TieRule.{best_order}
use Rattle.card.specs.Card.{lateness_of}
use Rattle.card.proofs.Differences.{difference_small}
use Rattle.sheet.specs.Read.{read_refusal}
use Rattle.planable.specs.Planable.{sheet_in}
use Rattle.planable.proofs.Tables.{most_read, job_read}
use Rattle.planable.proofs.Planable.{passes}
use Rattle.planner.specs.Planning.{plan_checks, plan_refusal}
use Rattle.planner.proofs.Planning.{front_passes, found, ends_short}
use Rattle.plan_text.specs.Printed.{departure_of, longest_card}
use Rattle.plan_text.proofs.Sheets.{few}
use Rattle.report.specs.Figures.{Small}

-- ---- a refusal's number

abbrev UpTo : ℕ → List Check → Type 0
UpTo k [] = Unit {0}
UpTo k (c ∷ cs) = (c.0 ≤ k) × UpTo k cs

first_small : (k : ℕ) (cs : List Check) → UpTo k cs → first_failing cs ≤ k
unfolding first_failing
first_small k [] u = omega arith
first_small k (c ∷ cs) u = either c.1 u.0 (first_small k cs u.1)
  where
    either : (b : Bool) {x y : ℕ} → x ≤ k → y ≤ k → cond b x y ≤ k
    either true l m = l
    either false l m = m

pub refusal_small : (s : List ℕ) → plan_refusal s longest_card ≤ 19
unfolding plan_refusal
refusal_small s =
    let l : (n : ℕ) → T (leb n 19) → n ≤ 19 = λ n t. leb→le n 19 t in
    first_small 19 (plan_checks s longest_card)
    (l 1 tt, (l 2 tt, (l 3 tt, (l 19 tt, (l 4 tt, (l 5 tt, (l 6 tt, (l 7 tt, (l 8 tt, (l 9 tt, (l 10 tt, tt)))))))))))

-- ---- the figures of a plan

module _ (s : List ℕ) (z : plan_refusal s longest_card ≡ 0) where
  abbrev S : Sheet
  S = sheet_in s

  abbrev card : List ℕ
  card = replicate longest_card 0

  abbrev P : Plan
  P = list_plan S (found s card z).0

  ends : (j : ℕ) → j < S.jobs → finish S P j ≤ last_end
  ends = ends_short s card z

  reads_well : read_refusal s ≡ 0
  reads_well = (passes s (front_passes s longest_card z)).reads

  late_small : (j : ℕ) → j < S.jobs → nat_abs (lateness_of (finish S P j) (departure_of s j)) ≤ suc last_end
  late_small j l =
      let departs = (job_read s reads_well j l).departure in
      nat_abs-le (lateness_of (finish S P j) (departure_of s j))
      (difference_small (finish S P j) (departure_of s j) (suc last_end) (omega (arith, ends j l)) (omega arith))

  small : Small s S P
  small = record {
    end = omega (arith, largest-le S.jobs (finish S P) last_end ends);
    jobs = omega (arith, few s);
    modules = omega (arith, most_read s reads_well);
    starts = λ j l. omega (arith, ends j l);
    finishes = λ j l. omega (arith, ends j l);
    late = λ j l. omega (arith, late_small j l);
    sets = λ j l.
        le_trans (set_of-lt S.modules (P.uses j)) (pow_mono {i = S.modules} {j = most_modules} (most_read s reads_well));
  }

  -- Of the tie rule's plan every figure is small.
  pub figures_small : (o : List ℕ) → best_order S ≡ some o → Small s S (list_plan S o)
  figures_small o b =
      let same : (found s card z).0 ≡ o = cc (found s card z).1 in
      subst (λ (q : List ℕ). Small s S (list_plan S q)) same small
