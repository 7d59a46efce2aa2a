-- The difference of two minutes, as a signed number.
use mathlib.Core.Path.{◌≡◌, refl, sym, ap₂, subst, ◌∙◌}
use mathlib.Core.Bool.{Bool, true, false}
use mathlib.Core.List.{List}
use Prim.Native.Nat.{ℕ, zero, suc, ◌-◌, ◌≤◌, ◌<◌}
use native.Mathlib.Omega.{arith}
use native.Mathlib.Nat.{le_trans}
use lib.Dec.{ltb, lit≤, le→leb}
use lib.IntN.{ℤ, pos, negsuc, sub_ℕ, ◌-ℤ◌}
use lib.Signed.{mag, ◌≤ℤ◌}
use mir.Syntax.{w32}
use mir.Val.{SFits, of_z, to_z}
use mir.ValLaws.{to_z_pos, to_z-of_z}
use borrow.Author.Tests.{ltb-true}
use Rattle.schedule.specs.Plan.{Sheet, finish}
use Rattle.schedule.specs.ListPlan.{list_plan}
use Rattle.tables.specs.declared.Jobs.{Jobs}
use Rattle.tables.specs.Tables.{sheet_of, count_of, Fit}
use Rattle.card.specs.Card.{lateness_of}

-- ---- in 32 bits

pub difference_small : (a b n : ℕ) → a < n → b < n → mag (pos a -ℤ pos b) < n
difference_small a zero n l m = omega arith
difference_small a (suc b) n l m = go (ltb a (suc b)) refl
  where
    go : (t : Bool) → ltb a (suc b) ≡ t → mag (sub_ℕ a (suc b)) < n
    go true e = rw e (omega (arith, ltb-true a (suc b) e))
    go false e = rw e (omega arith)

module _ (a b : ℕ) (l : a < 65536) (m : b < 65536) where
  short : SFits w32 (pos a -ℤ pos b)
  short = record { sfits = le_trans (difference_small a b 65536 l m) (lit≤ tt) }

  -- the numbers as they are read back
  read : to_z w32 a -ℤ to_z w32 b ≡ pos a -ℤ pos b
  read = ap₂ ◌-ℤ◌ (to_z_pos w32 a (le_trans l (lit≤ tt))) (to_z_pos w32 b (le_trans m (lit≤ tt)))

  pub difference_fits : SFits w32 (to_z w32 a -ℤ to_z w32 b)
  difference_fits = subst (λ (z : ℤ). SFits w32 z) (sym read) short

  pub difference_is : to_z w32 (of_z w32 (to_z w32 a -ℤ to_z w32 b)) ≡ pos a -ℤ pos b
  difference_is = to_z-of_z w32 (to_z w32 a -ℤ to_z w32 b) difference_fits ∙ read

-- ---- its range

-- The lateness of a job that ends after minute 0 and departs by minute 2880 is -2879 or more.
pub lateness_from : (end departure : ℕ) → 0 < end → departure ≤ 2880 → negsuc 2878 ≤ℤ lateness_of end departure
lateness_from end zero l m = record { le = tt }
lateness_from end (suc d) l m = go (ltb end (suc d)) refl
  where
    go : (t : Bool) → ltb end (suc d) ≡ t → negsuc 2878 ≤ℤ sub_ℕ end (suc d)
    go true e = rw e (record { le = le→leb (suc d - suc end) 2878 (omega (arith, ltb-true end (suc d) e)) })
    go false e = rw e (record { le = tt })

-- So it is for every job of a list plan.
module _ (t : Jobs) (fit : Fit t) where
  abbrev S : Sheet
  S = sheet_of t

  pub plan_lateness : (o : List ℕ) (j departure : ℕ) → j < count_of t → departure ≤ 2880
      → negsuc 2878 ≤ℤ lateness_of (finish S (list_plan S o) j) departure
  plan_lateness o j departure l m = lateness_from _ departure (omega (arith, fit.lasting j l)) m
