-- What jobs that must run hold, and that they have no room.
use mathlib.Core.List.{List}
use Prim.Native.Nat.{ℕ, ◌≤◌, ◌<◌, max}
use native.Mathlib.Omega.{arith}
use native.Mathlib.Nat.{le_trans}
use lib.ListN.{get_or}
use Rattle.tables.specs.declared.Jobs.{Jobs}
use Rattle.tables.specs.declared.Prepared.{Prepared}
use Rattle.counting.specs.Counting.{only, sum}
use Rattle.counting.proofs.Tests.{only-le}
use Rattle.figures.specs.Figures.{most_modules}
use Rattle.bits.specs.Bits.{bit}
use Rattle.schedule.specs.Bounds.{must_run}
use Rattle.tables.specs.Tables.{need_at, kept_at, count_of, modules_of, Fit}
use Rattle.tables.specs.declared.Part.{Part}
use Rattle.placement.specs.declared.Ended.{Ended}
use Rattle.placement.specs.Profile.{EndedOf}
use Rattle.placement.proofs.Profiles.{held_from-le}
use Rattle.overlaps.specs.Overlaps.{must_hold, Overlapping}

-- no job holds more than a cabinet has
pub hold_small : {t : Jobs} → Fit t → (prepared : Prepared) (l T m k : ℕ) → k < count_of t → must_hold t prepared l T m k ≤ most_modules
hold_small {t} fit prepared l T m k x = le_trans (only-le (must_run (max l (get_or prepared.heads k 0)) (get_or prepared.tails k 0) T m (kept_at t k)) (need_at t k))
    (omega (arith, fit.narrow k x, fit.most))

pub overlapping-at : {t : Jobs} {prepared : Prepared} {p : Part} {l T : ℕ} (m : ℕ) (r : Ended) → l ≤ m → EndedOf p (modules_of t) m r
    → r.free < sum (count_of t) (λ k. only (bit p.unplaced k) (must_hold t prepared l T m k)) → Overlapping t prepared p l T
overlapping-at {p = p} m r from ended over = record {
  minute = m;
  from = from;
  over = omega (arith, over, ended.profile.balance, held_from-le p.until p.held p.placed r.gone m ended.live);
}
