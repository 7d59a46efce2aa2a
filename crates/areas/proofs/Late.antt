-- What jobs keep behind a minute is a small number.
use mathlib.Core.List.{List}
use Prim.Native.Nat.{ℕ, ◌*◌, ◌≤◌, ◌<◌}
use native.Mathlib.Omega.{arith}
use native.Mathlib.Nat.{le_trans, mul-le-mul_left, mul-le-mul_right}
use Rattle.tables.specs.declared.Jobs.{Jobs}
use Rattle.tables.specs.declared.Prepared.{Prepared}
use Rattle.figures.specs.Figures.{most_jobs, most_modules}
use Rattle.counting.specs.Counting.{only, sum}
use Rattle.counting.proofs.Tests.{only_within}
use Rattle.counting.proofs.Sums.{sum_most}
use Rattle.bits.specs.Bits.{bit}
use Rattle.tables.specs.Tables.{need_at, most_kept, count_of, Fit}
use Rattle.tables.proofs.Laws.{kept_short}
use Rattle.areas.specs.Areas.{late_work}

pub late_small : {t : Jobs} → Fit t → (prepared : Prepared) (l a k : ℕ) → k < count_of t → late_work t prepared l a k ≤ most_modules * most_kept
late_small {t} fit prepared l a k x =
    let w : need_at t k ≤ most_modules = omega (arith, fit.narrow k x, fit.most) in
    le_trans (mul-le-mul_left (need_at t k) (omega (arith, kept_short t fit k x))) (mul-le-mul_right most_kept w)

pub late-work_small : {t : Jobs} → Fit t → (prepared : Prepared) (l a set : ℕ)
    → sum (count_of t) (λ k. only (bit set k) (late_work t prepared l a k)) ≤ most_jobs * (most_modules * most_kept)
late-work_small {t} fit prepared l a set =
    let most = most_modules * most_kept in
    le_trans (sum_most (count_of t) (λ k. only (bit set k) (late_work t prepared l a k)) most
    (λ k x. only_within (bit set k) (late_work t prepared l a k) most (λ b. late_small fit prepared l a k x)))
    (mul-le-mul_right most fit.few)
