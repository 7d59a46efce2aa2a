-- What the count answers.
use Rattle.std.specs.Prelude.{◌≡◌, not, cond, ◌&&◌, ◌||◌, List, ℕ, ◌≤◌, ◌<◌, ◌^◌, eqb}
use Rattle.std.specs.Int.Count.{ones}
use Rattle.bits.specs.Bits.{bit}
use Rattle.schedule.specs.Plan.{Sheet, Circular}
use Rattle.marks.specs.Following.{follows}
use Rattle.marks.specs.Marks.{Marked}
use Rattle.planable.specs.Planable.{sheet_in, planable_refusal}
use Rattle.job_sets.specs.declared.SetCount.{SetCount}
use Rattle.job_sets.specs.Sets.{closed_sets, sets_in}

-- "Refusals 1 to 9 and 19 are checked as in planning", and then the number of job sets
unfoldable pub sets_answer : List ℕ → SetCount
sets_answer s =
    cond (eqb (planable_refusal s) 0)
    (record { refusal = 0; sets = closed_sets (sheet_in s) })
    (record { refusal = planable_refusal s; sets = 0 })

-- r is `left` without j and the others
pub record Leaving (left j others r : ℕ) : Type 0 where
  pub within : r ≤ left
  pub each : (i : ℕ) → bit r i ≡ (bit left i && not (eqb i j || bit others i))

-- r is the number of closed sets among the jobs `left`, where `before` and `behind` are the marks of a sheet without circles
pub record SetsAmong (left : ℕ) (before behind : List ℕ) (r : ℕ) : Type 0 where
  pub most : r ≤ 2 ^ ones left
  pub count : (S : Sheet) → ¬ Circular S → Marked S before behind → left < 2 ^ S.jobs → r ≡ sets_in S.jobs (follows S) (bit left)
