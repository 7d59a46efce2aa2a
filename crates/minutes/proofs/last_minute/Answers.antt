-- `minutes::last_minute` meets its contract.
use mathlib.Core.Path.{◌≡◌, refl, ◌∙◌}
use native.Mathlib.Omega.{arith}
use native.Mathlib.Numerals.{add-one}
use Rattle.counting.specs.Counting.{largest}
use Rattle.tables.specs.Tables.{count_of}
use Rattle.assurance.specs.Minutes.{last_minute}
use Rattle.minutes.proofs.last_minute.Goals as goal

pub loop-j-init : goal.loop-j-init
unfolding largest
loop-j-init c = refl

pub loop-j-preserved : goal.loop-j-preserved
unfolding largest
loop-j-preserved c = rw (add-one) (c.max-last.ensures ∙ rw (c.loop-j.invariant, c.due_minute.ensures.0, add-one) refl)

pub returns : goal.returns
unfolding last_minute
returns c =
    let e : c.loop-j.j ≡ count_of c.args.jobs.now = omega arith in
    rw (← e) c.loop-j.invariant
