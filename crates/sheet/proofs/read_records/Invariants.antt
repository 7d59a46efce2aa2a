-- `sheet::read_records` meets its contract: after each record the pass knows what `After` says of the jobs that the answer has so far.
use mathlib.Core.Path.{◌≡◌}
use Rattle.sheet.proofs.Pass.{After}
use Rattle.sheet.proofs.read_records.Given as goal

abbrev pub invariant-loop-i : goal.invariant-loop-i
invariant-loop-i l =
    After l.sheet l.offset l.count l.i l.answer.jobs l.total l.wrong
    × (l.answer ≡ record { refusal = 0; jobs = l.answer.jobs; count = l.count; modules = l.fn.cabinet.modules; changeover = l.fn.cabinet.changeover })
