-- `plan_text::with_rows` meets its contract.
use mathlib.Core.Path.{◌≡◌}
use Rattle.counting.specs.Counting.{joined}
use Rattle.text.specs.Texts.{adding}
use Rattle.plan_text.specs.Printed.{departure_of}
use Rattle.plan_text.specs.Rows.{row_line}
use Rattle.plan_text.proofs.with_rows.Given as goal

abbrev pub invariant-loop-j : goal.invariant-loop-j
invariant-loop-j l = l.next ≡ adding l.initial.next (joined l.j (λ i. row_line l.sheet l.card (departure_of l.sheet i) i))
