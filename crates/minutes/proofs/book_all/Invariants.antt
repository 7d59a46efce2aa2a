-- `minutes::book_all` meets its contract: the calls of the jobs that were passed were made.
use mathlib.Core.Path.{◌≡◌}
use Rattle.tables.specs.Tables.{sheet_of}
use Rattle.card.specs.Decoding.{plan_on}
use Rattle.desk.specs.Calls.{desk_after_all}
use Rattle.assurance.specs.Minutes.{first_refusal}
use Rattle.minutes.specs.Together.{due_of}
use Rattle.minutes.proofs.book_all.Given as goal

abbrev pub invariant-loop-j : goal.invariant-loop-j
invariant-loop-j l = (first_refusal l.desk (due_of (sheet_of l.jobs) (plan_on l.card) l.turn l.claiming l.j) ≡ 0)
    × (l.at ≡ desk_after_all l.desk (due_of (sheet_of l.jobs) (plan_on l.card) l.turn l.claiming l.j))
