-- `minutes::book_if_due` meets its contract.
use mathlib.Core.Path.{sym, ap, ◌∙◌}
use Prim.Native.Nat.{ℕ, ◌*◌}
use borrow.Author.Tests.{eq-eqb, ne_eqb}
use Rattle.tables.specs.Tables.{sheet_of}
use Rattle.minutes.proofs.Calls.{none_due, event_due}
use Rattle.minutes.proofs.book_if_due.Goals as goal

pub returns-then-due_minute-turn : goal.returns-then-due_minute-turn
returns-then-due_minute-turn c = rw (ne_eqb _ _ (λ e. c.if-due_minute-turn.true (c.due_minute.ensures.0 ∙ e))) (none_due c.args.desk)

pub returns : goal.returns
returns c =
    let a = c.args in
    let now = eq-eqb _ _ (sym c.due_minute.ensures.0 ∙ c.if-due_minute-turn.false) in
    rw now
    (c.book.ensures
    ∙ event_due a.desk (sheet_of a.jobs.now) a.turn.size a.turn.controller a.j _ a.claiming
    (ap (λ (n : ℕ). n * a.turn.size) c.need.ensures))
