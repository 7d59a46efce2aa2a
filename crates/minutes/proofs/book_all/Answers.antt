-- `minutes::book_all` meets its contract: the calls of the jobs that were passed were made.
use mathlib.Core.Bool.{Bool}
use mathlib.Core.List.{List}
use mathlib.Core.Path.{◌≡◌, refl, sym, ap, subst, ◌∙◌}
use Prim.Native.Nat.{ℕ}
use native.Mathlib.Omega.{arith}
use Rattle.counting.specs.Counting.{joined}
use Rattle.tables.specs.declared.Jobs.{Jobs}
use Rattle.tables.specs.Tables.{sheet_of, count_of}
use Rattle.card.specs.Decoding.{plan_on}
use Rattle.desk.specs.declared.Booked.{Booked}
use Rattle.desk.specs.Calls.{Call}
use Rattle.assurance.specs.Minutes.{due_at}
use Rattle.minutes.specs.declared.Turn.{Turn}
use Rattle.minutes.specs.Together.{together, event}
use Rattle.minutes.proofs.Calls.{stopped, more_made, all_made}
use Rattle.minutes.proofs.book_all.Goals as goal

-- the calls of job j
abbrev calls : Jobs → List ℕ → Turn → Bool → ℕ → List Call
calls jobs card turn claiming j = due_at (sheet_of jobs) (plan_on card) turn.size turn.controller turn.minute (event claiming j)

pub loop-j-init : goal.loop-j-init
unfolding joined
loop-j-init c = (refl, refl)

pub returns-then-refusal-ne0 : goal.returns-then-refusal-ne0
unfolding together
returns-then-refusal-ne0 c =
    let a = c.args in
    let v = c.loop-j in
    let f = calls a.jobs.now a.card.now a.turn a.claiming in
    stopped a.desk f v.j v.invariant.0 v.at v.invariant.1 (count_of a.jobs.now) (omega arith) _
    (ap (λ (b : Booked). b.refusal) c.book_if_due-booked.ensures) c.if-refusal-ne0.true

pub loop-j-preserved : goal.loop-j-preserved
loop-j-preserved c =
    let a = c.args in
    let v = c.loop-j in
    let f = calls a.jobs.now a.card.now a.turn a.claiming in
    let e = c.book_if_due-booked.ensures in
    let more = more_made a.desk f v.j v.invariant.0 v.at v.invariant.1 (ap (λ (b : Booked). b.refusal) (sym e) ∙ c.if-refusal-ne0.false) in
    (more.0, ap (λ (b : Booked). b.desk) e ∙ more.1)

pub returns : goal.returns
returns c =
    let a = c.args in
    let v = c.loop-j in
    let f = calls a.jobs.now a.card.now a.turn a.claiming in
    let e : v.j ≡ count_of a.jobs.now = omega arith in
    subst (λ (n : ℕ). record { refusal = 0; desk = v.at } ≡ together a.desk (joined n f)) e
    (all_made a.desk v.at (joined v.j f) v.invariant.0 v.invariant.1)
