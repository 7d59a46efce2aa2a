-- `minutes::book_minute` meets its contract.
use mathlib.Core.List.{List}
use Prim.Native.Nat.{ℕ}
use Rattle.tables.specs.declared.Jobs.{Jobs}
use Rattle.tables.specs.Tables.{sheet_of}
use Rattle.card.specs.Decoding.{plan_on}
use Rattle.desk.specs.Calls.{Call}
use Rattle.assurance.specs.Minutes.{hand_backs_due, claims_due, due_calls}
use Rattle.minutes.specs.declared.Turn.{Turn}
use Rattle.minutes.proofs.Calls.{first-refused, second-refused, both-granted}
use Rattle.minutes.proofs.book_minute.Goals as goal

abbrev hand-backs : Jobs → List ℕ → Turn → List Call
hand-backs jobs card turn = hand_backs_due (sheet_of jobs) (plan_on card) turn.size turn.controller turn.minute

abbrev claims : Jobs → List ℕ → Turn → List Call
claims jobs card turn = claims_due (sheet_of jobs) (plan_on card) turn.size turn.controller turn.minute

pub returns-then-refusal-ne0 : goal.returns-then-refusal-ne0
unfolding due_calls
returns-then-refusal-ne0 c =
    let a = c.args in
    let first = c.book_all-handed in
    first-refused a.desk (hand-backs a.jobs.now a.card.now a.turn) (claims a.jobs.now a.card.now a.turn)
    first.result first.ensures c.if-refusal-ne0.true

pub returns-then-refused-ne0 : goal.returns-then-refused-ne0
unfolding due_calls
returns-then-refused-ne0 c =
    let a = c.args in
    let first = c.book_all-handed in
    let second = c.book_all-claimed in
    second-refused a.desk (hand-backs a.jobs.now a.card.now a.turn) (claims a.jobs.now a.card.now a.turn)
    first.result first.ensures c.if-refusal-ne0.false second.result second.ensures c.if-refused-ne0.true

pub returns : goal.returns
unfolding due_calls
returns c =
    let a = c.args in
    let first = c.book_all-handed in
    let second = c.book_all-claimed in
    both-granted a.desk (hand-backs a.jobs.now a.card.now a.turn) (claims a.jobs.now a.card.now a.turn)
    first.result first.ensures c.if-refusal-ne0.false second.result second.ensures c.if-refused-ne0.false
