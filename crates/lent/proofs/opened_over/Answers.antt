-- `lent::opened_over` meets its contract: what the opening says, with the kept desk in place of the desk of zeros.
use mathlib.Core.Path.{◌≡◌, refl}
use mathlib.Core.List.{List}
use Prim.Native.Nat.{ℕ}
use borrow.Author.Tests.{ne_eqb}
use Rattle.checking.specs.Refusals.{number_of}
use Rattle.std.specs.Prelude.{Result, Ok, Err}
use Rattle.checking.specs.declared.Refusal.{Refusal}
use Rattle.desk.specs.declared.Desk.{Desk}
use Rattle.desk.specs.Calls.{opened, answered, opened_by}
use Rattle.checking.proofs.Numbers.{number-some}
use Rattle.lent.specs.Lent.{opened_over}
use Rattle.lent.proofs.opened_over.Goals as goal

kept_answer : (d : Desk) (limit : ℕ) (assured ceilings : List ℕ) (o : Result Desk Refusal) → opened_by o ≡ opened limit assured ceilings
    → answered d o ≡ opened_over d limit assured ceilings
unfolding opened_over
kept_answer d limit assured ceilings (Ok e) q = rw (← q) refl
kept_answer d limit assured ceilings (Err r) q = rw (← q, ne_eqb (number_of r) 0 (number-some r)) refl

pub returns : goal.returns
returns c =
    let a = c.args in
    rw c.answer.ensures (kept_answer a.kept a.limit a.assured.now a.ceilings.now _ c.new_desk-new.ensures)
