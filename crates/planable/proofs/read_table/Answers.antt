-- `planable::read_table` meets its contract.
use mathlib.Core.Path.{sym}
use Rattle.std.proofs.lemmas.Result.{err_from_is_err_and}
use Rattle.planable.proofs.Tables.{places_read, few_read, sums_read}
use Rattle.planable.proofs.read_table.Goals as goal

pub returns-in_err-found : goal.returns-in_err-found
returns-in_err-found c =
    let p = err_from_is_err_and c.from_residual.result c.from_residual.ensures.1 in
    rw (p.1, p.2) (record { refusal = c.in_err-found.ensures.refusal; table = tt })

pub table_of-requires : goal.table_of-requires
table_of-requires c =
    let s = c.args.sheet.now in
    let well = sym c.in_ok-found.ensures.refusal in
    rw c.in_ok-found.ensures.answer (places_read s well, (few_read s well, sums_read s well))

pub returns : goal.returns
returns c = record { refusal = c.in_ok-found.ensures.refusal; table = rw c.in_ok-found.ensures.answer at c.table_of.ensures }
