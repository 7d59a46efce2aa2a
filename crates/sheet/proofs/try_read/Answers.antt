-- `sheet::try_read` meets its contract.
use mathlib.Core.Path.{refl}
use Rattle.std.proofs.lemmas.Result.{err_from_is_err_and}
use Rattle.checking.specs.Refusals.{number_of}
use Rattle.checking.proofs.Numbers.{number-some}
use Rattle.sheet.proofs.Answers.{trailer, refused_early}
use Rattle.sheet.proofs.try_read.Goals as goal

pub returns-in_err-check : goal.returns-in_err-check
returns-in_err-check c =
    let p = err_from_is_err_and c.from_residual.result c.from_residual.ensures.1 in
    let e = c.in_err-check.field-0.0 in
    rw (p.1, p.2) (record { refusal = refused_early c.args.sheet.now (number_of e) c.in_err-check.ensures (number-some e); answer = tt })

pub offset-offset-requires : goal.offset-offset-requires
offset-offset-requires c = (trailer c.args.sheet.now 0 c.in_ok-check.ensures refl).long

pub count-count-requires : goal.count-count-requires
count-count-requires c = (trailer c.args.sheet.now 0 c.in_ok-check.ensures refl).long

pub cabinet-requires : goal.cabinet-requires
cabinet-requires c = (trailer c.args.sheet.now 0 c.in_ok-check.ensures refl).long
