-- `planable::front` meets its contract.
use Rattle.std.proofs.lemmas.Result.{err_from_is_err_and}
use Rattle.checking.specs.Refusals.{number_of}
use Rattle.checking.proofs.Numbers.{number-some}
use Rattle.planable.proofs.Planable.{turned_away, jobs_read, checked}
use Rattle.planable.proofs.front.Goals as goal

pub returns-in_err-jobs : goal.returns-in_err-jobs
returns-in_err-jobs c =
    let p = err_from_is_err_and c.from_residual.result c.from_residual.ensures.1 in
    let e = c.in_err-jobs.field-0.0 in
    rw (p.1, p.2) (record { refusal = turned_away c.args.sheet.now (number_of e) c.in_err-jobs.ensures.refusal (number-some e); table = tt })

pub check_order-requires : goal.check_order-requires
check_order-requires c = (jobs_read c.args.sheet.now c.in_ok-jobs.jobs c.in_ok-jobs.ensures).few

pub returns-in_err-check_order : goal.returns-in_err-check_order
returns-in_err-check_order c =
    let r = c.from_residual-in_err-check_order in
    let p = err_from_is_err_and r.result r.ensures.1 in
    let e = c.in_err-check_order.field-0.0 in
    rw (p.1, p.2) (record {
      refusal = checked c.args.sheet.now c.in_ok-jobs.jobs c.in_ok-jobs.ensures (number_of e) c.in_err-check_order.ensures;
      table = tt;
    })

pub returns : goal.returns
returns c = record {
  refusal = checked c.args.sheet.now c.in_ok-jobs.jobs c.in_ok-jobs.ensures 0 c.in_ok-check_order.ensures;
  table = c.in_ok-jobs.ensures.table;
}
