-- `report::report` meets its contract.
use mathlib.Core.Path.{◌≡◌, refl, sym, ◌∙◌}
use lib.ListN.{replicate}
use Rattle.checking.proofs.Numbers.{number-some}
use Rattle.report.proofs.Reports.{refused_report, planned_report}
use Rattle.report.proofs.report.Goals as goal

pub returns-in-Ok : goal.returns-in-Ok
returns-in-Ok c = record {
  text = c.plan_lines.ensures
      ∙ planned_report c.args.sheet.now (replicate 268 0) refl (sym c.in-Ok.ensures.refusal) _ c.in-Ok.ensures.card;
  work = c.in-Ok.ensures.work;
}

pub returns-in-Err : goal.returns-in-Err
returns-in-Err c =
    let n = c.number in
    record {
      text = c.refused_line.ensures
          ∙ refused_report c.args.sheet.now n.result (n.ensures ∙ c.in-Err.ensures.refusal)
          (λ (z : n.result ≡ 0). number-some c.in-Err.refusal (sym n.ensures ∙ z));
      work = c.in-Err.ensures.work;
    }
