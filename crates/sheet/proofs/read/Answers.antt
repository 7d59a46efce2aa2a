-- `sheet::read` meets its contract.
use mathlib.Core.Path.{sym, ◌∙◌}
use Rattle.checking.proofs.Numbers.{number-some}
use Rattle.sheet.proofs.Answers.{refused_is}
use Rattle.sheet.proofs.read.Goals as goal

pub returns-in-Err : goal.returns-in-Err
returns-in-Err c =
    let n = c.number in
    let e = c.in-Err.refusal in
    c.refused.ensures
    ∙ refused_is c.args.sheet.now n.result (n.ensures ∙ c.in-Err.ensures.refusal) (λ z. number-some e (sym n.ensures ∙ z))
