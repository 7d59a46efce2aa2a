-- `runner::step` meets its contract.
use mathlib.Core.Path.{◌≡◌, sym, ap, ◌∙◌}
use mathlib.Core.Bool.{false}
use Rattle.desk.specs.declared.Looked.{Looked}
use Rattle.desk.specs.Checks.{not_of_desk}
use Rattle.runner.proofs.Passes.{look-refused, look-granted}
use Rattle.runner.proofs.Steps.{wrong-desk, not-kept}
use Rattle.runner.proofs.step.Goals as goal

pub returns-then-look-ne0 : goal.returns-then-look-ne0
returns-then-look-ne0 c =
    let a = c.args in
    rw c.number.ensures (wrong-desk a.desk a.runner
    (look-refused a.desk a.runner.controller (λ z. c.if-look-ne0.true (ap (λ (r : Looked). r.refusal) c.look.ensures ∙ z))))

pub step_kept-requires : goal.step_kept-requires
step_kept-requires c =
    let of-desk : not_of_desk c.args.desk c.args.runner.controller ≡ false = look-granted _ _ (ap (λ (r : Looked). r.refusal) (sym c.look.ensures) ∙ c.if-look-ne0.false) in
    let k = c.in-Some.ensures in
    record { desk = of-desk; kept = k.0; table = k.1 }

pub returns-in-None : goal.returns-in-None
returns-in-None c =
    let of-desk : not_of_desk c.args.desk c.args.runner.controller ≡ false = look-granted _ _ (ap (λ (r : Looked). r.refusal) (sym c.look.ensures) ∙ c.if-look-ne0.false) in
    rw c.number-in-None.ensures (not-kept c.args.desk c.args.runner of-desk c.in-None.ensures)
