-- `label_check::wrong_label` meets its contract.
use Rattle.sheet_format.proofs.Cuts.{wrong-none}
use Rattle.label_check.proofs.wrong_label.Goals as goal

pub returns-then-length-eq0 : goal.returns-then-length-eq0
returns-then-length-eq0 c = wrong-none c.args.label.now c.if-length-eq0.true
