-- `plan_text::with_row` meets its contract.
use mathlib.Core.Path.{refl}
use Rattle.plan_text.proofs.with_row.Goals as goal

pub returns : goal.returns
returns c =
    rw (
      c.with_line.ensures,
      c.label_in-label.ensures.0,
      c.read-modules.ensures,
      c.read-end.ensures,
      c.read-start.ensures,
    )
    refl
