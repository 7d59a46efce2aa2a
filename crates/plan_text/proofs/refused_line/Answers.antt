-- `plan_text::refused_line` meets its contract.
use mathlib.Core.List.{[], ◌∷◌}
use Rattle.text.specs.Numbers.{decimal}
use Rattle.text.specs.Texts.{empty}
use Rattle.text.proofs.Fields.{fields-line}
use Rattle.plan_text.specs.Printed.{refused_word, refused_line}
use Rattle.plan_text.proofs.refused_line.Goals as goal

pub returns : goal.returns
unfolding refused_line
returns c =
    rw (c.with_decimal.ensures, c.with_field-text.ensures, c.empty.ensures)
    (fields-line empty refused_word (decimal c.args.number ∷ []))
