-- `plan_text::plan_line` meets its contract.
use mathlib.Core.List.{[], ◌∷◌}
use Rattle.text.specs.Numbers.{decimal}
use Rattle.text.specs.Texts.{empty}
use Rattle.text.proofs.Fields.{fields-line}
use Rattle.plan_text.specs.Printed.{plan_word, plan_line}
use Rattle.plan_text.proofs.plan_line.Goals as goal

pub returns : goal.returns
unfolding plan_line
returns c =
    let a = c.args in
    rw (
      c.with_decimal.ensures,
      c.with_decimal-text-2.ensures,
      c.with_decimal-text.ensures,
      c.with_field-text.ensures,
      c.empty.ensures,
    )
    (fields-line empty plan_word (decimal a.end ∷ decimal a.jobs ∷ decimal a.modules ∷ []))
