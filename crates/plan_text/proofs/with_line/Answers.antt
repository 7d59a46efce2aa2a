-- `plan_text::with_line` meets its contract.
use mathlib.Core.List.{[], ◌∷◌}
use mir.Syntax.{w32}
use mir.ValLaws.{to_z-of_z}
use Rattle.card.specs.Card.{lateness_of}
use Rattle.text.specs.Numbers.{decimal, signed, hexadecimal}
use Rattle.text.proofs.Fields.{fields-line}
use Rattle.plan_text.specs.Printed.{job_line}
use Rattle.plan_text.proofs.with_line.Goals as goal

pub returns : goal.returns
unfolding job_line
returns c =
    let a = c.args in
    rw (
      c.with_field.ensures,
      c.with_hexadecimal-next.ensures,
      c.with_signed-next.ensures,
      to_z-of_z w32 c.lateness.result (record { sfits = c.lateness.type_inv }),
      c.lateness.ensures,
      c.with_decimal-next-2.ensures,
      c.with_decimal-next.ensures,
    )
    (fields-line a.text (decimal a.start)
    (decimal a.end ∷ signed (lateness_of a.end a.departure) ∷ hexadecimal a.modules ∷ a.label.now ∷ []))
