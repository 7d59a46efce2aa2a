-- `text::with_field` meets its contract.
use mathlib.Core.Path.{◌≡◌}
use lib.ListN.{take}
use Rattle.text.specs.Texts.{adding}
use Rattle.text.proofs.with_field.Given as goal

abbrev pub invariant-loop-b : goal.invariant-loop-b
invariant-loop-b l = l.next ≡ adding l.initial.next (take l.b-index l.field)
