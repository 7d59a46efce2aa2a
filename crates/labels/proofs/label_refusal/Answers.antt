-- `labels::label_refusal` meets its contract.
use mathlib.Core.Path.{ap}
use Rattle.sheet.specs.declared.LabelPlace.{LabelPlace}
use Rattle.sheet.specs.Label.{label_place}
use Rattle.labels.proofs.label_refusal.Goals as goal

pub returns : goal.returns
unfolding label_place
returns c = ap (λ (p : LabelPlace). p.refusal) c.label_place-place.ensures
