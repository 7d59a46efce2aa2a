-- `labels::label_place` meets its contract.
use mathlib.Core.Path.{ap, ◌∙◌}
use Rattle.sheet.specs.declared.Reading.{Reading}
use Rattle.sheet.specs.Label.{place_in}
use Rattle.sheet.proofs.Labels.{place_in-reading}
use Rattle.labels.proofs.label_place.Goals as goal

pub returns : goal.returns
returns c =
    let a = c.args in
    c.place_in.ensures ∙ ap (λ (r : Reading). place_in r a.job) c.read.ensures ∙ place_in-reading a.sheet.now a.job
