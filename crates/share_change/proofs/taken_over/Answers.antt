-- `share_change::taken_over` meets its contract: its two tests are those of the definition.
use mathlib.Core.Path.{refl}
use Rattle.share_change.specs.Change.{taken_over}
use Rattle.share_change.proofs.taken_over.Goals as goal

pub returns-then-not-places_ok : goal.returns-then-not-places_ok
unfolding taken_over
returns-then-not-places_ok c =
    rw (← c.carried_over-next.ensures, ← c.places_ok.ensures, c.if-not-places_ok.true) refl

pub returns-then-not-ok : goal.returns-then-not-ok
unfolding taken_over
returns-then-not-ok c =
    rw (← c.carried_over-next.ensures, ← c.places_ok.ensures, c.if-not-places_ok.false, ← c.ok.ensures, c.if-not-ok.true) refl

pub returns : goal.returns
unfolding taken_over
returns c =
    rw (← c.carried_over-next.ensures, ← c.places_ok.ensures, c.if-not-places_ok.false, ← c.ok.ensures, c.if-not-ok.false) refl
