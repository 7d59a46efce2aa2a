-- `desk::Desk::places_ok` meets its contract: each place that was passed is right.
use mathlib.Core.Path.{refl, sym, ◌∙◌}
use Rattle.counting.specs.Counting.{every}
use Rattle.desk.specs.Checks.{place_ok_at}
use Rattle.counting.proofs.Loops.{every_more, every-not}
use Rattle.desk.proofs.Desk.places_ok.Goals as goal

pub loop-i-init : goal.loop-i-init
unfolding every
loop-i-init c = refl

pub returns-then-not-place_ok_at : goal.returns-then-not-place_ok_at
returns-then-not-place_ok_at c =
    sym (every-not _ (place_ok_at c.args.self) c.loop-i.i c.loop-i-test.true
    (sym c.place_ok_at.ensures ∙ c.if-not-place_ok_at.true))

pub loop-i-preserved : goal.loop-i-preserved
loop-i-preserved c =
    every_more (place_ok_at c.args.self) c.loop-i.i c.loop-i.invariant
    (sym c.place_ok_at.ensures ∙ c.if-not-place_ok_at.false)
