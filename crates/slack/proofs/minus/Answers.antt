-- `slack::minus` meets its contract.
use Rattle.card.proofs.Differences.{difference_fits, difference_is}
use Rattle.slack.proofs.minus.Goals as goal

pub overflow_sub-result : goal.overflow_sub-result
overflow_sub-result c = difference_fits c.args.a c.args.b c.ranges.a.fits c.ranges.b.fits

pub returns : goal.returns
returns c = difference_is c.args.a c.args.b c.ranges.a.fits c.ranges.b.fits
