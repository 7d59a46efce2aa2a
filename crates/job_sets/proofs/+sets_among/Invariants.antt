-- Each call has fewer jobs left.
use lib.Count.{ones}
use Rattle.job_sets.proofs.+sets_among.Given as goal

abbrev pub decreases-sets_among : goal.decreases-sets_among
decreases-sets_among l = ones l.left
