use Rattle.bits.proofs.Walks.{walk_less}
use Rattle.bits.proofs.WalkIterator.next.Goals as goal

pub returns-clause-goes : goal.returns-clause-goes
returns-clause-goes g c =
    let low = c.lowest-j.ensures in record {
      on = λ f. (tt, f, rw (c.without_lowest-self.ensures _ low.1 low.2) (walk_less _ _ low.1));
      keeps = tt;
      rests = λ f. tt;
    }
