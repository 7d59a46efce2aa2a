use Rattle.bits.proofs.Walks.{lowest_member}
use Rattle.bits.proofs.U32Set.lowest.Goals as goal

pub returns : goal.returns
returns c =
    let r = lowest_member 32 c.args.self c.requires c.ranges.self.fits in
    (r.0, r.1.0, r.1.1)
