use Rattle.std.proofs.Common.{ap, ◌∙◌, ℕ, ◌-◌}
use Rattle.std.specs.Int.Bits.{bit_and}
use Rattle.bits.proofs.Walks.{without-lowest}
use Rattle.bits.proofs.Set.without_lowest.Goals as goal

pub returns : goal.returns
returns g c =
    let laws = g.met.Self.Set in
    let n = g.Self.Set.number in
    let x = n c.args.self in
    let before = laws.take_is _ _ _ c.sub.ensures ∙ ap (λ (y : ℕ). x - y) (ap n c.ONE.ensures ∙ laws.one_is) in
    λ k b low. laws.and_is _ _ _ c.bitand.ensures ∙ ap (bit_and x) before ∙ without-lowest k x (b, low)
