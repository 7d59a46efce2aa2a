use Rattle.std.proofs.Common.{ap, ◌∙◌}
use Rattle.std.specs.Int.Bits.{bit_or}
use Rattle.bits.specs.Bits.{with_bit}
use Rattle.bits.proofs.Digits.{one_up}
use Rattle.bits.proofs.Set.with.Goals as goal

pub returns : goal.returns
unfolding with_bit
returns g c =
    let laws = g.met.Self.Set in
    let n = g.Self.Set.number in
    let one = ap n c.ONE.ensures ∙ laws.one_is in
    laws.or_is _ _ _ c.bitor.ensures ∙ ap (bit_or (n c.args.self)) (one_up _ _ one c.up.ensures c.requires)
