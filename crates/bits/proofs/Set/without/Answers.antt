use Rattle.std.proofs.Common.{ap, ◌∙◌, ℕ, ◌-◌}
use Rattle.std.specs.Int.Bits.{bit_and, and_le_l}
use Rattle.bits.specs.Bits.{without_bit}
use Rattle.bits.proofs.Digits.{one_up}
use Rattle.bits.proofs.Set.without.Goals as goal

pub sub-requires : goal.sub-requires
sub-requires g c =
    let laws = g.met.Self.Set in
    let n = g.Self.Set.number in
    laws.can_take _ _ (rw (laws.and_is _ _ _ c.bitand.ensures) (and_le_l (n c.args.self) (n c.up.result)))

pub returns : goal.returns
unfolding without_bit
returns g c =
    let laws = g.met.Self.Set in
    let n = g.Self.Set.number in
    let x = n c.args.self in
    let one = ap n c.ONE.ensures ∙ laws.one_is in
    laws.take_is _ _ _ c.sub.ensures
    ∙ ap (λ (y : ℕ). x - y) (laws.and_is _ _ _ c.bitand.ensures ∙ ap (bit_and x) (one_up _ _ one c.up.ensures c.requires))
