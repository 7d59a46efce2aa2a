use Rattle.std.proofs.Common.{ap, ap₂, ◌∙◌, ◌-◌}
use Rattle.std.specs.Int.Bits.{bit_and}
use Rattle.std.proofs.Math.Pow.{pow_pos}
use Rattle.bits.proofs.Digits.{one_up}
use Rattle.bits.proofs.Sets.{and_below}
use Rattle.bits.proofs.Set.below.Goals as goal

pub sub-requires : goal.sub-requires
sub-requires g c =
    let laws = g.met.Self.Set in
    let n = g.Self.Set.number in
    let one = ap n c.ONE.ensures ∙ laws.one_is in
    let other = ap n c.ONE-2.ensures ∙ laws.one_is in
    laws.can_take _ _ (rw (one_up _ _ one c.up.ensures c.requires, other) (pow_pos c.args.n))

pub returns : goal.returns
returns g c =
    let laws = g.met.Self.Set in
    let n = g.Self.Set.number in
    let one = ap n c.ONE.ensures ∙ laws.one_is in
    let other = ap n c.ONE-2.ensures ∙ laws.one_is in
    let below = laws.take_is _ _ _ c.sub.ensures ∙ ap₂ ◌-◌ (one_up _ _ one c.up.ensures c.requires) other in
    laws.and_is _ _ _ c.bitand.ensures ∙ ap (bit_and (n c.args.self)) below ∙ and_below c.args.n (n c.args.self)
