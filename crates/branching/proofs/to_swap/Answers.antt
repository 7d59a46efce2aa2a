-- `branching::to_swap` meets its contract.
use mathlib.Core.Path.{sym, ◌∙◌}
use Prim.Native.Nat.{◌+◌, ◌-◌, ◌*◌}
use lib.ListN.{get_or}
use Rattle.counting.proofs.Tests.{and_left}
use Rattle.bits.specs.Bits.{bit}
use Rattle.bits.proofs.Digits.{bit-and}
use Rattle.branching.proofs.to_swap.Goals as goal

pub returns : goal.returns
returns c = λ i e.
    let related = get_or c.args.prepared.now.related (c.args.j * 3 + 1) 0 in
    let both = sym (bit-and related (4294967295 - c.args.part.now.unplaced) i) ∙ e in
    let first = and_left (bit related i) _ both in
    first
