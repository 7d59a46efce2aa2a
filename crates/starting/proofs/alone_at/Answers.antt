-- `starting::alone_at` meets its contract.
use Prim.Native.Nat.{◌+◌, ◌*◌}
use lib.Bits.{bit_and}
use lib.ListN.{get_or}
use mathlib.Core.Path.{refl}
use mathlib.Core.Bool.{false}
use borrow.Author.Tests.{eqb-true}
use Rattle.counting.proofs.Tests.{clash}
use Rattle.starting.proofs.alone_at.Goals as goal

pub returns-then-start-least : goal.returns-then-start-least
returns-then-start-least c = λ e. clash false e refl

pub returns : goal.returns
returns c = λ e.
    let none = eqb-true (bit_and c.args.set (get_or c.args.prepared.now.related (c.args.i * 3 + 2) 0)) 0 e in
    (c.if-start-least.false, none)
