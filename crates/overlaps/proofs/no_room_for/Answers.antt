-- `overlaps::no_room_for` meets its contract.
use mathlib.Core.Path.{refl}
use mathlib.Core.Bool.{false}
use native.Mathlib.Omega.{arith}
use Rattle.counting.proofs.Tests.{clash}
use Rattle.overlaps.proofs.no_room_for.Goals as goal

pub returns-then-target-tail : goal.returns-then-target-tail
returns-then-target-tail c = λ e. clash false e refl

pub returns-then-m-l : goal.returns-then-m-l
returns-then-m-l c = λ e. clash false e refl

pub returns-then-first-kept : goal.returns-then-first-kept
returns-then-first-kept c = λ e. clash false e refl

pub no_room_at-requires : goal.no_room_at-requires
no_room_at-requires c = let pre = c.requires in (pre.0, (pre.1.0, omega (arith, c.if-m-l.false)))
