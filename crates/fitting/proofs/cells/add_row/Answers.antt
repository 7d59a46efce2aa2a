-- `fitting::cells::add_row` meets its contract.
use native.Mathlib.Omega.{arith}
use mathlib.Core.Path.{refl}
use Rattle.fitting.specs.Fitting.{row_at}
use Rattle.fitting.proofs.Rows.{with_short, put_alike}
use Rattle.fitting.proofs.cells.add_row.Goals as goal

pub returns-then-h-d : goal.returns-then-h-d
returns-then-h-d c =
    let args = c.args in
    put_alike c.lift_cells.ensures (λ k. refl) (λ x l.
    let same = with_short (row_at args.slate.now args.from) args.d args.h args.v x (omega (arith, c.if-h-d.true)) in
    omega (arith, same))

pub returns-else-h-d : goal.returns-else-h-d
returns-else-h-d c = c.raise_row.ensures
