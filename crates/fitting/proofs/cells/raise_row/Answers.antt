-- `fitting::cells::raise_row` meets its contract.
use native.Mathlib.Omega.{arith}
use Prim.Native.Nat.{◌+◌, ◌-◌}
use Rattle.fitting.proofs.Rows.{before_put, row_put}
use borrow.Author.Rules.{rules}
use Rattle.fitting.proofs.cells.raise_row.Goals as goal

pub overflow_add-top-2 : goal.overflow_add-top-2
overflow_add-top-2 c =
    record { fits = omega (arith, c.requires.1.1.0, c.requires.1.1.1 (c.args.h - c.args.d) (omega arith)) }

pub raise_cells-requires : goal.raise_cells-requires
raise_cells-requires c =
    let pre = c.requires in
    let args = c.args in
    let put = c.lift_cells.ensures in (
      search rules,
      (
        search rules,
        (pre.1.1.0, λ x l. omega (arith, before_put (args.from + args.cols) put args.from x (omega arith), pre.1.1.1 x (omega arith))),
      ),
    )

pub returns : goal.returns
returns c =
    let args = c.args in
    row_put args.from args.cols args.d args.h args.v c.requires.0.0.0 c.requires.0.0.1 c.lift_cells.ensures c.raise_cells.ensures c.lift_cells-2.ensures
