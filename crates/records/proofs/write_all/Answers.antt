-- `records::write_all` meets its contract: the first i records stand in front, and behind them what was there.
use mathlib.Core.Path.{◌≡◌, refl, ap, ap₂, ◌∙◌}
use mathlib.Core.List.{List, ◌++◌, append-nil}
use Prim.Native.Nat.{ℕ, ◌+◌, ◌*◌}
use native.Mathlib.Omega.{arith}
use lib.ListN.{drop_of_length-le, length}
use Rattle.counting.specs.Counting.{joined}
use Rattle.sheet_format.specs.Figures.{record_size}
use Rattle.sheet_format.specs.Format.{jobs_in}
use Rattle.sheet_format.proofs.Parts.{records_more, records-length}
use Rattle.records.proofs.write_all.Invariants.{written}
use Rattle.records.proofs.write_all.Goals as goal

pub loop-i-init : goal.loop-i-init
unfolding joined
loop-i-init c = (refl, refl)

pub loop-i-preserved : goal.loop-i-preserved
loop-i-preserved c =
    let v = c.loop-i in
    let l = c.args.part.now in
    let e = records_more (jobs_in c.args.jobs) l v.i v.part
    c.write_one.new.part v.invariant.0 c.write_one.ensures in (
      e,
      ap (length {A = ℕ}) e ∙ records-length (jobs_in
          c.args.jobs) l (v.i + 1) (omega arith),
    )

pub shape_of-part : goal.shape_of-part
shape_of-part c = c.loop-i.invariant.1

pub returns : goal.returns
returns c =
    let v = c.loop-i in
    let l = c.args.part.now in
    let e : v.i ≡ c.args.count = omega arith in
    v.invariant.0
    ∙ ap₂ (λ (n : ℕ) (rest : List ℕ). written c.args.jobs n ++ rest) e (drop_of_length-le l {i =
    record_size * v.i} (omega arith))
    ∙ append-nil (written c.args.jobs c.args.count)
