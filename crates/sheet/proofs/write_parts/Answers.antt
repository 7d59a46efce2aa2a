-- `sheet::write_parts` meets its contract: each part goes behind those before it.
use mathlib.Core.Path.{refl, sym}
use native.Mathlib.Omega.{arith}
use lib.ListN.{length}
use lib.Seq.{length-take-le}
use Rattle.sheet_format.specs.Format.{jobs_in}
use Rattle.sheet.proofs.Writes.{parts_are}
use Rattle.sheet.proofs.write_parts.Goals as goal

pub slice_bounds-copy-end-2 : goal.slice_bounds-copy-end-2
slice_bounds-copy-end-2 c =
    sym (length-take-le (length c.args.labels.now) c.args.out.now (omega
    arith))

pub copy-requires : goal.copy-requires
copy-requires c =
    length-take-le (length c.args.labels.now) c.args.out.now (omega arith)

pub returns : goal.returns
returns c =
    let a = c.args in
    let l = c.copy in
    let r = c.write_all in
    let t = c.write in (
      refl,
      parts_are (jobs_in a.jobs) a.count a.labels.now a.cabinet a.out.now l.new.part r.new.part t.new.part
          l.ensures r.ensures t.ensures,
    )
