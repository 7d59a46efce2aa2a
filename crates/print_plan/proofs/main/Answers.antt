-- `print_plan::main` is safe and ends: what it writes stands within the text.
use mathlib.Core.Path.{sym}
use lib.Seq.{length-take-le}
use Rattle.text.proofs.Adding.{text_within}
use Rattle.print_plan.proofs.main.Goals as goal

pub slice_bounds-bytes-end : goal.slice_bounds-bytes-end
slice_bounds-bytes-end c = text_within c.report-text.result _ c.report-text.ensures.text

pub slice_bounds-write_all-end : goal.slice_bounds-write_all-end
slice_bounds-write_all-end c =
    let text = c.report-text.result in
    sym (length-take-le text.length text.bytes (text_within text _ c.report-text.ensures.text))
