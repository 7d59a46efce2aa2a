-- `cabinets::none_serves` meets its contract.
use mathlib.Core.Path.{sym, ap, ◌∙◌}
use mathlib.Core.Bool.{not}
use Rattle.tables.specs.Tables.{sheet_of}
use Rattle.cabinets.proofs.Counts.{largest_decides}
use Rattle.cabinets.proofs.none_serves.Goals as goal

pub returns : goal.returns
returns c =
    ap not c.serves.ensures
    ∙ sym (largest_decides (sheet_of c.args.jobs.now) c.args.by c.requires.jobs.lasting)
