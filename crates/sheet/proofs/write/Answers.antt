-- `sheet::write` meets its contract.
use mathlib.Core.Path.{◌≡◌, refl, sym, ◌∙◌}
use lib.ListN.{length}
use Rattle.checking.proofs.Numbers.{number-some}
use Rattle.sheet_format.specs.Format.{jobs_in, cabinet}
use Rattle.sheet.proofs.Writes.{writes, refused_answer, refused_leaves, written_answer, written_leaves}
use Rattle.sheet.proofs.write.Goals as goal

pub write_parts-requires : goal.write_parts-requires
write_parts-requires c =
    let a = c.args in
    let w = writes (jobs_in a.jobs) a.count a.labels.now (cabinet a.modules a.changeover) (length a.out.now) 0 c.in-Ok.ensures refl in
    (w.figures.few, w.short, w.fits)

pub returns-in-Ok : goal.returns-in-Ok
returns-in-Ok c =
    let a = c.args in
    let w = c.write_parts in
    let C = cabinet a.modules a.changeover in
    let J = jobs_in a.jobs in (
      written_answer J a.count a.labels.now C a.out.now 0 c.in-Ok.ensures refl w.result w.ensures.0,
      written_leaves J a.count a.labels.now C a.out.now 0 c.in-Ok.ensures refl w.new.out w.ensures.1,
    )

pub returns-in-Err : goal.returns-in-Err
returns-in-Err c =
    let a = c.args in
    let n = c.number in
    let C = cabinet a.modules a.changeover in
    let J = jobs_in a.jobs in
    let some = λ (z : n.result ≡ 0). number-some c.in-Err.refusal (sym n.ensures ∙ z) in (
      refused_answer J a.count a.labels.now C a.out.now n.result (n.ensures ∙ c.in-Err.ensures) some,
      refused_leaves J a.count a.labels.now C a.out.now n.result (n.ensures ∙ c.in-Err.ensures) some,
    )
