-- `two_pass::try_read` meets its contract.
use mathlib.Core.Path.{refl, sym, ◌∙◌}
use native.Mathlib.Omega.{arith}
use lib.Seq.{length-take-le}
use Rattle.std.proofs.lemmas.Result.{err_from_is_err_and}
use Rattle.checking.specs.Refusals.{number_of}
use Rattle.checking.proofs.Numbers.{number-some}
use Rattle.sheet.proofs.Answers.{trailer, answer_is, refused_early, refused_late, read_whole}
use Rattle.two_pass.proofs.Found.{found-faulty, found_total, content_found}
use Rattle.two_pass.proofs.try_read.Goals as goal

pub returns-in_err-check : goal.returns-in_err-check
returns-in_err-check c =
    let p = err_from_is_err_and c.from_residual.result c.from_residual.ensures.1 in
    let e = c.in_err-check.field-0.0 in
    rw (p.1, p.2) (record { refusal = refused_early c.args.sheet.now (number_of e) c.in_err-check.ensures (number-some e); answer = tt })

pub offset-offset-requires : goal.offset-offset-requires
offset-offset-requires c = (trailer c.args.sheet.now 0 c.in_ok-check.ensures refl).long

pub count-count-requires : goal.count-count-requires
count-count-requires c = (trailer c.args.sheet.now 0 c.in_ok-check.ensures refl).long

pub cabinet-cabinet-requires : goal.cabinet-cabinet-requires
cabinet-cabinet-requires c = (trailer c.args.sheet.now 0 c.in_ok-check.ensures refl).long

pub read_records-found-requires : goal.read_records-found-requires
read_records-found-requires c =
    let t = trailer c.args.sheet.now 0 c.in_ok-check.ensures refl in
    (omega (arith, c.count-count.ensures), omega (arith, c.count-count.ensures, c.offset-offset.ensures))

pub slice_bounds-check_content-end : goal.slice_bounds-check_content-end
slice_bounds-check_content-end c =
    let s = c.args.sheet.now in
    let t = trailer s 0 c.in_ok-check.ensures refl in
    sym (length-take-le c.offset-offset.result s (omega (arith, c.offset-offset.ensures)))

pub check_content-requires : goal.check_content-requires
check_content-requires c =
    let s = c.args.sheet.now in
    let t = trailer s 0 c.in_ok-check.ensures refl in
    let r = c.read_records-found in (
      omega (arith, c.count-count.ensures),
      found-faulty s c.count-count.result c.offset-offset.result r.result.jobs r.ensures.0 r.result.faulty r.ensures.2,
      found_total s c.count-count.result c.offset-offset.result r.result.jobs r.ensures.0 r.result.total r.ensures.1,
    )

pub returns-in_err-check_content : goal.returns-in_err-check_content
returns-in_err-check_content c =
    let s = c.args.sheet.now in
    let r = c.from_residual-in_err-check_content in
    let p = err_from_is_err_and r.result r.ensures.1 in
    let e = c.in_err-check_content.field-0.0 in
    let k = content_found s c.count-count.result c.offset-offset.result c.read_records-found.result.jobs c.read_records-found.ensures.0
    (number_of e) c.count-count.ensures c.offset-offset.ensures c.in_err-check_content.ensures in
    rw (p.1, p.2) (record { refusal = refused_late s 0 c.in_ok-check.ensures refl (number_of e) k; answer = tt })

pub returns : goal.returns
returns c =
    let s = c.args.sheet.now in
    let k = content_found s c.count-count.result c.offset-offset.result c.read_records-found.result.jobs c.read_records-found.ensures.0
    0 c.count-count.ensures c.offset-offset.ensures c.in_ok-check_content.ensures in
    record {
      refusal = refused_late s 0 c.in_ok-check.ensures refl 0 k;
      answer = answer_is s c.count-count.result c.offset-offset.result c.cabinet-cabinet.result c.read_records-found.result.jobs
          c.count-count.ensures c.offset-offset.ensures c.cabinet-cabinet.ensures c.read_records-found.ensures.0
          ∙ read_whole s 0 c.in_ok-check.ensures refl 0 k refl;
    }
