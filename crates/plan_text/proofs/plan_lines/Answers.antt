-- `plan_text::plan_lines` meets its contract.
use mathlib.Core.Path.{refl, ap}
use native.Mathlib.Omega.{arith}
use Rattle.sheet.specs.declared.Reading.{Reading}
use Rattle.text.proofs.Adding.{adding_more}
use Rattle.plan_text.proofs.Sheets.{few}
use Rattle.plan_text.proofs.plan_lines.Goals as goal

pub overflow_mul-jobs : goal.overflow_mul-jobs
overflow_mul-jobs c =
    record {
      fits = omega (arith, ap (λ (r : Reading). r.count) c.read-found.ensures, few c.args.sheet.now);
    }

pub overflow_add-jobs : goal.overflow_add-jobs
overflow_add-jobs c =
    record {
      fits = omega (arith, ap (λ (r : Reading). r.count) c.read-found.ensures, few c.args.sheet.now);
    }

pub read-end-requires : goal.read-end-requires
read-end-requires c =
    omega (arith, c.requires, ap (λ (r : Reading). r.count) c.read-found.ensures, few c.args.sheet.now)

pub overflow_cast-jobs : goal.overflow_cast-jobs
overflow_cast-jobs c =
    record {
      fits = omega (arith, ap (λ (r : Reading). r.count) c.read-found.ensures, few c.args.sheet.now);
    }

pub returns : goal.returns
returns c =
    rw (c.with_rows.ensures, c.plan_line-text.ensures, adding_more, c.read-end.ensures, c.read-found.ensures) refl
