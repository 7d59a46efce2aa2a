-- `plan_text::with_rows` meets its contract.
use mathlib.Core.Path.{◌≡◌, refl, ap}
use native.Mathlib.Omega.{arith}
use Rattle.counting.specs.Counting.{joined}
use Rattle.counting.proofs.Joins.{joined_more}
use Rattle.sheet.specs.declared.Reading.{Reading}
use Rattle.text.specs.Texts.{adding}
use Rattle.text.proofs.Adding.{adding_more}
use Rattle.plan_text.proofs.Sheets.{few}
use Rattle.plan_text.proofs.with_rows.Goals as goal

pub loop-j-init : goal.loop-j-init
unfolding adding joined
loop-j-init c = refl

pub offset_bounds-found-j : goal.offset_bounds-found-j
offset_bounds-found-j c =
    record { fits = omega (arith, ap (λ (r : Reading). r.count) c.requires.0, few c.args.sheet.now) }

pub bounds-found-j : goal.bounds-found-j
bounds-found-j c =
    omega (arith, ap (λ (r : Reading). r.count) c.requires.0, few c.args.sheet.now)

pub with_row-next-requires : goal.with_row-next-requires
with_row-next-requires c =
    (omega (arith, ap (λ (r : Reading). r.count) c.requires.0, few c.args.sheet.now), c.requires.0, c.requires.1)

pub loop-j-preserved : goal.loop-j-preserved
loop-j-preserved c =
    let loop = c.loop-j in rw (c.with_row-next.ensures, loop.invariant, adding_more, c.requires.0) (ap (adding _) (joined_more loop.j _))

pub returns : goal.returns
returns c =
    let loop = c.loop-j in
    let all : loop.j ≡ c.args.found.count = omega arith in
    rw (loop.invariant, all, c.requires.0) refl
