-- `relations::with_pair` meets its contract.
use Rattle.relations.proofs.Pairs.{put_where, put-or}
use Rattle.relations.proofs.with_pair.Goals as goal

pub returns : goal.returns
returns c =
    let tests = c in
    let beside = tests.fits_beside-b in
    let modules = tests.modules.ensures in
    let swap = tests.may_swap-s in
    let alike = tests.alike-a in
    let read = tests in
    let minutes = read.minutes.ensures in
    let minutes2 = read.minutes-2.ensures in
    let need2 = read.need-need2.ensures in
    let needs-read = read in
    let need = needs-read.need-need1.ensures in
    let a = needs-read.args in
    record {
      alike = put_where a.row.alike a.i alike.result c.joined.ensures
          (λ e. rw (need, need2, minutes, minutes2) at (alike.ensures e));
      swapping = put_where a.row.swapping a.i swap.result c.joined-2.ensures
          (λ e. rw (need, need2) at (swap.ensures e));
      beside = put-or a.row.beside a.i beside.result c.joined-3.ensures
          (λ e d. rw (modules, need, need2) at (beside.ensures e d));
    }
