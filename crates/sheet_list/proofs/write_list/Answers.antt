-- `sheet_list::write_list` meets its contract: the gathered list is written as the lent one.
use Rattle.std.proofs.Common.{List, ap, ◌∙◌, length}
use Rattle.sheet_format.specs.declared.Job.{Job}
use Rattle.sheet_format.specs.Format.{jobs_in, cabinet}
use Rattle.sheet.specs.Write.{write_answer, write_leaves}
use Rattle.sheet_list.proofs.Same.{gathered_answer, gathered_leaves}
use Rattle.sheet_list.proofs.write_list.Goals as goal

pub returns : goal.returns
returns c =
    let a = c.args in
    let js = a.jobs.now in
    let cab = cabinet a.modules a.changeover in (
      c.write.ensures.0
          ∙ ap (λ (l : List Job). write_answer (jobs_in l) (length js) a.labels.now cab a.out.now) c.gather.ensures
          ∙ gathered_answer js a.labels.now cab a.out.now,
      c.write.ensures.1
          ∙ ap (λ (l : List Job). write_leaves (jobs_in l) (length js) a.labels.now cab a.out.now) c.gather.ensures
          ∙ gathered_leaves js a.labels.now cab a.out.now,
    )
