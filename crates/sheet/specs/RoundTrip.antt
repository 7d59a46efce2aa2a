-- R-2.1, R-2.2: legal jobs that are written as a sheet read back the same, and every sheet that reads is what writing its jobs gives.
use Rattle.std.specs.Prelude.{List, ℕ, take}
use Rattle.counting.specs.Counting.{joined}
use Rattle.sheet_format.specs.declared.Job.{Job}
use Rattle.sheet_format.specs.Format.{jobs_in, cabinet}
use Rattle.sheet_format.specs.declared.Cabinet.{Cabinet}
use Rattle.sheet.specs.declared.Reading.{Reading}
use Rattle.sheet.specs.declared.Written.{Written}
use Rattle.sheet.specs.Label.{label_of}
use Rattle.sheet.specs.Write.{write_answer, write_leaves}

-- what writing leaves, up to the length that it answers
abbrev pub written_sheet : (ℕ → Job) → ℕ → List ℕ → Cabinet → List ℕ → List ℕ
written_sheet jobs n labels C out = take (write_answer jobs n labels C out).length (write_leaves jobs n labels C out)

-- writing what reading answered, with the labels that the label call shows, run together: the answer, and the buffer afterwards
abbrev pub rewrite_answer : List ℕ → Reading → List ℕ → Written
rewrite_answer s r out =
    write_answer (jobs_in r.jobs) r.count (joined r.count (label_of s)) (cabinet r.modules r.changeover) out

abbrev pub rewrite_leaves : List ℕ → Reading → List ℕ → List ℕ
rewrite_leaves s r out =
    write_leaves (jobs_in r.jobs) r.count (joined r.count (label_of s)) (cabinet r.modules r.changeover) out
