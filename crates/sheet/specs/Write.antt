-- What writing answers and leaves in the lent buffer (requirements, S and C).
use Rattle.std.specs.Prelude.{cond, List, [], ◌∷◌, ◌++◌, ℕ, eqb, length, drop}
use Rattle.checking.specs.Checking.{Check, first_failing}
use Rattle.sheet_format.specs.declared.Job.{Job}
use Rattle.sheet.specs.declared.Written.{Written}
use Rattle.sheet_format.specs.Format.{sheet_bytes}
use Rattle.sheet_format.specs.declared.Cabinet.{Cabinet}
use Rattle.sheet_format.specs.Checks.{figure_checks, content_checks, too_short}

-- writing checks 2, 3, 19, 5, 6, 7, 10; the last against the room in the lent buffer
abbrev pub write_checks : (ℕ → Job) → ℕ → List ℕ → Cabinet → ℕ → List Check
write_checks jobs n labels C room =
    figure_checks n C ++ (content_checks n jobs labels ++ ((10, too_short n labels room) ∷ []))

abbrev pub write_refusal : (ℕ → Job) → ℕ → List ℕ → Cabinet → ℕ → ℕ
write_refusal jobs n labels C room = first_failing (write_checks jobs n labels C room)

-- the answer: the sheet's length; refused: the number, and the length 0
unfoldable pub write_answer : (ℕ → Job) → ℕ → List ℕ → Cabinet → List ℕ → Written
write_answer jobs n labels C out =
    cond (eqb (write_refusal jobs n labels C (length out)) 0)
    (record { refusal = 0; length = length (sheet_bytes jobs n labels C) })
    (record { refusal = write_refusal jobs n labels C (length out); length = 0 })

-- bytes written over the front of a buffer: those behind them keep their contents
abbrev pub over : List ℕ → List ℕ → List ℕ
over bytes out = bytes ++ drop (length bytes) out

-- the lent buffer afterwards: the sheet over its front; refused: no byte is written
unfoldable pub write_leaves : (ℕ → Job) → ℕ → List ℕ → Cabinet → List ℕ → List ℕ
write_leaves jobs n labels C out =
    cond (eqb (write_refusal jobs n labels C (length out)) 0)
    (over (sheet_bytes jobs n labels C) out)
    out
