-- `records::write_all` meets its contract: the first i records stand in front, and behind them what was there.
use mathlib.Core.Path.{◌≡◌}
use mathlib.Core.List.{List, ◌++◌}
use Prim.Native.Nat.{ℕ, ◌*◌}
use lib.ListN.{length, drop}
use Rattle.counting.specs.Counting.{joined}
use Rattle.sheet_format.specs.declared.Job.{Job}
use Rattle.sheet_format.specs.Figures.{record_size}
use Rattle.sheet_format.specs.Format.{record_bytes, jobs_in}
use Rattle.records.proofs.write_all.Given as goal

-- the bytes of the first n records
abbrev pub written : List Job → ℕ → List ℕ
written jobs n = joined n (λ i. record_bytes (jobs_in jobs i))

abbrev pub invariant-loop-i : goal.invariant-loop-i
invariant-loop-i l =
    (l.part ≡ written l.jobs l.i ++ drop (record_size * l.i) l.initial.part) × (length l.part ≡ length l.initial.part)
