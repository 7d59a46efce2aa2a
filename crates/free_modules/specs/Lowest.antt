-- The lowest modules outside a set.
use Rattle.std.specs.Prelude.{Bool, not, ℕ}
use Rattle.bits.specs.Bits.{bit, set_of}
use Rattle.schedule.specs.ListPlan.{lowest}

-- the modules that are not in the set
abbrev pub outside : ℕ → ℕ → Bool
outside busy m = not (bit busy m)

-- the `want` lowest modules that are not in the set, of `modules`
abbrev pub lowest_outside : ℕ → ℕ → ℕ → ℕ
lowest_outside busy modules want = set_of modules (lowest modules (outside busy) want)
