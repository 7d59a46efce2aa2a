-- What a part-plan says.
use Rattle.std.specs.Prelude.{ℕ, List, take}
use Rattle.tables.specs.declared.Part.{Part}

-- the jobs in the order in which they were placed
abbrev pub word_of : Part → List ℕ
word_of p = take p.placed p.order
