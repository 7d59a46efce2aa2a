-- `card_check::times_named` meets its contract.
use mathlib.Core.Bool.{Bool}
use mathlib.Core.List.{List}
use mathlib.Core.Path.{◌≡◌}
use Prim.Native.Nat.{ℕ, ◌+◌}
use lib.Dec.{eqb}
use lib.ListN.{get_or}
use Rattle.counting.specs.Counting.{count}
use Rattle.card.specs.Card.{order_at}
use Rattle.card_check.proofs.times_named.Given as goal

-- whether place k names job j
abbrev pub names : List ℕ → ℕ → ℕ → ℕ → Bool
names card n j k = eqb (get_or card (order_at n + k) 0) j

abbrev pub invariant-loop-k : goal.invariant-loop-k
invariant-loop-k l = l.times ≡ count l.k (names l.card l.n l.j)
