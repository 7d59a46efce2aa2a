-- Moves from order to order.
use Rattle.std.specs.Prelude.{List, ℕ, get_or, set}

-- the order with what stands at two places exchanged
abbrev pub exchanged_at : List ℕ → ℕ → ℕ → List ℕ
exchanged_at order a b = set (set order a (get_or order b 0)) b (get_or order a 0)
