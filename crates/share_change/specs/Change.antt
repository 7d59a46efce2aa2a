-- What a change hands back: the desk as it was, or its holdings on the figures of a new desk.
use Rattle.std.specs.Prelude.{cond, ℕ}
use Rattle.counting.specs.Counting.{every}
use Rattle.desk.specs.declared.Desk.{Desk}
use Rattle.desk.specs.declared.Booked.{Booked}
use Rattle.desk.specs.Desk.{most_controllers}
use Rattle.desk.specs.Checks.{place_ok_at, desk_ok}

-- a refused call: its number, and the desk as it was
abbrev pub refused_with : Desk → ℕ → Booked
refused_with d n = record { refusal = n; desk = d }

-- the holdings of d on the figures of e
abbrev pub carried_over : Desk → Desk → Desk
carried_over d e = record { count = d.count; limit = e.limit; held = d.held; assured = e.assured; ceiling = e.ceiling }

-- that desk, if its places are right and it can be: where d can be and e was opened for as many controllers, a place is wrong exactly when
-- a holding exceeds its ceiling (21), and the desk cannot be exactly when the raised holdings exceed the limit (22)
unfoldable pub taken_over : Desk → Desk → Booked
taken_over d e =
    cond (every most_controllers (place_ok_at (carried_over d e)))
    (cond (desk_ok (carried_over d e)) (record { refusal = 0; desk = carried_over d e }) (refused_with d 22))
    (refused_with d 21)
