-- The figures of a desk, in hundreds of watts: requirements, K and F-6. Controllers are numbered from 0; a figure past the end of a list is 0.
use Rattle.std.specs.Prelude.{not, List, ◌++◌, ℕ, max, eqb, length, get_or, set, drop, replicate}
use Rattle.counting.specs.Counting.{only, sum}
use Rattle.desk.specs.declared.Desk.{Desk}

-- a feeder limit L "from 1 to 400,000" hundreds of watts (F-6), "for 2 to 8 controllers"
abbrev pub most_power : ℕ
most_power = 400000

abbrev pub fewest_controllers : ℕ
fewest_controllers = 2

abbrev pub most_controllers : ℕ
most_controllers = 8

-- ---- a controller's figures

abbrev pub holding : Desk → ℕ → ℕ
holding d i = get_or d.held i 0

abbrev pub assured_share : Desk → ℕ → ℕ
assured_share d i = get_or d.assured i 0

abbrev pub ceiling_of : Desk → ℕ → ℕ
ceiling_of d i = get_or d.ceiling i 0

-- "the larger of its holding and its assured share"
abbrev pub reserved : Desk → ℕ → ℕ
reserved d i = max (holding d i) (assured_share d i)

-- "for every other controller the larger of its holding and its assured share", added up
abbrev pub reserved_for_others : Desk → ℕ → ℕ
reserved_for_others d c = sum d.count (λ i. only (not (eqb i c)) (reserved d i))

-- ---- desks

-- "In a list of fixed length, places past the last … controller are 0."
abbrev pub zeros : List ℕ
zeros = replicate most_controllers 0

abbrev pub padded : List ℕ → List ℕ
padded l = l ++ drop (length l) zeros

-- the desk as it is opened: nobody holds anything
abbrev pub new_desk : ℕ → List ℕ → List ℕ → Desk
new_desk limit assured ceilings = record {
  count = length assured;
  limit = limit;
  held = zeros;
  assured = padded assured;
  ceiling = padded ceilings;
}

-- "every other figure of the answer is 0 (a refused opening's desk included)"
abbrev pub no_desk : Desk
no_desk = record { count = 0; limit = 0; held = zeros; assured = zeros; ceiling = zeros }

-- the desk on which controller c holds h, and all else is as on d
abbrev pub with_holding : Desk → ℕ → ℕ → Desk
with_holding d c h = record {
  count = d.count;
  limit = d.limit;
  held = set d.held c h;
  assured = d.assured;
  ceiling = d.ceiling;
}

-- F-7: the desk with a new limit, new shares and new ceilings: "all holdings carry over"
abbrev pub with_figures : Desk → ℕ → List ℕ → List ℕ → Desk
with_figures d limit assured ceilings = record {
  count = d.count;
  limit = limit;
  held = d.held;
  assured = padded assured;
  ceiling = padded ceilings;
}
