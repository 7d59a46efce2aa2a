-- What opening and a look answer where a desk is kept: "A refusal gives its number; every lent byte and the desk are as before the call,
-- and every other figure of the answer is 0".
use Rattle.std.specs.Prelude.{cond, List, ℕ, eqb}
use Rattle.desk.specs.declared.Desk.{Desk}
use Rattle.desk.specs.declared.Booked.{Booked}
use Rattle.desk.specs.Calls.{opened, looked}
use Rattle.lent.specs.declared.Looked.{Looked}

-- opening where desk d is kept: the desk as it is opened, or d where opening is refused
unfoldable pub opened_over : Desk → ℕ → List ℕ → List ℕ → Booked
opened_over d limit assured ceilings = record {
  refusal = (opened limit assured ceilings).refusal;
  desk = cond (eqb (opened limit assured ceilings).refusal 0) (opened limit assured ceilings).desk d;
}

-- a look at the kept desk d: its number and its figure; refused, the figure is 0 (`refused_look`)
abbrev pub looked_at : Desk → ℕ → Looked
looked_at d c = record { refusal = (looked d c).refusal; power = (looked d c).power }
