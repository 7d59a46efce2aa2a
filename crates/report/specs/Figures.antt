-- Figures that are printed, and how large they are.
use Rattle.std.specs.Prelude.{List, ℕ, ◌^◌, ◌<◌, nat_abs}
use Rattle.bits.specs.Bits.{set_of}
use Rattle.schedule.specs.Plan.{Sheet, Plan, finish, plan_end}
use Rattle.card.specs.Card.{lateness_of}
use Rattle.plan_text.specs.Printed.{departure_of}

-- every figure of a plan P of the sheet S that the bytes s read as is below 100000, where `decimal_is` and `signed_is` say that its digits
-- are printed, and every set of modules below 2 ^ 64, where `hexadecimal_is` does
pub record Small (s : List ℕ) (S : Sheet) (P : Plan) : Type 0 where
  pub end : plan_end S P < 100000
  pub jobs : S.jobs < 100000
  pub modules : S.modules < 100000
  pub starts : (j : ℕ) → j < S.jobs → P.start j < 100000
  pub finishes : (j : ℕ) → j < S.jobs → finish S P j < 100000
  pub late : (j : ℕ) → j < S.jobs → nat_abs (lateness_of (finish S P j) (departure_of s j)) < 100000
  pub sets : (j : ℕ) → j < S.jobs → set_of S.modules (P.uses j) < 2 ^ 64
