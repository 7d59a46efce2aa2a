-- No refusal has the number 0, which says that nothing is refused.
use mathlib.Core.Logic.{◌≢◌}
use native.Mathlib.Omega.{arith}
use Rattle.checking.specs.Refusals.{number_of}
use Rattle.checking.specs.declared.Refusal.{Refusal}
use Rattle.checking.specs.declared.Refusal.TheVariants.{SheetLength, TooManyJobs, ModuleCount, RecordOffset, WrongRecord, LabelLengths, WrongLabel, OverWide, Circular, ShortBuffer, ControllerCount, WrongShares}
use Rattle.checking.specs.declared.Refusal.TheVariants.{SharesAboveLimit, NotThere, NoPower, AboveCeiling, AboveLimit, AboveHolding, LongChangeover, NoCountServes}
use Rattle.checking.specs.declared.Refusal.TheVariants.{HoldingAboveCeiling, HoldingsAboveLimit, NoJobs, ModuleSize, WrongController, WrongCard}

pub number-some : (r : Refusal) → number_of r ≢ 0
number-some SheetLength e = omega arith
number-some TooManyJobs e = omega arith
number-some ModuleCount e = omega arith
number-some RecordOffset e = omega arith
number-some WrongRecord e = omega arith
number-some LabelLengths e = omega arith
number-some WrongLabel e = omega arith
number-some OverWide e = omega arith
number-some Circular e = omega arith
number-some ShortBuffer e = omega arith
number-some ControllerCount e = omega arith
number-some WrongShares e = omega arith
number-some SharesAboveLimit e = omega arith
number-some NotThere e = omega arith
number-some NoPower e = omega arith
number-some AboveCeiling e = omega arith
number-some AboveLimit e = omega arith
number-some AboveHolding e = omega arith
number-some LongChangeover e = omega arith
number-some NoCountServes e = omega arith
number-some HoldingAboveCeiling e = omega arith
number-some HoldingsAboveLimit e = omega arith
number-some NoJobs e = omega arith
number-some ModuleSize e = omega arith
number-some WrongController e = omega arith
number-some WrongCard e = omega arith
