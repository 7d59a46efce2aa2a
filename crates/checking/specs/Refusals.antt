-- The numbers of the refusals (requirements, C).
use Rattle.std.specs.Prelude.{ℕ, Result, Ok, Err}
use Rattle.checking.specs.declared.Refusal.{Refusal}
use Rattle.checking.specs.declared.Refusal.TheVariants.{SheetLength, TooManyJobs, ModuleCount, RecordOffset, WrongRecord, LabelLengths, WrongLabel, OverWide, Circular, ShortBuffer, ControllerCount, WrongShares}
use Rattle.checking.specs.declared.Refusal.TheVariants.{SharesAboveLimit, NotThere, NoPower, AboveCeiling, AboveLimit, AboveHolding, LongChangeover, NoCountServes}
use Rattle.checking.specs.declared.Refusal.TheVariants.{HoldingAboveCeiling, HoldingsAboveLimit, NoJobs, ModuleSize, WrongController, WrongCard}

-- the number of each check that a call can refuse by
abbrev pub number_of : Refusal → ℕ
number_of SheetLength = 1
number_of TooManyJobs = 2
number_of ModuleCount = 3
number_of RecordOffset = 4
number_of WrongRecord = 5
number_of LabelLengths = 6
number_of WrongLabel = 7
number_of OverWide = 8
number_of Circular = 9
number_of ShortBuffer = 10
number_of ControllerCount = 11
number_of WrongShares = 12
number_of SharesAboveLimit = 13
number_of NotThere = 14
number_of NoPower = 15
number_of AboveCeiling = 16
number_of AboveLimit = 17
number_of AboveHolding = 18
number_of LongChangeover = 19
number_of NoCountServes = 20
number_of HoldingAboveCeiling = 21
number_of HoldingsAboveLimit = 22
number_of NoJobs = 23
number_of ModuleSize = 24
number_of WrongController = 25
number_of WrongCard = 26

-- the number that a call answers: that of its refusal, and 0 where it refuses nothing
abbrev pub refusal_number : {T : Type 0} → Result T Refusal → ℕ
refusal_number (Ok x) = 0
refusal_number (Err r) = number_of r
