-- The library's version as one number: major * 1000000 + minor * 1000 + patch. include/depot.h has it as DEPOT_VERSION_NUMBER.
use Rattle.std.specs.Prelude.{ℕ}

-- 0.14.0
abbrev pub version : ℕ
version = 14000
