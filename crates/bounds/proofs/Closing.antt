-- When a plan that ends by a target has given back all modules.
use mathlib.Core.Path.{◌≡◌}
use mathlib.Core.Logic.{◌≢◌}
use mathlib.Core.List.{List}
use Prim.Native.Nat.{ℕ, ◌+◌, min}
use native.Mathlib.Omega.{arith}
use Rattle.figures.specs.Figures.{no_minute}
use Rattle.tables.specs.declared.Jobs.{Jobs}
use Rattle.tables.specs.Tables.{changeover_of}

-- where it is a minute, all modules are given back a changeover behind the target
pub closes : (T : ℕ) (t : Jobs) {close : ℕ} → close ≡ min (T + changeover_of t) no_minute → close ≢ no_minute → close ≡ T + changeover_of t
closes T t e d = omega arith
