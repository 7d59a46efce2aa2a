-- `free_modules::with_busy` meets its contract.
use mathlib.Core.Path.{◌≡◌, sym}
use mathlib.Core.Bool.{false}
use lib.Dec.{ltb}
use lib.Bits.{or_zero_r}
use borrow.Author.Tests.{le-ltb}
use Rattle.free_modules.proofs.with_busy.Goals as goal

pub returns-else-t-until : goal.returns-else-t-until
returns-else-t-until c =
    let a = c.args in
    let e : ltb a.t a.until ≡ false = le-ltb a.t a.until c.if-t-until.false in
    rw e (sym (or_zero_r a.set))
