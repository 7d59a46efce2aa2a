-- `records::write_one` meets its contract.
use mathlib.Core.Path.{refl}
use mathlib.Core.List.{[], ◌∷◌}
use native.Mathlib.Omega.{arith}
use lib.ListN.{length-set}
use lib.Seq.{sets-eq}
use Rattle.sheet_format.specs.Format.{record_bytes}
use Rattle.sheet_format.proofs.Parts.{four_numbers}
use Rattle.records.proofs.write_one.Goals as goal

pub write-requires : goal.write-requires
write-requires c = simp length-set (omega arith)

pub write-requires-2 : goal.write-requires-2
write-requires-2 c =
    omega (arith, simp length-set at c.write.auto.s)

pub write-requires-3 : goal.write-requires-3
write-requires-3 c =
    omega (arith, c.write-2.auto.s, simp length-set at c.write.auto.s)

pub write-requires-4 : goal.write-requires-4
write-requires-4 c =
    omega (arith, c.write-3.auto.s, c.write-2.auto.s, simp length-set at c.write.auto.s)

pub shape_of-part : goal.shape_of-part
shape_of-part c =
    omega (
      arith,
      c.write-4.auto.s,
      c.write-3.auto.s,
      c.write-2.auto.s,
      simp length-set at c.write.auto.s,
    )

pub returns : goal.returns
unfolding record_bytes
returns c =
    let j = c.args.job in
    let front = j.label_len ∷ j.modules ∷ [] in
    four_numbers c.args.part.now front _ _ _ _ _ 2 2 4 2 2 j.minutes j.earlier j.departure j.arrival refl
    c.requires (sets-eq front c.args.part.now 0 (omega arith)) c.write.ensures c.write-2.ensures
    c.write-3.ensures c.write-4.ensures
