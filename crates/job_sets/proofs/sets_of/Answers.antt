-- `job_sets::sets_of` meets its contract.
use Prim.Native.Nat.{◌^◌, ◌≤◌}
use native.Mathlib.Omega.{arith}
use lib.Pow.{pow_pos, pow_mono}
use Rattle.bits.proofs.Digits.{one_shl}
use Rattle.tables.specs.Tables.{sheet_of}
use Rattle.job_sets.proofs.Counted.{among_all}
use Rattle.job_sets.proofs.sets_of.Goals as goal

pub overflow_sub-count : goal.overflow_sub-count
overflow_sub-count c =
    let few : c.count.result ≤ 20 = omega (arith, c.count.ensures, c.requires.0) in
    rw (one_shl 32 c.count.result (omega (arith, few))) (pow_pos c.count.result)

pub sets_among-requires : goal.sets_among-requires
sets_among-requires c =
    let few : c.count.result ≤ 20 = omega (arith, c.count.ensures, c.requires.0) in
    let m : 2 ^ c.count.result ≤ 2 ^ 20 = pow_mono few in
    rw (one_shl 32 c.count.result (omega (arith, few))) (omega (arith, pow_pos c.count.result))

pub returns : goal.returns
returns c =
    let few : c.count.result ≤ 20 = omega (arith, c.count.ensures, c.requires.0) in
    let count = c.count in
    let among = c.sets_among.ensures in
    among_all (sheet_of c.args.jobs.now) c.requires.1 _ _ c.marks_of-marks.ensures _
    (rw (one_shl 32 count.result (omega (arith, few)), count.ensures) at among)
