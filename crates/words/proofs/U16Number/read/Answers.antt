use native.Mathlib.Nat.{add-zero}
use native.Mathlib.Omega.{arith}
use Rattle.words.specs.Words.{number_at}
use Rattle.words.proofs.U16Number.read.Goals as goal

pub returns : goal.returns
unfolding number_at
returns c = simp add-zero (omega arith)
