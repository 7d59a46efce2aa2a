-- What printing reads of a sheet: at most 20 jobs, and labels of at most 16 bytes, whatever the bytes are.
use mathlib.Core.Path.{◌≡◌, refl}
use mathlib.Core.Bool.{Bool, true, false, cond}
use mathlib.Core.List.{List, []}
use Prim.Native.Nat.{ℕ, ◌≤◌}
use native.Mathlib.Omega.{arith}
use lib.Dec.{eqb}
use lib.ListN.{length, take, drop, length-take}
use borrow.Author.Tests.{eqb-true}
use Rattle.sheet_format.specs.Format.{label_length, count_of, cabinet_of, job_of}
use Rattle.sheet_format.proofs.Bounds.{legal}
use Rattle.sheet.specs.Read.{read_refusal, answered, refused, reading}
use Rattle.sheet.specs.Label.{label_refusal, label_start, label_of}
use Rattle.sheet.proofs.Answers.{reads}
use Rattle.sheet.proofs.Labels.{there}

pub few : (s : List ℕ) → (reading s).count ≤ 20
unfolding reading
few s = go (eqb (read_refusal s) 0) refl
  where
    go : (b : Bool) → eqb (read_refusal s) 0 ≡ b
        → (cond b (answered (count_of s) (job_of s) (cabinet_of s)) (refused (read_refusal s))).count ≤ 20
    go true e = (reads s (eqb-true (read_refusal s) 0 e)).trailer.figures.few
    go false e = omega arith

pub label_short : (s : List ℕ) (j : ℕ) → length (label_of s j) ≤ 16
unfolding label_of
label_short s j = go (eqb (label_refusal s j) 0) refl
  where
    go : (b : Bool) → eqb (label_refusal s j) 0 ≡ b
        → length (cond b (take (label_length (job_of s j)) (drop (label_start s j) s)) []) ≤ 16
    go true e =
        let t = there s j (label_refusal s j) refl (eqb-true (label_refusal s j) 0 e) in
        let l = legal (count_of s) (job_of s j) (t.sheet.sound j t.below) in
        simp length-take (omega arith)
    go false e = omega arith
