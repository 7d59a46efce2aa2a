-- `sheet::read_records` meets its contract: after each record the pass knows what `After` says of the jobs that the answer has so far.
use mathlib.Core.Path.{◌≡◌, refl, sym, ap, ◌∙◌}
use mathlib.Core.Bool.{◌||◌}
use mathlib.Core.List.{List}
use Prim.Native.Nat.{ℕ}
use native.Mathlib.Omega.{arith}
use lib.ListN.{take, set}
use Rattle.checking.specs.Checking.{first_failing}
use Rattle.sheet_format.specs.Format.{job_from, offset_of, count_of, cabinet_of}
use Rattle.sheet_format.specs.declared.Cabinet.{Cabinet}
use Rattle.sheet_format.specs.Checks.{trailer_checks, content_checks}
use Rattle.sheet.specs.declared.Reading.{Reading}
use Rattle.sheet.specs.Read.{read_refusal}
use Rattle.sheet.proofs.Answers.{trailer, content_is, answer_is, refused_late, read_whole}
use Rattle.sheet.proofs.Pass.{after_none, after_more, labels_long, finds_5, finds_6, finds_7, finds-none, jobs_all, records_there}
use Rattle.sheet.proofs.read_records.Goals as goal

-- the first refusal behind the trailer's checks: that of 5 to 7
behind : (s : List ℕ) (offset n : ℕ) {C : Cabinet}
    → (first_failing (trailer_checks s) ≡ 0) × (offset ≡ offset_of s) × (n ≡ count_of s) × (C ≡ cabinet_of s) → (k : ℕ)
    → k ≡ first_failing (content_checks n (job_from s offset) (take offset s)) → k ≡ read_refusal s
behind s offset n pre k e =
    refused_late s (first_failing (trailer_checks s)) refl pre.0 k (content_is s n offset k pre.2 pre.1 e)

pub loop-i-init : goal.loop-i-init
loop-i-init c =
    let a = c.args in
    let s = a.sheet.now in
    let t = records_there s a.offset a.count (trailer s (first_failing (trailer_checks s)) refl c.requires.0) c.requires.1 c.requires.2 in
    (after_none s a.offset a.count t.0 t.1 c.no_jobs-jobs.result c.no_jobs-jobs.ensures, refl)

pub returns-then-faulty : goal.returns-then-faulty
returns-then-faulty c =
    let v = c.loop-i in
    let a = c.args in
    let s = a.sheet.now in
    record {
      refusal = behind s a.offset a.count c.requires 5
          (finds_5 s a.offset a.count v.i v.answer.jobs v.total v.wrong v.invariant.0
          c.read_one-job.result c.loop-i-test.true c.read_one-job.ensures (sym c.faulty.ensures ∙ c.if-faulty.true));
      answer = tt;
    }

pub slice_bounds-wrong_between-end : goal.slice_bounds-wrong_between-end
slice_bounds-wrong_between-end c =
    let v = c.loop-i in
    let a = c.args in
    sym (labels_long a.sheet.now a.offset a.count v.i v.answer.jobs v.total v.wrong v.invariant.0)

pub loop-i-preserved : goal.loop-i-preserved
loop-i-preserved c =
    let v = c.loop-i in
    let a = c.args in (
      after_more a.sheet.now a.offset a.count v.i v.answer.jobs v.total v.wrong v.invariant.0
          c.read_one-job.result c.label_length.result c.wrong_between-wrong.result (v.wrong || c.wrong_between-wrong.result)
          c.loop-i-test.true c.read_one-job.ensures (sym c.faulty.ensures ∙ c.if-faulty.false) c.label_length.ensures
          c.wrong_between-wrong.ensures refl,
      ap (λ (r : Reading). record {
        refusal = r.refusal;
        jobs = set v.answer.jobs v.i c.read_one-job.result;
        count = r.count;
        modules = r.modules;
        changeover = r.changeover;
      }) v.invariant.1,
    )

pub returns-then-total-offset : goal.returns-then-total-offset
returns-then-total-offset c =
    let v = c.loop-i in
    let a = c.args in
    let s = a.sheet.now in
    let e : v.i ≡ a.count = omega (arith, v.invariant.0.at) in
    record {
      refusal = behind s a.offset a.count c.requires 6 (finds_6 s a.offset a.count v.i v.answer.jobs v.total v.wrong v.invariant.0 e c.if-total-offset.true);
      answer = tt;
    }

pub returns-then-wrong : goal.returns-then-wrong
returns-then-wrong c =
    let v = c.loop-i in
    let a = c.args in
    let s = a.sheet.now in
    let e : v.i ≡ a.count = omega (arith, v.invariant.0.at) in
    record {
      refusal = behind s a.offset a.count c.requires 7
          (finds_7 s a.offset a.count v.i v.answer.jobs v.total v.wrong v.invariant.0 e c.if-total-offset.false c.if-wrong.true);
      answer = tt;
    }

pub returns : goal.returns
returns c =
    let v = c.loop-i in
    let a = c.args in
    let s = a.sheet.now in
    let e : v.i ≡ a.count = omega (arith, v.invariant.0.at) in
    let k = finds-none s a.offset a.count v.i v.answer.jobs v.total v.wrong v.invariant.0 e c.if-total-offset.false c.if-wrong.false in
    record {
      refusal = behind s a.offset a.count c.requires 0 k;
      answer = v.invariant.1
          ∙ answer_is s a.count a.offset a.cabinet v.answer.jobs c.requires.2 c.requires.1 c.requires.3
          (jobs_all s a.offset a.count v.i v.answer.jobs v.total v.wrong v.invariant.0 e)
          ∙ read_whole s (first_failing (trailer_checks s)) refl c.requires.0 0
          (content_is s a.count a.offset 0 c.requires.2 c.requires.1 k) refl;
    }
