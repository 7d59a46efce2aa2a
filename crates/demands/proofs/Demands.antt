-- The demands R-1, R-2 and R-3, proved: each sentence is a theorem of the crate that it speaks of.
use mathlib.Core.Path.{◌≡◌, refl, sym, subst, ◌∙◌}
use mathlib.Core.Logic.{◌≢◌}
use mathlib.Core.List.{List}
use Prim.Native.Nat.{ℕ}
use lib.ListN.{length}
use borrow.Author.Tests.{ne_eqb}
use Rattle.checking.proofs.Order.{answered_exactly}
use Rattle.sheet.proofs.Answers.{read_number}
use Rattle.sheet.proofs.Refusals.{read-refused, read-answered, label-refused, label-answered}
use Rattle.sheet.proofs.Refusals.{write-refused, write-answered, write-refused_leaves}
use Rattle.sheet.proofs.WrittenReads.{written_reads, written_label}
use Rattle.sheet.proofs.ReadIsWritten.{read_is-written, read_is-written_bytes}
use Rattle.sheet.specs.Label.{label_place}
use Rattle.planable.specs.Planable.{planable_checks, planable_refusal, work_after}
use Rattle.planable.proofs.Planable.{planable-refused, planable-answered}
use Rattle.planner.specs.Planning.{plan_checks, plan_refusal, card_after}
use Rattle.planner.proofs.Planning.{plan-refused, plan-answered, no_plan_exactly}
use Rattle.planner.proofs.Granted.{card-granted, card_all-granted}
use Rattle.earliest.proofs.Promised.{end_number}
use Rattle.usage.specs.Usage.{use_checks, use_refusal}
use Rattle.usage.proofs.Promised.{use_number, use-refused, use_passed}
use Rattle.job_sets.proofs.Answers.{sets_number}
use Rattle.slack.proofs.Promised.{slack_number}
use Rattle.limited.proofs.Promised.{limited-answered}
use Rattle.sizing.specs.Sizing.{size_checks, size_refusal, size_card_after}
use Rattle.sizing.proofs.Refusals.{size-refused}
use Rattle.desk.specs.declared.Desk.{Desk}
use Rattle.desk.specs.Calls.{opened, Call, claim, hand_back, look, change, refusal_of}
use Rattle.lent.specs.Lent.{opened_over}
use Rattle.desk.proofs.Refusals.{open-refused, open-answered, claim-refused, claim-answered, hand_back-refused, hand_back-answered}
use Rattle.desk.proofs.Refusals.{look-refused, look-answered, change-refused, change-answered}
use Rattle.desk.proofs.Claims.{claim-granted_when}
use Rattle.desk.proofs.Holdings.{holdings-add_up, holdings_within}
use Rattle.desk.proofs.Lists.{refused_leaves, reachable_by_calls}
use Rattle.runner.specs.Runner.{started}
use Rattle.runner.proofs.Theorems.{start-refused, start-answered, refused-step_leaves}
use Rattle.demands.specs.Demands.{FirstRefusal, checks_of, EveryCallAnswers, EveryAnswerIsRight, NoneEarlierAndGranted}

-- the calls that check as planning does, but 10
planable_refusal_lem : (s : List ℕ) (n : ℕ) → n ≡ planable_refusal s → FirstRefusal n (planable_checks s)
planable_refusal_lem s n e = subst (λ (k : ℕ). FirstRefusal k (planable_checks s)) (sym e) (planable-refused s, planable-answered s)

-- refused, the working memory is as before
memory_kept : (n : ℕ) → n ≢ 0 → (work : List ℕ) → work_after n work ≡ work
unfolding work_after
memory_kept n e work = rw (ne_eqb n 0 e)

-- a call on the desk gives the first of its checks that fails
call_refusal : (d : Desk) (x : Call) → FirstRefusal (refusal_of d x) (checks_of d x)
call_refusal d (claim c k) = (claim-refused d c k, claim-answered d c k)
call_refusal d (hand_back c k) = (hand_back-refused d c k, hand_back-answered d c k)
call_refusal d (look c) = (look-refused d c, look-answered d c)
call_refusal d (change l a t) = (change-refused d l a t, change-answered d l a t)

-- R-1: every call answers, and a refused one changes nothing.
pub every_call-answers : EveryCallAnswers
unfolding label_place plan_refusal card_after size_refusal size_card_after opened_over started
every_call-answers = record {
  reads = λ s. (read-refused s, read-answered s);
  labels = λ s job. (label-refused s job, label-answered s job);
  writes = λ jobs n labels C out. (write-refused jobs n labels C out, write-answered jobs n labels C out);
  plans = λ s room. (plan-refused s room, answered_exactly (plan_checks s room) refl);
  sizes = λ s t room. (size-refused s t room, answered_exactly (size_checks s t room) refl);
  ends = λ s. planable_refusal_lem s _ (end_number s);
  uses = λ s. subst (λ (k : ℕ). FirstRefusal k (use_checks s)) (sym (use_number s)) (use-refused s, use_passed s);
  sets = λ s. planable_refusal_lem s _ (sets_number s);
  slack = λ s. planable_refusal_lem s _ (slack_number s);
  opens = λ limit assured ceilings. (open-refused limit assured ceilings, open-answered limit assured ceilings);
  calls = call_refusal;
  starts = λ s card d c size. (start-refused s card d c size, start-answered s card d c size);
  refused_write = λ jobs n labels C out e. (write-refused_leaves jobs n labels C out e).0;
  refused_plan = λ s card memory e. (rw (ne_eqb (plan_refusal s (length card)) 0 e), memory_kept (plan_refusal s (length card)) e memory);
  refused_size = λ s card memory t e.
      (rw (ne_eqb (size_refusal s t (length card)) 0 e), memory_kept (size_refusal s t (length card)) e memory);
  refused_end = λ s work e. memory_kept (planable_refusal s) (λ z. e (end_number s ∙ z)) work;
  refused_use = λ s work e. memory_kept (use_refusal s) (λ z. e (use_number s ∙ z)) work;
  refused_slack = λ s work e. memory_kept (planable_refusal s) (λ z. e (slack_number s ∙ z)) work;
  refused_opening = λ d limit assured ceilings e. rw (ne_eqb (opened limit assured ceilings).refusal 0 e);
  refused_call = refused_leaves;
  refused-step = refused-step_leaves;
}

-- R-2: every answer is the right one.
pub every_answer_is_right : EveryAnswerIsRight
every_answer_is_right = record {
  read_back = λ jobs n labels C out e.
      (written_reads jobs n labels C out e, λ i l. (written_label jobs n labels C out e i l).1);
  rewritten = λ s out bytes e room. (read_is-written s bytes e out room, read_is-written_bytes s bytes e out room);
  valid = λ s card e. (plan-answered s card e).1.valid;
  tie_ruled = λ s card e. let a = plan-answered s card e in (a.0, a.1.best, a.1.written);
  limited = limited-answered;
  claims = λ d r c l k one. claim-granted_when d ((reachable_by_calls d).1 r) c l k one;
  holdings = λ limit assured ceilings e calls c. holdings-add_up limit assured ceilings e calls c;
  within = λ limit assured ceilings e calls. holdings_within limit assured ceilings e calls;
}

-- R-3: no valid plan ends earlier, a sheet is refused exactly when it has none, and our plan is granted.
pub none_earlier-and-granted : NoneEarlierAndGranted
none_earlier-and-granted = record {
  earliest = λ s card e. (plan-answered s card e).1.earliest;
  refused_exactly = λ s room e. no_plan_exactly s room (sym (read_number s) ∙ e);
  granted = λ s card e size one d r. card-granted s card e size one d ((reachable_by_calls d).1 r);
  all-granted = λ s card e size one d r. card_all-granted s card e size one d ((reachable_by_calls d).1 r);
}
