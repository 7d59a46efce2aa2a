-- F-11: the test of a runner is true of the runners that an accepted start and later steps can leave, and of no others; and after an
-- accepted start every step is granted.
use mathlib.Core.Path.{◌≡◌, refl, sym, ap, subst, ◌∙◌}
use mathlib.Core.Logic.{⊎_elim, ◌↔◌, ◌≢◌}
use mathlib.Core.Bool.{true}
use mathlib.Core.List.{List}
use Prim.Native.Nat.{ℕ, zero, suc, ◌+◌, ◌-◌, ◌*◌, ◌≤◌, ◌<◌, zero-le}
use native.Mathlib.Omega.{arith}
use native.Mathlib.Nat.{one-le-mul, zero-mul}
use native.Mathlib.Numerals.{add-one}
use lib.Dec.{leb, eqb}
use lib.ListN.{length, set, replicate, length-replicate, get_or-replicate, length-set}
use lib.Seq.{take-append_seam, get_or-set_same, get_or-set_other}
use borrow.Author.Tests.{eq-eqb, ne_eqb, leb-true, le-leb, lt-leb, lt-ltb, le-ltb}
use Rattle.counting.specs.Counting.{only}
use Rattle.counting.proofs.Tests.{same_or_not, and_left, and_right, and_both}
use Rattle.counting.proofs.Sums.{sum_same, sum_single, sum-zero}
use Rattle.schedule.specs.Plan.{Sheet, Plan}
use Rattle.sheet_format.specs.Figures.{longest_sheet}
use Rattle.planable.specs.Planable.{sheet_in, planable_refusal}
use Rattle.planable.proofs.Planable.{passes}
use Rattle.planable.proofs.Tables.{some_read}
use Rattle.card_check.specs.Test.{card_fits}
use Rattle.desk.specs.declared.Desk.{Desk}
use Rattle.desk.specs.Desk.{most_power, most_controllers, assured_share, ceiling_of, reserved, zeros}
use Rattle.desk.specs.Checks.{not_of_desk}
use Rattle.desk.proofs.Sound.{Sound, of-desk_says, of-desk, range_says}
use Rattle.desk.proofs.Reaches.{reached_sound, sound_reached}
use Rattle.desk.proofs.Padded.{zero-at}
use Rattle.assurance.specs.Following.{plan_need}
use Rattle.assurance.specs.Minutes.{last_minute, held_before}
use Rattle.runner.specs.declared.Runner.{Runner}
use Rattle.runner.specs.Runner.{longest_card, largest_size, kept_sheet, kept_card, sheet_of, plan_of, new_runner, with_minute}
use Rattle.runner.specs.Runner.{start_refusal, next_minute, kept_ok, runner_ok, stepped}
use Rattle.runner.specs.Reachable.{LeftBySteps, starting, stepping}
use Rattle.runner.specs.Moves.{Move, StepsGranted}
use Rattle.runner.proofs.Places.{zeros-behind, front_length, front-placed}
use Rattle.runner.proofs.Passes.{StartPasses, start_says, start_passes, sheet-room, card-room, Kept, kept_says, kept_ok_lem}
use Rattle.runner.proofs.Running.{Running, own-step, own_running, first-none, goes_on, granted_runner, steps-granted}

-- ---- the least desk on which a controller is assured p

abbrev desk_for : ℕ → ℕ → Desk
desk_for c p = record {
  count = most_controllers;
  limit = p;
  held = zeros;
  assured = set zeros c p;
  ceiling = replicate most_controllers p;
}

module _ (c p : ℕ) (l : c < most_controllers) (one : 1 ≤ p) (most : p ≤ most_power) where
  abbrev d : Desk
  d = desk_for c p

  share_here : assured_share d c ≡ p
  share_here = get_or-set_same zeros c p 0 l

  share_else : (i : ℕ) → i ≢ c → assured_share d i ≡ 0
  share_else i n = get_or-set_other zeros c i p 0 n ∙ zero-at i

  reserved-only : (i : ℕ) → reserved d i ≡ only (eqb i c) p
  reserved-only i = ⊎_elim
      (λ (q : i ≡ c). let e : assured_share d i ≡ p = ap (assured_share d) q ∙ share_here in
      let z = zero-at i in rw (eq-eqb i c q) (omega arith))
      (λ n. let e = share_else i n in let z = zero-at i in rw (ne_eqb i c n) (omega arith)) (same_or_not i c)

  share_most : (i : ℕ) → assured_share d i ≤ p
  share_most i = ⊎_elim (λ (q : i ≡ c). let e : assured_share d i ≡ p = ap (assured_share d) q ∙ share_here in omega arith)
      (λ n. let e = share_else i n in omega arith) (same_or_not i c)

  for_sound : Sound d
  for_sound = record {
    lists = record { held = refl; assured = length-set zeros c p; ceiling = length-replicate most_controllers p };
    controllers = record { least = omega arith; most = omega arith };
    limit = record { least = one; most = most };
    places = λ i k.
        let t : ceiling_of d i ≡ p = get_or-replicate most_controllers i p 0 k in
        let z = zero-at i in
        let s = share_most i in
        record { share = omega arith; hold = omega arith; bound = rw (lt-ltb i most_controllers k) (omega arith) };
    total = omega (
      arith,
      sum_same most_controllers (reserved d) (λ i. only (eqb i c) p) (λ i k. reserved-only i),
      sum_single most_controllers (λ i. p) c l,
    );
  }

-- ---- both ways

nothing_before : (S : Sheet) (P : Plan) → held_before S P 0 ≡ 0
nothing_before S P = sum_same S.jobs _ (λ j. 0) (λ j l. rw (le-ltb (P.start j) 0 zero-le) refl) ∙ sum-zero S.jobs

-- what an accepted start keeps passes the test
started-kept : (s card : List ℕ) (d : Desk) (c size : ℕ) → StartPasses s card d c size → Kept (new_runner s card c size)
started-kept s card d c size f =
    let h = of-desk_says d c f.desk in
    let a = h.share in
    let b = h.ceiling in
    let m = h.most in
    let n = f.share in
    let ks = take-append_seam s (replicate (longest_sheet - length s) 0) in
    let kc = take-append_seam card (replicate (longest_card - length card) 0) in
    record {
      sheet = zeros-behind longest_sheet s (sheet-room s card d c size f);
      card = zeros-behind longest_card card (card-room s card d c size f);
      reads = ap planable_refusal ks ∙ f.sheet;
      size = f.sized;
      within = subst (λ (t : List ℕ). plan_need (sheet_in t) size ≤ most_power) (sym ks) (omega arith);
      number = h.inside;
      fits = ap (λ (t : List ℕ). card_fits (sheet_in t) (kept_card (new_runner s card c size))) ks
          ∙ ap (card_fits (sheet_in s)) kc ∙ f.fits;
    }

there : {r : Runner} → LeftBySteps r → runner_ok r ≡ true
unfolding runner_ok
there (starting s card d c size e) =
    let r = new_runner s card c size in
    and_both (kept_ok r) (leb 0 (last_minute (sheet_of r) (plan_of r)))
    (kept_ok_lem r (started-kept s card d c size (start_says s card d c size e))) (le-leb 0 (last_minute (sheet_of r) (plan_of r)) zero-le)
there (stepping {r = r} h d n f) = goes_on r (there h)

-- the other way: it is started on the least desk, and steps there
module _ (r : Runner) (k : Kept r) where
  abbrev p : ℕ
  p = plan_need (sheet_of r) r.size

  some : 1 ≤ p
  some = one-le-mul (some_read (kept_sheet r) (passes (kept_sheet r) k.reads).reads) (range_says 1 largest_size r.size k.size).least

  abbrev first : Desk
  first = desk_for r.controller p

  first_sound : Sound first
  first_sound = for_sound r.controller p k.number some k.within

  accepted : StartPasses (kept_sheet r) (kept_card r) first r.controller r.size
  accepted = record {
    sheet = k.reads;
    desk = of-desk first r.controller first_sound k.number;
    sized = k.size;
    share = omega (arith, share_here r.controller p k.number some k.within);
    none = zero-at r.controller;
    fits = k.fits;
  }

  restarted : new_runner (kept_sheet r) (kept_card r) r.controller r.size ≡ with_minute r 0
  restarted i = record {
    controller = r.controller;
    size = r.size;
    minute = 0;
    sheet_len = front_length longest_sheet r.sheet_len r.sheet k.sheet i;
    sheet = front-placed longest_sheet r.sheet_len r.sheet k.sheet i;
    card_len = front_length longest_card r.card_len r.card k.card i;
    card = front-placed longest_card r.card_len r.card k.card i;
  }

  ok_at : (t : ℕ) → t ≤ last_minute (sheet_of r) (plan_of r) → runner_ok (with_minute r t) ≡ true
  unfolding runner_ok kept_ok
  ok_at t l = and_both _ _ (kept_ok_lem r k) (le-leb t _ l)

  started : Running (with_minute r 0) first
  started = record {
    reachable = sound_reached first first_sound;
    counted = k.number;
    ok = ok_at 0 zero-le;
    ready = λ q. record {
      reachable = sound_reached first first_sound;
      share = omega (arith, share_here r.controller p k.number some k.within);
      holds = zero-at r.controller ∙ sym (ap (λ (x : ℕ). x * r.size) (nothing_before (sheet_of r) (plan_of r)) ∙ zero-mul r.size);
    };
  }

  not_yet : (t : ℕ) → t < last_minute (sheet_of r) (plan_of r) → next_minute (with_minute r t) ≡ with_minute r (t + 1)
  not_yet t l = rw (lt-leb (last_minute (sheet_of r) (plan_of r)) t l) refl

  minutes : (t : ℕ) → t ≤ last_minute (sheet_of r) (plan_of r)
      → LeftBySteps (with_minute r t) × ((d : Desk) × Running (with_minute r t) d)
  minutes zero l = (
    subst LeftBySteps restarted (starting (kept_sheet r) (kept_card r) first r.controller r.size
        (start_passes (kept_sheet r) (kept_card r) first r.controller r.size accepted)),
    (first, started),
  )
  minutes (suc t) l =
      let m = minutes t (omega arith) in
      let d = m.1.0 in
      let h = m.1.1 in
      let q = with_minute r t in
      let g = own-step q d h in
      let n : next_minute q ≡ with_minute r (suc t) = not_yet t (omega arith) ∙ ap (with_minute r) (add-one t) in (
        subst LeftBySteps n (stepping m.0 d (of-desk d r.controller (reached_sound h.reachable) h.counted) (first-none q d h)),
        ((stepped d q).desk, subst (λ (x : Runner). Running x (stepped d q).desk) (granted_runner d q g ∙ n) (own_running q d h)),
      )

back : (r : Runner) → runner_ok r ≡ true → LeftBySteps r
unfolding runner_ok
back r e =
    let k = kept_says r (and_left (kept_ok r) (leb r.minute (last_minute (sheet_of r) (plan_of r))) e) in
    (minutes r k r.minute (leb-true _ _ (and_right (kept_ok r) (leb r.minute (last_minute (sheet_of r) (plan_of r))) e))).0

-- The test is true of the runners that an accepted start and later steps can leave, and of no others.
pub runner_when : (r : Runner) → (runner_ok r ≡ true) ↔ LeftBySteps r
runner_when r = (back r, λ h. there h)

-- ---- after an accepted start

pub started_running : (s card : List ℕ) (d : Desk) (c size : ℕ) → start_refusal s card d c size ≡ 0 → Running (new_runner s card c size) d
unfolding not_of_desk
started_running s card d c size e =
    let f = start_says s card d c size e in
    let h = of-desk_says d c f.desk in
    let r = new_runner s card c size in
    let ks = take-append_seam s (replicate (longest_sheet - length s) 0) in
    let k = sound_reached d h.sound in
    record {
      reachable = k;
      counted = h.counted;
      ok = there (starting s card d c size e);
      ready = λ q. record {
        reachable = k;
        share = subst (λ (t : List ℕ). plan_need (sheet_in t) size ≤ assured_share d c) (sym ks) f.share;
        holds = f.none ∙ sym (ap (λ (x : ℕ). x * size) (nothing_before (sheet_of r) (plan_of r)) ∙ zero-mul size);
      };
    }

-- F-11: "After a start that was accepted, every call it makes is granted", in whatever yard the runner stands as number i.
pub runner-granted : (s card : List ℕ) (d : Desk) (c size : ℕ) → start_refusal s card d c size ≡ 0
    → (runners : ℕ → Runner) (i : ℕ) → runners i ≡ new_runner s card c size → (l : List Move)
    → StepsGranted i (record { desk = d; runners = runners }) l
runner-granted s card d c size e runners i q l =
    steps-granted l (record { desk = d; runners = runners }) i
    (subst (λ (r : Runner). Running r d) (sym q) (started_running s card d c size e))
