-- F-6: a desk with every figure multiplied by the same s, and calls for s times as much, answer as before; a look shows s times as much.
use mathlib.Core.Path.{◌≡◌, refl, sym, ap, ◌∙◌}
use mathlib.Core.Bool.{Bool, true, false, cond}
use mathlib.Core.List.{List, [], ◌∷◌, map}
use Prim.Native.Nat.{ℕ, ◌+◌, ◌-◌, ◌*◌, ◌≤◌}
use native.Mathlib.Nat.{zero-mul, add-mul}
use lib.Dec.{eqb}
use lib.ListN.{length-map}
use Rattle.desk.specs.declared.Desk.{Desk}
use Rattle.desk.specs.Desk.{most_power, holding}
use Rattle.desk.specs.Desk.{new_desk, no_desk, with_holding, with_figures}
use Rattle.desk.specs.Calls.{open_refusal, opened, claim_refusal, claimed, hand_back_refusal, handed_back, looked}
use Rattle.desk.specs.Calls.{change_refusal, changed, Call, claim, hand_back, look, change, refusal_of, desk_after, desk_after_all}
use Rattle.desk.specs.Rows.{figure_of}
use Rattle.desk.specs.Scaling.{times, scaled, scaled_call, LimitsFit, answers, scaled_answers}
use Rattle.desk.proofs.Holdings.{one_only}
use Rattle.desk.proofs.ScaledDesk.{claim-times, hand_back-times, look-times, shown-times, change-times, figures-scaled, open-times}
use Rattle.desk.proofs.Times.{sub-times}
use Rattle.desk.proofs.Times.{at-times, set-times, padded-times, zeros-times}

module _ (s : ℕ) (one : 1 ≤ s) where
  -- ---- lists of calls

  -- A call on the scaled desk gives the old number, leaves the scaled desk, and shows s times the figure.
  record Scales (d : Desk) (x : Call) : Type 0 where
    pub refusal : refusal_of (scaled s d) (scaled_call s x) ≡ refusal_of d x
    pub desk : desk_after (scaled s d) (scaled_call s x) ≡ scaled s (desk_after d x)
    pub figure : figure_of (scaled s d) (scaled_call s x) ≡ figure_of d x * s

  held-scaled : (d : Desk) (c h : ℕ) → with_holding (scaled s d) c (h * s) ≡ scaled s (with_holding d c h)
  held-scaled d c h = ap (λ (l : List ℕ). record {
    count = d.count;
    limit = d.limit * s;
    held = l;
    assured = times s d.assured;
    ceiling = times s d.ceiling;
  }) (set-times s d.held c h)

  cond-scaled : (t : Bool) (e : Desk) (d : Desk) (f : Desk) → e ≡ scaled s f → cond t e (scaled s d) ≡ scaled s (cond t f d)
  cond-scaled true e d f q = q
  cond-scaled false e d f q = refl

  -- the call brings no limit that is out of bounds
  abbrev LimitFits : Call → Type 0
  LimitFits x = LimitsFit s (x ∷ [])

  call_scales : (d : Desk) → d.limit * s ≤ most_power → (x : Call) → LimitFits x → Scales d x
  unfolding claimed handed_back looked changed
  call_scales d b (claim c k) m = record {
    refusal = claim-times s one d b c k;
    desk = rw (claim-times s one d b c k) (cond-scaled (eqb (claim_refusal d c k) 0) _ d _
        (rw (at-times s d.held c, ← add-mul (holding d c) k s) (held-scaled d c (holding d c + k))));
    figure = sym (zero-mul s);
  }
  call_scales d b (hand_back c k) m = record {
    refusal = hand_back-times s one d b c k;
    desk = rw (hand_back-times s one d b c k) (cond-scaled (eqb (hand_back_refusal d c k) 0) _ d _
        (rw (at-times s d.held c, sub-times s (holding d c) k) (held-scaled d c (holding d c - k))));
    figure = sym (zero-mul s);
  }
  call_scales d b (look c) m = record { refusal = look-times s one d b c; desk = refl; figure = shown-times s one d b c }
  call_scales d b (change l a t) m = record {
    refusal = change-times s one d b l a t m.0;
    desk = rw (change-times s one d b l a t m.0)
        (cond-scaled (eqb (change_refusal d l a t) 0) _ d _ (figures-scaled s one d b l a t m.0));
    figure = sym (zero-mul s);
  }

  limit_cond : (t : Bool) (d : Desk) (l : ℕ) (a u : List ℕ) → d.limit * s ≤ most_power → l * s ≤ most_power
      → (cond t (with_figures d l a u) d).limit * s ≤ most_power
  limit_cond true d l a u b m = m
  limit_cond false d l a u b m = b

  limit-after : (d : Desk) → d.limit * s ≤ most_power → (x : Call) → LimitFits x → (desk_after d x).limit * s ≤ most_power
  unfolding changed
  limit-after d b (claim c k) m = rw (one_only d (claim c k) refl).limit b
  limit-after d b (hand_back c k) m = rw (one_only d (hand_back c k) refl).limit b
  limit-after d b (look c) m = rw (one_only d (look c) refl).limit b
  limit-after d b (change l a t) m = limit_cond (eqb (change_refusal d l a t) 0) d l a t b m.0

  first_fits : (x : Call) (l : List Call) → LimitsFit s (x ∷ l) → LimitFits x × LimitsFit s l
  first_fits (claim c k) l m = (tt, m)
  first_fits (hand_back c k) l m = (tt, m)
  first_fits (look c) l m = (tt, m)
  first_fits (change n a t) l m = ((m.0, tt), m.1)

  -- Of every desk, one that cannot be too, and of every list of calls: where L times s is in bounds, of the desk and of every change, the
  -- desk and the calls with every figure multiplied by s are granted and refused exactly as before, looks give the old figure times s, and
  -- what is left is the old desk times s.
  pub calls_scale : (d : Desk) → d.limit * s ≤ most_power → (l : List Call) → LimitsFit s l
      → (answers (scaled s d) (map (scaled_call s) l) ≡ scaled_answers s (answers d l))
      × (desk_after_all (scaled s d) (map (scaled_call s) l) ≡ scaled s (desk_after_all d l))
  calls_scale d b [] m = (refl, refl)
  calls_scale d b (x ∷ l) m =
      let f = first_fits x l m in
      let h = call_scales d b x f.0 in
      let r = calls_scale (desk_after d x) (limit-after d b x f.0) l f.1 in (
        rw (h.refusal, h.figure, h.desk, r.0) refl,
        ap (λ (e : Desk). desk_after_all e (map (scaled_call s) l)) h.desk ∙ r.1,
      )

  -- ---- opening

  module _ (limit : ℕ) (a t : List ℕ) (m : limit * s ≤ most_power) where
    new-scaled : new_desk (limit * s) (times s a) (times s t) ≡ scaled s (new_desk limit a t)
    new-scaled i = record {
      count = length-map a (λ (x : ℕ). x * s) i;
      limit = limit * s;
      held = sym (zeros-times s) i;
      assured = padded-times s a i;
      ceiling = padded-times s t i;
    }

    none-scaled : no_desk ≡ scaled s no_desk
    none-scaled i = record {
      count = 0;
      limit = sym (zero-mul s) i;
      held = sym (zeros-times s) i;
      assured = sym (zeros-times s) i;
      ceiling = sym (zeros-times s) i;
    }

    -- Opening with s times the figures gives the old number, and the old desk times s.
    pub opening_scales : ((opened (limit * s) (times s a) (times s t)).refusal ≡ (opened limit a t).refusal)
        × ((opened (limit * s) (times s a) (times s t)).desk ≡ scaled s (opened limit a t).desk)
    unfolding opened
    opening_scales = (open-times s one limit a t m, rw (open-times s one limit a t m) (go (eqb (open_refusal limit a t) 0)))
      where
        go : (b : Bool) → cond b (new_desk (limit * s) (times s a) (times s t)) no_desk ≡ scaled s (cond b (new_desk limit a t) no_desk)
        go true = new-scaled
        go false = none-scaled
