-- Next jobs that are passed over, and what is settled when one is chosen.
use mathlib.Core.Path.{◌≡◌, refl, sym, ap, ◌∙◌, subst}
use mathlib.Core.Logic.{◌⊎◌, inl, inr}
use mathlib.Core.Bool.{Bool, true, false, cond, not, ◌||◌}
use mathlib.Core.List.{List, [], ◌∷◌, ◌++◌, append-nil, append_assoc}
use Prim.Native.Nat.{ℕ, suc, ◌+◌, ◌≤◌, ◌<◌}
use native.Mathlib.Omega.{arith}
use lib.Dec.{eqb}
use lib.Bits.{bit_or}
use lib.Count.{ones}
use lib.ListN.{length, get_or, set, length-set}
use lib.Seq.{get_or-set_same, get_or-set_other}
use borrow.Author.Tests.{eqb-true, eq-eqb, ne_eqb, not-false}
use Rattle.tables.specs.declared.Jobs.{Jobs}
use Rattle.tables.specs.declared.Prepared.{Prepared}
use Rattle.counting.specs.Counting.{only}
use Rattle.counting.proofs.Tests.{true-or-false, clash, same_or_not}
use Rattle.bits.specs.Bits.{bit}
use Rattle.bits.proofs.Digits.{bit-or}
use Rattle.schedule.specs.Plan.{Sheet, finish, Narrow, Lasting}
use Rattle.schedule.specs.ListPlan.{PartPlan, no_jobs, ready, Follows, start_of, part_of}
use Rattle.schedule.specs.PartPlans.{Block}
use Rattle.schedule.proofs.Starts.{ready_says}
use Rattle.schedule.proofs.Prefixes.{part_more}
use Rattle.schedule.proofs.Branch.{branch-placed, branch_start, branch_kept, placed_splits, split_last}
use Rattle.schedule.proofs.Branch.{place_splits, place_within, place_in_lem, place-behind}
use Rattle.schedule.proofs.SameMinute.{same-minute_cut}
use Rattle.schedule.proofs.Alike.{alike_cut}
use Rattle.schedule.proofs.Swaps.{swap_cut}
use Rattle.schedule.proofs.Blocks.{block_cut}
use Rattle.tables.specs.Tables.{sheet_of, arrival_at, earlier_at, count_of}
use Rattle.tables.specs.declared.Part.{Part}
use Rattle.tables.specs.Part.{word_of}
use Rattle.placement.specs.Part.{Placeable, Placed}
use Rattle.relations.specs.Relations.{Alike, Swapping}
use Rattle.candidates.specs.Candidates.{JobStart}
use Rattle.candidates.proofs.Starting.{started}
use Rattle.candidates.proofs.Children.{word-length, word_at, child_placeable, child_fewer, child_known, child_word}
use Rattle.branching.specs.declared.Behind.{Behind}
use Rattle.branching.specs.Branching.{settled_now, AllAwaited, AllArrived, EndsInBlock, PassedOver}
use Rattle.search.specs.Search.{Fails, SettledAt, SameStart, SettledSo, Searching, TriedSo, Choosing}

module _ {t : Jobs} {prepared : Prepared} {part : Part} {target : ℕ} {memory settled slate : List ℕ} {same tried job at : ℕ}
    (s : Searching t prepared part target memory settled slate same) (choosing : Choosing t part target tried job at) where
  abbrev S : Sheet
  S = sheet_of t

  abbrev jobs : ℕ
  jobs = count_of t

  abbrev w : List ℕ
  w = word_of part

  abbrev P : PartPlan
  P = part_of S w

  narrow : Narrow S
  narrow = s.going.known.fit.narrow

  lasting : Lasting S
  lasting = s.going.known.fit.lasting

  follows : Follows S no_jobs w
  follows = s.going.known.is.follows

  l : job < jobs
  l = choosing.inside

  low : at < 65535
  low = choosing.may_come

  before : TriedSo t part target tried at
  before = choosing.before

  start : JobStart t part job at
  start = choosing.starts

  may_follow : ready S P.placed job ≡ true
  may_follow = started start low

  starts-at : at ≡ start_of S P job
  starts-at = start.here may_follow

  -- ---- another job that was tried

  come_first : (i : ℕ) → i < jobs → bit tried i ≡ true → Alike t i job → Fails S target (w ++ (job ∷ []))
  come_first i m h (e, (f, g)) = go (same_or_not i job)
    where
      go : (i ≡ job) ⊎ (¬ (i ≡ job)) → Fails S target (w ++ (job ∷ []))
      go (inl z) = subst (λ (k : ℕ). Fails S target (w ++ (k ∷ []))) z (before i m h).1.1
      go (inr z) =
          let b = before i m h in
          alike_cut S lasting narrow w follows i job z b.0 may_follow e f g (omega (arith, b.1.0, starts-at)) (suc target) b.1.1

  -- ---- a placed job

  end_of : (k : ℕ) → k < jobs → P.placed k ≡ true → get_or part.ends k 0 ≡ finish S P.plan k
  end_of k m p = s.going.known.is.figures.ends k m ∙ ap (λ (x : Bool). only x (finish S P.plan k)) p

  -- one that starts in the same minute, of any word with it
  in_its-minute : (u : List ℕ) (i : ℕ) (q x : List ℕ) → x ≡ u ++ (i ∷ q) → Follows S no_jobs x → SettledAt S target u i job
      → start_of S (part_of S x) job ≡ (part_of S x).plan.start i → Fails S target (x ++ (job ∷ []))
  in_its-minute u i q x e = subst (λ (x : List ℕ). Follows S no_jobs x → SettledAt S target u i job
      → start_of S (part_of S x) job ≡ (part_of S x).plan.start i → Fails S target (x ++ (job ∷ []))) (sym e)
      (λ f a z. same-minute_cut S lasting narrow u i q f job a.may_come (suc target)
      (omega (arith, a.soon, branch_start S narrow u i q f)) z a.fails)

  same-minute : part.last ≡ at → SameStart S target w job → Fails S target (w ++ (job ∷ []))
  same-minute z (u, i, q, e, (f, a)) =
      in_its-minute u i q w e follows a (omega (arith, f, z, starts-at, s.going.known.is.figures.last))

  -- one that has ended and rested as the job starts
  behind : (u : List ℕ) (i : ℕ) (q x : List ℕ) → x ≡ u ++ (i ∷ q) → Follows S no_jobs x → SettledAt S target u i job
      → (part_of S x).placed job ≡ false → Swapping t i job
      → start_of S (part_of S x) job ≡ (part_of S x).plan.start i + S.minutes i + S.rest → Fails S target (x ++ (job ∷ []))
  behind u i q x e = subst (λ (x : List ℕ). Follows S no_jobs x → SettledAt S target u i job → (part_of S x).placed job ≡ false
      → Swapping t i job
      → start_of S (part_of S x) job ≡ (part_of S x).plan.start i + S.minutes i + S.rest → Fails S target (x ++ (job ∷ []))) (sym e)
      (λ f a n t z. swap_cut S lasting narrow u i q f job a.may_come n t.0 t.1
      (omega (arith, a.soon, branch_start S narrow u i q f)) z (suc target) a.fails)

  swapped : (i : ℕ) → i < jobs → Swapping t i job → get_or part.ends i 0 + S.rest ≡ at → bit part.unplaced i ≡ false
      → bit (get_or settled i 0) job ≡ true → Fails S target (w ++ (job ∷ []))
  swapped i m t e p b = go (placed_splits S w i placed)
    where
      placed : P.placed i ≡ true
      placed = not-false (P.placed i) (sym (s.going.known.is.figures.set i m) ∙ p)

      go : (u : List ℕ) × (q : List ℕ) × (w ≡ u ++ (i ∷ q)) → Fails S target (w ++ (job ∷ []))
      go (u, q, z) = behind u i q w z follows (s.settled_so.each u i q job z l b) (ready_says S P.placed job may_follow).new t
          (omega (arith, e, end_of i m placed, starts-at))

  -- a block

  size : length w ≡ part.placed
  size = word-length s.going.known

  at_place : (k : ℕ) → k < part.placed → get_or w k 0 ≡ get_or part.order k 0
  at_place = word_at s.going.known

  behind_block : (u : List ℕ) (i : ℕ) (q x : List ℕ) → x ≡ u ++ (i ∷ q) → Follows S no_jobs x → SettledAt S target u i job
      → Block S u i x job → Fails S target (x ++ (job ∷ []))
  behind_block u i q x e = subst (λ (x : List ℕ). Follows S no_jobs x → SettledAt S target u i job → Block S u i x job
      → Fails S target (x ++ (job ∷ []))) (sym e)
      (λ f a k. block_cut S lasting narrow u i q f job a.may_come k (suc target) a.fails)

  module _ (behind : Behind) (all : AllAwaited t part.unplaced behind.awaited) (arrived : AllArrived t part.unplaced behind.arrived)
      (b : EndsInBlock t part settled behind at job) where
    abbrev m : ℕ
    m = b.at

    inside : m < length w
    inside = omega (arith, b.block.inside, size)

    abbrev i : ℕ
    i = get_or w m 0

    i_is : i ≡ get_or part.order m 0
    i_is = at_place m b.block.inside

    parts : (u : List ℕ) × (q : List ℕ) × (w ≡ u ++ (i ∷ q)) × (length u ≡ m)
    parts = place_splits w m inside

    abbrev u : List ℕ
    u = parts.0

    abbrev q : List ℕ
    q = parts.1

    word : w ≡ u ++ (i ∷ q)
    word = parts.2

    onward : Follows S no_jobs (u ++ (i ∷ q))
    onward = subst (λ (v : List ℕ). Follows S no_jobs v) word follows

    settled_at : SettledAt S target u i job
    settled_at = s.settled_so.each u i q job word l (rw i_is b.block.settled_then)

    i_in : i < jobs
    i_in = place_within S no_jobs w follows m inside

    i-placed : P.placed i ≡ true
    i-placed = subst (λ (v : List ℕ). (part_of S v).placed i ≡ true) (sym word) (branch-placed S narrow u i q onward)

    i_starts : P.plan.start i ≡ start_of S (part_of S u) i
    i_starts = subst (λ (v : List ℕ). (part_of S v).plan.start i ≡ start_of S (part_of S u) i) (sym word) (branch_start S narrow u i q onward)

    kept : (k : ℕ) → (part_of S u).placed k ≡ true → P.placed k ≡ true
    kept k p = subst (λ (v : List ℕ). (part_of S v).placed k ≡ true) (sym word) (branch_kept S narrow u i q onward k p).0

    before_it : (k : ℕ) → k < jobs → (part_of S u).placed k ≡ true → finish S P.plan k + S.rest ≤ P.plan.start i
    before_it k x p =
        let z = place_in_lem S u (i ∷ q) k p in
        let small : z.0 < m = omega (arith, z.1, parts.3) in
        let is : get_or part.order z.0 0 ≡ k =
        sym (at_place z.0 (omega (arith, b.block.inside))) ∙ ap (λ (v : List ℕ). get_or v z.0 0) word ∙ z.2 in
        let e = rw (is, sym i_is) at (b.block.before z.0 small) in
        omega (arith, e, end_of k x (kept k p), end_of i i_in i-placed)

    all_ended : (k : ℕ) → k < jobs → P.placed k ≡ true → finish S P.plan k + S.rest ≤ start_of S P job
    all_ended k x p =
        let z = place_in_lem S w [] k p in
        let small : z.0 < part.placed = omega (arith, z.1, size) in
        let is : get_or part.order z.0 0 ≡ k =
        sym (at_place z.0 small) ∙ ap (λ (v : List ℕ). get_or v z.0 0) (sym (append-nil w)) ∙ z.2 in
        let e = rw is at (b.ended z.0 small) in
        omega (arith, e, end_of k x p, starts-at)

    not_awaited : (k x : ℕ) → k < jobs → x < jobs → (part_of S u).placed k ≡ false → P.placed k ≡ true → P.placed x ≡ false
        → bit (earlier_at t x) k ≡ false
    not_awaited k x y v new p left = go (true-or-false (bit (earlier_at t x) k))
      where
        z : (t : ℕ) × (length u ≤ t) × (t < length (u ++ (i ∷ q))) × (get_or (u ++ (i ∷ q)) t 0 ≡ k)
        z = place-behind S u (i ∷ q) k new (subst (λ (v : List ℕ). (part_of S v).placed k ≡ true) word p)

        small : z.0 < part.placed
        small = omega (arith, z.2, ap length word, size)

        is : get_or part.order z.0 0 ≡ k
        is = sym (at_place z.0 small) ∙ ap (λ (v : List ℕ). get_or v z.0 0) word ∙ z.3

        free : bit behind.awaited k ≡ false
        free = rw is at (b.block.unawaited z.0 (omega (arith, z.1, parts.3)) small)

        go : (bit (earlier_at t x) k ≡ true) ⊎ (bit (earlier_at t x) k ≡ false) → bit (earlier_at t x) k ≡ false
        go (inr e) = e
        go (inl e) = clash (bit behind.awaited k) (all x v (s.going.known.is.figures.set x v ∙ ap not left) k e) free

    all_here : (k : ℕ) → k < jobs → P.placed k ≡ false → arrival_at t k ≤ P.plan.start i
    all_here k x p =
        let e = rw (sym i_is) at b.block.here in
        omega (arith, e, arrived k x (s.going.known.is.figures.set k x ∙ ap not p), end_of i i_in i-placed)

    blocked : Fails S target (w ++ (job ∷ []))
    blocked = behind_block u i q w word follows settled_at (record {
      new = (ready_says S P.placed job may_follow).new;
      within = i_in;
      soon = omega (arith, settled_at.soon, i_starts);
      before = before_it;
      ended = all_ended;
      unawaited = not_awaited;
      here = all_here;
    })

  pub passed_cut : PassedOver t prepared.related part settled same tried at job → Fails S target (w ++ (job ∷ []))
  passed_cut (inl (i, h, b)) = let pair = (s.going.tabled.related job l).alike i b in come_first i pair.0 h pair.1
  passed_cut (inr (inl (z, b))) = same-minute (sym z) (s.settled_so.same_start job l b)
  passed_cut (inr (inr (inl (i, m, b, (e, (p, x)))))) = swapped i m ((s.going.tabled.related job l).swapping i b).1 e p x
  passed_cut (inr (inr (inr (behind, all, arrived, b)))) = blocked behind all arrived b

  -- ---- one job more

  -- a tried job is settled where this one is chosen
  settled_here : (x : ℕ) → x < jobs → bit tried x ≡ true → SettledAt S target w job x
  settled_here x m h =
      let f = before x m h in
      record { may_come = f.0; soon = omega (arith, f.1.0, starts-at); fails = f.1.1 }

  -- a job of w is another
  not-job : (u : List ℕ) (i : ℕ) (q : List ℕ) → w ≡ u ++ (i ∷ q) → ¬ (i ≡ job)
  not-job u i q e z =
      let placed : P.placed i ≡ true = subst (λ (v : List ℕ). (part_of S v).placed i ≡ true) (sym e)
      (branch-placed S narrow u i q (subst (λ (v : List ℕ). Follows S no_jobs v) e follows)) in
      clash (P.placed i) placed (ap P.placed z ∙ (ready_says S P.placed job may_follow).new)

  -- the starts of the jobs of w stay, and this one's is the last
  start_stays : (i : ℕ) → ¬ (i ≡ job) → (part_of S (w ++ (job ∷ []))).plan.start i ≡ P.plan.start i
  start_stays i d = ap (λ (Q : PartPlan). Q.plan.start i) (part_more S w job)
      ∙ ap (λ (b : Bool). cond b (start_of S P job) (P.plan.start i)) (ne_eqb i job d)

  start_here : (part_of S (w ++ (job ∷ []))).plan.start job ≡ start_of S P job
  start_here = ap (λ (Q : PartPlan). Q.plan.start job) (part_more S w job)
      ∙ ap (λ (b : Bool). cond b (start_of S P job) (P.plan.start job)) (eq-eqb job job refl)

  last_here : (part_of S (w ++ (job ∷ []))).last ≡ start_of S P job
  last_here = ap (λ (Q : PartPlan). Q.last) (part_more S w job)

  same_more : (x : ℕ) → x < jobs → bit (settled_now same tried at part.last) x ≡ true
      → SameStart S target (w ++ (job ∷ [])) x
  same_more x m = go (eqb at part.last) refl
    where
      by_tried : bit tried x ≡ true → SameStart S target (w ++ (job ∷ [])) x
      by_tried b = (w, job, [], refl, (start_here ∙ sym last_here, settled_here x m b))

      by_same : at ≡ part.last → SameStart S target w x → SameStart S target (w ++ (job ∷ [])) x
      by_same z (u, i, q, e, (f, a)) = (
        u,
        i,
        q ++ (job ∷ []),
        ap (λ (v : List ℕ). v ++ (job ∷ [])) e ∙ append_assoc u (i ∷ q) (job ∷ []),
        (omega (arith, start_stays i (not-job u i q e), last_here, f, z, starts-at, s.going.known.is.figures.last), a),
      )

      either : at ≡ part.last → (p : Bool) → bit same x ≡ p → (p || bit tried x) ≡ true
          → SameStart S target (w ++ (job ∷ [])) x
      either z true e b = by_same z (s.settled_so.same_start x m e)
      either z false e b = by_tried b

      go : (t : Bool) → eqb at part.last ≡ t → bit (cond t (bit_or same tried) tried) x ≡ true
          → SameStart S target (w ++ (job ∷ [])) x
      go true e b = either (eqb-true _ _ e) (bit same x) refl (sym (bit-or same tried x) ∙ b)
      go false e b = by_tried b

  settled_more : SettledSo S target (w ++ (job ∷ [])) (set settled job tried)
      (settled_now same tried at part.last)
  settled_more = record {
    size = length-set settled job tried ∙ s.settled_so.size;
    each = λ u i q x e m b. go u i q x m b (split_last w job u i q e);
    same_start = same_more;
  }
    where
      go : (u : List ℕ) (i : ℕ) (q : List ℕ) (x : ℕ) → x < jobs → bit (get_or (set settled job tried) i 0) x ≡ true
          → ((w ≡ u) × (job ≡ i)) ⊎ ((p : List ℕ) × (w ≡ u ++ (i ∷ p))) → SettledAt S target u i x
      go u i q x m b (inl (e, j)) =
          let here = get_or-set_same settled job tried 0 (omega (arith, s.settled_so.size, s.going.known.fit.few)) in
          let here_too : bit tried x ≡ true = ap (λ (y : ℕ). bit y x) (sym here ∙ ap (λ (k : ℕ). get_or (set settled job tried) k 0) j) ∙ b in
          subst (λ (v : List ℕ). SettledAt S target v i x) e (subst (λ (k : ℕ). SettledAt S target w k x) j (settled_here x m here_too))
      go u i q x m b (inr (p, e)) =
          s.settled_so.each u i p x e m
          (ap (λ (y : ℕ). bit y x) (sym (get_or-set_other settled job i tried 0 (not-job u i p e))) ∙ b)

  pub choice_placeable : Placeable t part job at
  choice_placeable = child_placeable s.going.known l start low

  -- ---- the part-plan with the job

  module _ {child : Part} (placed : Placed t part job at child) where
    pub choice_fewer : suc (ones child.unplaced) ≡ ones part.unplaced
    choice_fewer = child_fewer s.going.known l start low placed

    pub choice_word : word_of child ≡ w ++ (job ∷ [])
    choice_word = child_word s.going.known l start low placed

    pub choice_searching : Searching t prepared child target memory (set settled job tried) slate
        (settled_now same tried at part.last)
    choice_searching = record {
      going = record {
        low = s.going.low;
        known = child_known s.going.known l start low placed;
        tabled = s.going.tabled;
        remembered = s.going.remembered;
      };
      slated = s.slated;
      settled_so = rw choice_word settled_more;
    }

    -- what is settled of the longer word is settled of the shorter one
    pub settled_less : {settled' : List ℕ} {same' : ℕ} → SettledSo S target (word_of child) settled' same' → SettledSo S target w settled' same
    settled_less {settled'} {same'} h =
        let longer : SettledSo S target (w ++ (job ∷ [])) settled' same' = rw choice_word at h in
        record {
          size = longer.size;
          each = λ u i q x e. longer.each u i (q ++ (job ∷ [])) x
              (ap (λ (v : List ℕ). v ++ (job ∷ [])) e ∙ append_assoc u (i ∷ q) (job ∷ []));
          same_start = s.settled_so.same_start;
        }
