-- F-6: "A desk with whole modules, every figure multiplied by the same s".
use Rattle.std.specs.Prelude.{List, [], ◌∷◌, map, ℕ, ◌*◌, ◌≤◌}
use Rattle.desk.specs.declared.Desk.{Desk}
use Rattle.desk.specs.Desk.{most_power}
use Rattle.desk.specs.Calls.{Call, claim, hand_back, look, change, refusal_of, desk_after}
use Rattle.desk.specs.Rows.{figure_of}

-- each figure of a list times s
abbrev pub times : ℕ → List ℕ → List ℕ
times s l = map (λ (x : ℕ). x * s) l

-- limit, holdings, shares and ceilings times s; the number of controllers is no figure of power
abbrev pub scaled : ℕ → Desk → Desk
scaled s d = record {
  count = d.count;
  limit = d.limit * s;
  held = times s d.held;
  assured = times s d.assured;
  ceiling = times s d.ceiling;
}

-- what is claimed or handed back, and a change's figures, times s; a controller's number is no figure of power
abbrev pub scaled_call : ℕ → Call → Call
scaled_call s (claim c k) = claim c (k * s)
scaled_call s (hand_back c k) = hand_back c (k * s)
scaled_call s (look c) = look c
scaled_call s (change l a t) = change (l * s) (times s a) (times s t)

-- "and still in bounds": the limits that changes bring; every other figure of a desk that can be is within its limit
abbrev pub LimitsFit : ℕ → List Call → Type 0
LimitsFit s [] = Unit {0}
LimitsFit s (claim c k ∷ l) = LimitsFit s l
LimitsFit s (hand_back c k ∷ l) = LimitsFit s l
LimitsFit s (look c ∷ l) = LimitsFit s l
LimitsFit s (change n a t ∷ l) = (n * s ≤ most_power) × LimitsFit s l

-- what the calls of a list answer, one after another: the number, and the figure that a look shows
abbrev pub answers : Desk → List Call → List (ℕ × ℕ)
answers d [] = []
answers d (x ∷ l) = (refusal_of d x, figure_of d x) ∷ answers (desk_after d x) l

-- "must grant and refuse exactly as before, and its looks must give the old figure times s"
abbrev pub scaled_answers : ℕ → List (ℕ × ℕ) → List (ℕ × ℕ)
scaled_answers s l = map (λ (p : ℕ × ℕ). (p.0, p.1 * s)) l
