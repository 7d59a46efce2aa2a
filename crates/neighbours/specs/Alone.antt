-- F-13: what a controller that keeps to its assured share is answered, from its holding at the outset and its own calls alone.
use Rattle.std.specs.Prelude.{◌≡◌, ◌≢◌, true, cond, List, [], ◌∷◌, ℕ, ◌+◌, ◌-◌, ◌≤◌, ◌<◌, ltb, eqb}
use Rattle.desk.specs.declared.Desk.{Desk}
use Rattle.desk.specs.Desk.{holding, assured_share}
use Rattle.desk.specs.Calls.{Call, claim, hand_back, look, change, is_change, refusal_of, desk_after}
use Rattle.assurance.specs.Following.{bears, own_calls}

-- ---- alone

-- the number that a claim or a hand-back is given, from the holding h and the call
abbrev pub alone_number : ℕ → Call → ℕ
alone_number h (claim b k) = cond (eqb k 0) 15 0
alone_number h (hand_back b k) = cond (eqb k 0) 15 (cond (ltb h k) 18 0)
alone_number h (look b) = 0
alone_number h (change l a t) = 0

-- and the holding that it leaves
abbrev pub alone_holding : ℕ → Call → ℕ
alone_holding h (claim b k) = h + k
alone_holding h (hand_back b k) = cond (ltb h k) h (h - k)
alone_holding h (look b) = h
alone_holding h (change l a t) = h

abbrev pub alone_numbers : ℕ → List Call → List ℕ
alone_numbers h [] = []
alone_numbers h (x ∷ l) = alone_number h x ∷ alone_numbers (alone_holding h x) l

abbrev pub alone_after : ℕ → List Call → ℕ
alone_after h [] = h
alone_after h (x ∷ l) = alone_after (alone_holding h x) l

-- ---- on the desk

-- the numbers that the controller's own claims and hand-backs are given in a list of calls: "that controller's answers"
abbrev pub own_numbers : ℕ → Desk → List Call → List ℕ
own_numbers c d [] = []
own_numbers c d (x ∷ l) = cond (bears c x) (refusal_of d x ∷ own_numbers c (desk_after d x) l) (own_numbers c (desk_after d x) l)

-- "while a controller's holding plus its claim never passes its assured share"
abbrev pub KeepsWithin : ℕ → Desk → Call → Type 0
KeepsWithin c d (claim b k) = eqb b c ≡ true → holding d c + k ≤ assured_share d c
KeepsWithin c d (hand_back b k) = Unit {0}
KeepsWithin c d (look b) = Unit {0}
KeepsWithin c d (change l a t) = Unit {0}

abbrev pub WithinShare : ℕ → Desk → List Call → Type 0
WithinShare c d [] = Unit {0}
WithinShare c d (x ∷ l) = KeepsWithin c d x × WithinShare c (desk_after d x) l

-- "so are stretches with a change of shares": no change in the list is granted
abbrev pub Unchanged : Desk → List Call → Type 0
Unchanged d [] = Unit {0}
Unchanged d (x ∷ l) = (is_change x ≡ true → refusal_of d x ≢ 0) × Unchanged (desk_after d x) l

-- l is a merging of the calls that each controller makes: "every merging of the controllers' calls"
abbrev pub MergingOf : ℕ → (ℕ → List Call) → List Call → Type 0
MergingOf count calls l = (c : ℕ) → c < count → own_calls c l ≡ calls c
