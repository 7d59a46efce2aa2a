-- What a text holds.
use Rattle.std.specs.Prelude.{cond, List, [], ◌∷◌, ◌++◌, ℕ, ◌+◌, ◌-◌, ltb, length, set, replicate}
use Rattle.text.specs.declared.Text.{Text}

-- how many bytes there is room for
abbrev pub room : ℕ
room = 1088

-- the text of these bytes: the places behind them are 0
unfoldable pub text_of : List ℕ → Text
text_of bs = record { bytes = bs ++ replicate (room - length bs) 0; length = length bs }

abbrev pub empty : Text
empty = record { bytes = replicate room 0; length = 0 }

-- the text with a byte behind it, where there is room
abbrev pub with_byte : Text → ℕ → Text
with_byte t b = cond (ltb t.length room) (record { bytes = set t.bytes t.length b; length = t.length + 1 }) t

-- the text with these bytes behind it, as far as there is room
unfoldable pub adding : Text → List ℕ → Text
adding t [] = t
adding t (b ∷ bs) = adding (with_byte t b) bs
