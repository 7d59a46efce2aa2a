-- F-2.4, F-4: a sheet that was laid out before, put into the layout of today with 0 for what it has no place for.
use Rattle.std.specs.Prelude.{◌≡◌, List, [], ◌∷◌, ◌++◌, ℕ, ◌+◌, ◌*◌, take, drop}
use Rattle.counting.specs.Counting.{joined}
use Rattle.checking.specs.Checking.{first_failing}
use Rattle.older_sheets.specs.Older as older
use Rattle.older_sheets.specs.Older.{Layout, before_arrivals, before_changeovers}

-- the two bytes of a 0
abbrev pub zero16 : List ℕ
zero16 = 0 ∷ 0 ∷ []

-- what stands behind a record's bytes: an arrival of 0 where it has none
abbrev pub behind_record : Layout → List ℕ
behind_record before_arrivals = zero16
behind_record before_changeovers = []

abbrev pub relaid_record : Layout → List ℕ → ℕ → List ℕ
relaid_record L s i = take (older.record_size L) (drop (older.offset_of s + older.record_size L * i) s) ++ behind_record L

-- the bytes of the trailer, and a changeover of 0 behind them
abbrev pub relaid_trailer : List ℕ → List ℕ
relaid_trailer s = take older.trailer_size (drop (older.trailer_at s) s) ++ zero16

-- labels, records and trailer, one behind another as before: the first record's offset stays
unfoldable pub relaid : Layout → List ℕ → List ℕ
relaid L s = older.labels_of s ++ (joined (older.count_of s) (relaid_record L s) ++ relaid_trailer s)

-- 1 to 4 find nothing: labels, records and trailer can be told apart
abbrev pub LaidOut : Layout → List ℕ → Type 0
LaidOut L s = first_failing (older.trailer_checks L s) ≡ 0
