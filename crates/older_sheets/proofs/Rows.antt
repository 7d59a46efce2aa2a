-- A row of a table: a layout of before, a sheet of it, the same in the layout of today, and the number that reading gives of both.
use mathlib.Core.List.{List, [], ◌∷◌}
use Prim.Native.Nat.{ℕ}
use Rattle.sheet.specs.Read.{read_refusal}
use Rattle.older_sheets.specs.Older as older
use Rattle.older_sheets.specs.Older.{Layout}
use Rattle.older_sheets.specs.Relaid.{relaid}

pub record Row : Type 0 where
  pub layout : Layout
  pub sheet : List ℕ
  pub again : List ℕ
  pub number : ℕ

abbrev pub row : Layout → List ℕ → List ℕ → ℕ → Row
row L s again number = record { layout = L; sheet = s; again = again; number = number }

-- what the definitions give of the rows' sheets, and what the rows say
unfoldable pub found : List Row → List (List ℕ)
found [] = []
found (r ∷ l) =
    relaid r.layout r.sheet
    ∷ (older.read_refusal r.layout r.sheet ∷ read_refusal (relaid r.layout r.sheet) ∷ [])
    ∷ found l

unfoldable pub told : List Row → List (List ℕ)
told [] = []
told (r ∷ l) = r.again ∷ (r.number ∷ r.number ∷ []) ∷ told l
