-- Lines as they are printed: requirements, X.
use Rattle.std.specs.Prelude.{List, [], ◌∷◌, ◌++◌, ℕ}

-- the first field, and those behind it: "One space stands between the fields of a line, and each line ends with byte 10."
unfoldable pub line : List ℕ → List (List ℕ) → List ℕ
line f [] = f ++ (10 ∷ [])
line f (g ∷ fs) = f ++ (32 ∷ line g fs)
