-- A line, added field by field.
use mathlib.Core.Path.{◌≡◌, refl, ap, ◌∙◌}
use mathlib.Core.List.{List, [], ◌∷◌, ◌++◌, append_assoc}
use Prim.Native.Nat.{ℕ}
use Rattle.text.specs.declared.Text.{Text}
use Rattle.text.specs.Lines.{line}
use Rattle.text.specs.Texts.{adding}
use Rattle.text.proofs.Adding.{adding_more}

-- the text with the fields behind it, each with the byte that stands after it
abbrev pub adding_fields : Text → List ℕ → List (List ℕ) → Text
adding_fields t f [] = adding t (f ++ (10 ∷ []))
adding_fields t f (g ∷ fs) = adding_fields (adding t (f ++ (32 ∷ []))) g fs

pub fields-line : (t : Text) (f : List ℕ) (fs : List (List ℕ)) → adding_fields t f fs ≡ adding t (line f fs)
unfolding line
fields-line t f [] = refl
fields-line t f (g ∷ fs) =
    fields-line (adding t (f ++ (32 ∷ []))) g fs ∙ adding_more t (f ++ (32 ∷ [])) (line g fs)
    ∙ ap (adding t) (append_assoc f (32 ∷ []) (line g fs))
