-- Parts in front of one another.
use Rattle.std.proofs.Common.{◌≡◌, List, [], ◌∷◌, ◌++◌, refl, ap}
use Rattle.bg_forms.specs.Forms.{Form}
use Rattle.bg_ahead.specs.declared.moved.Piece.{Piece}
use Rattle.bg_ahead.specs.Spines.{wrap, wrapped}

pub wrapped_last : (ps : List Piece) (p : Piece) (f : Form) → wrapped (ps ++ p ∷ []) f ≡ wrapped ps (wrap p f)
wrapped_last [] p f = refl
wrapped_last (q ∷ ps) p f = ap (wrap q) (wrapped_last ps p f)
