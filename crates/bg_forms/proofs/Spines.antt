-- Parts in front of one another.
use Rattle.std.proofs.Common.{◌≡◌, List, [], ◌∷◌, ◌++◌, refl, sym, ap, ◌∙◌}
use Rattle.bg_forms.specs.Forms.{Form}
use Rattle.bg_forms.specs.declared.copies.Piece.{Piece}
use Rattle.bg_forms.specs.Spines.{wrap, wrapped}

pub wrapped_last : (ps : List Piece) (p : Piece) (f : Form) → wrapped (ps ++ p ∷ []) f ≡ wrapped ps (wrap p f)
wrapped_last [] p f = refl
wrapped_last (q ∷ ps) p f = ap (wrap q) (wrapped_last ps p f)

-- one more part
pub one_more : (ps items : List Piece) (p : Piece) (f g whole : Form) → wrapped ps f ≡ whole → items ≡ ps ++ p ∷ [] → f ≡ wrap p g → wrapped items g ≡ whole
one_more ps items p f g whole k e h = ap (λ l. wrapped l g) e ∙ wrapped_last ps p g ∙ ap (wrapped ps) (sym h) ∙ k
