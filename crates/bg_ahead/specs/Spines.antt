-- A form, taken apart along what stands last in it.
use Rattle.std.specs.Prelude.{List, [], ◌∷◌}
use Rattle.bg_forms.specs.Forms.{Form, NotSo, Both, Same}
use Rattle.bg_forms.specs.Views.{form_in}
use Rattle.bg_ahead.specs.declared.moved.Piece.{Piece}
use Rattle.bg_ahead.specs.declared.moved.Piece.TheVariants as piece

-- a part in front of what stands last
abbrev pub wrap : Piece → Form → Form
wrap piece.Not f = NotSo f
wrap (piece.Both g) f = Both (form_in g) f
wrap (piece.Same g) f = Same (form_in g) f

-- parts in front of one another, the first one outermost
abbrev pub wrapped : List Piece → Form → Form
wrapped [] f = f
wrapped (p ∷ ps) f = wrap p (wrapped ps f)
