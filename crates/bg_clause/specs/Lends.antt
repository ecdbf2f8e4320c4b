-- How forms whose parts are lent by those of blocks are read.
use Rattle.std.specs.Prelude.{Bool, true, false, Option, Some, None}
use Rattle.bg_formula.specs.declared.atom.Literal.{Literal}
use Rattle.bg_forms.specs.Forms.{Form, Plain, Is, NotSo, Both, Same}
use Rattle.bg_forms.specs.Views.{form_in}
use Rattle.bg_clause.specs.declared.lent.Leaf.{Leaf}
use Rattle.bg_clause.specs.declared.lent.Leaf.TheVariants as leaf
use Rattle.bg_clause.specs.declared.lent.Lent.{Lent}
use Rattle.bg_clause.specs.declared.lent.Lent.TheVariants as lent
use Rattle.bg_clause.specs.declared.lent.Front.{Front}
use Rattle.bg_clause.specs.declared.lent.Front.TheVariants as front
use Rattle.bg_clause.specs.declared.lent.Parts.{Parts}
use Rattle.bg_clause.specs.declared.lent.Parts.TheVariants as part

-- the form, or its denial where the sign is false
abbrev pub sign_of : Bool → Form → Form
sign_of true f = f
sign_of false f = NotSo f

-- the literal that a form is, if it is one
abbrev pub literal_in_form : Form → Option Literal
literal_in_form (Is l) = Some l
literal_in_form f = None

abbrev pub leaf_in : Leaf → Form
leaf_in (leaf.Is l) = Is l
leaf_in (leaf.Of s f) = sign_of s (form_in f.now)

abbrev pub lent_in : Lent → Form
lent_in (lent.Plain b) = Plain b
lent_in (lent.Leaf x) = leaf_in x
lent_in (lent.Behind' s x p g) = sign_of s (Both (leaf_in x) (lent_in g))
lent_in (lent.Both' s p f q g) = sign_of s (Both (lent_in f) (lent_in g))

abbrev pub front_in : Front → Form
front_in (front.Alone x) = leaf_in x
front_in (front.Before x g) = Both (leaf_in x) (lent_in g)
front_in (front.Other f) = lent_in f

abbrev pub parts_in : Parts → Form
parts_in (part.Plain b) = Plain b
parts_in (part.Is l) = Is l
parts_in (part.NotSo f) = NotSo (lent_in f)
parts_in (part.Both f g) = Both (lent_in f) (lent_in g)
parts_in (part.Same f g) = Same (lent_in f) (lent_in g)
