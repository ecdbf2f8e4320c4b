-- The forms of chains and of rows of signs, as the code makes them.
use Rattle.std.specs.Prelude.{Bool, true, false, if◌then◌else◌, List, [], ◌∷◌}
use Rattle.bg_text.specs.declared.expr.InfixSign.{InfixSign}
use Rattle.bg_text.specs.declared.expr.InfixSign.TheVariants as op
use Rattle.bg_text.specs.declared.expr.PrefixSign.{PrefixSign}
use Rattle.bg_text.specs.declared.expr.PrefixSign.TheVariants as prefix
use Rattle.bg_text.specs.declared.expr.TreePrefix.{TreePrefix}
use Rattle.bg_ast.specs.Resolved as r
use Rattle.bg_ast.specs.Meaning as m
use Rattle.bg_forms.specs.Forms.{Form, Plain, both_of, any_of, denied, same_of, form_of}

-- two forms with a sign between them
abbrev pub sign_form : InfixSign → Form → Form → Form
sign_form op.Iff f g = same_of g f
sign_form op.Implies f g = any_of (denied f) g
sign_form op.Explies f g = any_of (denied g) f
sign_form op.And f g = both_of g f
sign_form op.Or f g = any_of g f
sign_form op.Equal f g = same_of g f
sign_form op.Unequal f g = denied (same_of g f)
sign_form _ f g = Plain false

abbrev pub is_implies : InfixSign → Bool
is_implies op.Implies = true
is_implies _ = false

-- a chain, where its first operand has this form
abbrev pub chain_forms : Form → r.Links → Form
chain_forms f r.NoLink = f
chain_forms f (r.Link p sign e ls) =
    if is_implies sign then any_of (denied f) (chain_forms (form_of (m.ex_of e)) ls)
    else chain_forms (sign_form sign f (form_of (m.ex_of e))) ls

-- one more operand, where the rest of the chain is this
abbrev pub chain_one : InfixSign → Form → Form → r.Links → Form
chain_one sign f g ls =
    if is_implies sign then any_of (denied f) (chain_forms g ls) else chain_forms (sign_form sign f g) ls

-- disjunctions that wait for what is on their right
abbrev pub folded : List Form → Form → Form
folded [] f = f
folded (p ∷ ps) f = any_of p (folded ps f)

abbrev pub prefix_form : PrefixSign → Form → Form
prefix_form prefix.Not f = denied f
prefix_form prefix.Minus f = Plain false

abbrev pub signed_form : List TreePrefix → Form → Form
signed_form [] f = f
signed_form (x ∷ xs) f = prefix_form x.sign (signed_form xs f)
