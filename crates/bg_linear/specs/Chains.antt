-- The forms of chains and of rows of signs, as the code makes them.
use Rattle.std.specs.Prelude.{Bool, true, false, if◌then◌else◌, List, [], ◌∷◌, Result, Ok}
use Rattle.bg_base.specs.declared.exact.Op.TheVariants as arith
use Rattle.bg_base.specs.declared.exact.OutOfRange.{OutOfRange}
use Rattle.bg_text.specs.declared.expr.InfixSign.{InfixSign}
use Rattle.bg_text.specs.declared.expr.InfixSign.TheVariants as op
use Rattle.bg_text.specs.declared.expr.PrefixSign.{PrefixSign}
use Rattle.bg_text.specs.declared.expr.PrefixSign.TheVariants as prefix
use Rattle.bg_text.specs.declared.expr.TreePrefix.{TreePrefix}
use Rattle.bg_ast.specs.Resolved as r
use Rattle.bg_ast.specs.Meaning as m
use Rattle.bg_rows.specs.Rows.{and_then}
use Rattle.bg_linear.specs.Lins.{LinOf, together, negative, product}
use Rattle.bg_linear.specs.Forms.{nothing, linear}

-- two forms with a sign between them
abbrev pub sign_form : InfixSign → Result LinOf OutOfRange → Result LinOf OutOfRange → Result LinOf OutOfRange
sign_form op.Plus r s = and_then r (λ f. and_then s (λ g. together arith.Plus f g))
sign_form op.Minus r s = and_then r (λ f. and_then s (λ g. together arith.Minus f g))
sign_form op.Times r s = and_then r (λ f. and_then s (λ g. product f g))
sign_form _ r s = Ok nothing

abbrev pub is_implies : InfixSign → Bool
is_implies op.Implies = true
is_implies _ = false

-- a chain, where its first operand has this form
abbrev pub chain_forms : Result LinOf OutOfRange → r.Links → Result LinOf OutOfRange
chain_forms f r.NoLink = f
chain_forms f (r.Link p sign e ls) =
    if is_implies sign then Ok nothing else chain_forms (sign_form sign f (linear (m.ex_of e))) ls

abbrev pub prefix_form : PrefixSign → Result LinOf OutOfRange → Result LinOf OutOfRange
prefix_form prefix.Not r = Ok nothing
prefix_form prefix.Minus r = and_then r (λ f. negative f)

abbrev pub signed_form : List TreePrefix → Result LinOf OutOfRange → Result LinOf OutOfRange
signed_form [] r = r
signed_form (x ∷ xs) r = prefix_form x.sign (signed_form xs r)
