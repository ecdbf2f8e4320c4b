-- The linear form of an expression over incarnations, made from the inside out and from left to right.
use Rattle.std.specs.Prelude.{pos, Result, Ok}
use Rattle.bg_base.specs.declared.exact.Op.TheVariants as op
use Rattle.bg_base.specs.declared.exact.OutOfRange.{OutOfRange}
use Rattle.bg_ast.specs.Syntax.{Ex, Number, Read, Local, Negative, Binary, Op, Plus, Minus, Times}
use Rattle.bg_rows.specs.Rows.{and_then}
use Rattle.bg_linear.specs.Lins.{LinOf, number_form, variable_form, together, negative, product}

-- of what is no number, the form is 0
abbrev pub nothing : LinOf
nothing = number_form (pos 0)

-- the forms of both sides, then the operator
abbrev pub joined_by : Op → Result LinOf OutOfRange → Result LinOf OutOfRange → Result LinOf OutOfRange
joined_by Plus r s = and_then r (λ f. and_then s (λ g. together op.Plus f g))
joined_by Minus r s = and_then r (λ f. and_then s (λ g. together op.Minus f g))
joined_by Times r s = and_then r (λ f. and_then s (λ g. product f g))
joined_by _ r s = Ok nothing

-- the linear form: incarnation j is variable j
abbrev pub linear : Ex → Result LinOf OutOfRange
linear (Number z) = Ok (number_form z)
linear (Read (Local j)) = Ok (variable_form j)
linear (Negative e) = and_then (linear e) (λ f. negative f)
linear (Binary op a b) = joined_by op (linear a) (linear b)
linear _ = Ok nothing
