-- The order of refusals in a chain: of what stands before the last `==>`, and of what stands behind it.
use Rattle.std.specs.Prelude.{Option}
use Rattle.bg_base.specs.declared.exact.OutOfRange.{OutOfRange}
use Rattle.bg_text.specs.declared.expr.InfixSign.{InfixSign}
use Rattle.bg_text.specs.declared.expr.InfixSign.TheVariants as op
use Rattle.bg_formed.specs.Used.{first_of}

-- what stands before the last `==>`, behind one more sign
abbrev pub before_sign : InfixSign → Option OutOfRange → Option OutOfRange → Option OutOfRange
before_sign op.Implies before here = first_of before here
before_sign _ before here = before

-- what stands behind it, where the operand behind the sign has this refusal: `a <== b` means `b ==> a`
abbrev pub behind_sign : InfixSign → Option OutOfRange → Option OutOfRange → Option OutOfRange
behind_sign op.Implies here operand = operand
behind_sign op.Explies here operand = first_of operand here
behind_sign _ here operand = first_of here operand
