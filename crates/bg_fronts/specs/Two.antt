-- Two expressions with a sign between them.
use Rattle.bg_text.specs.declared.expr.InfixSign.{InfixSign}
use Rattle.bg_ast.specs.Syntax.{Ex}
use Rattle.bg_ast.specs.Meaning.{infix_of}

abbrev pub two : InfixSign → Ex → Ex → Ex
two sign a b = infix_of sign a b
