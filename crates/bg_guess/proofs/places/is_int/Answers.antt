use Rattle.std.proofs.Common.{sym, ap, ◌∙◌}
use Rattle.bg_ast.specs.Values.{is_int}
use Rattle.bg_guess.proofs.places.is_int.Goals as goal

pub returns-in-None : goal.returns-in-None
returns-in-None c = ap is_int (sym c.in-None.ensures.is.1.1)

pub returns-in-Some : goal.returns-in-Some
returns-in-Some c = c.is_int_base.ensures ∙ ap is_int (sym c.in-Some.ensures.is)
