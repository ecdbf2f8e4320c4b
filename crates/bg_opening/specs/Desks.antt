-- What is done to expressions with what is at hand.
use Rattle.std.specs.Prelude.{map}
use Rattle.bg_ast.specs.Resolved as r
use Rattle.bg_ast.specs.Views.{fun_of}
use Rattle.bg_opened.specs.Changed.{opened_within}
use Rattle.bg_opening.specs.declared.exprs.Desk.{Desk}

abbrev pub opened_at : Desk → r.Ex → r.Ex
opened_at d = opened_within d.depth d.globals (map fun_of d.functions.now)
