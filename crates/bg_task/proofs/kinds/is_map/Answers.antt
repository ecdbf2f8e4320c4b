use Rattle.std.proofs.Common.{sym, ap}
use Rattle.bg_ast.specs.Values.{is_map}
use Rattle.bg_kinds.specs.Views.{ref_of}
use Rattle.bg_task.proofs.Mapless.{told_base}
use Rattle.bg_task.proofs.kinds.is_map.Goals as goal

pub returns-in-None : goal.returns-in-None
returns-in-None c = ap is_map (sym c.in-None.ensures.is.1.1)

pub returns-in-Some : goal.returns-in-Some
returns-in-Some c = told_base _ (ref_of c.args.t) c.in-Some.ensures.is
