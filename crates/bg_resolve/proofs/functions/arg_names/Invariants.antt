use Rattle.std.proofs.Common.{◌≡◌, ◌++◌, map, flat_map, drop}
use Rattle.bg_text.specs.Views as v
use Rattle.bg_names.specs.Views.{id_in}
use Rattle.bg_resolve.specs.Program.{arg_ids}
use Rattle.bg_resolve.proofs.functions.arg_names.Given as goal

abbrev pub invariant-loop-a : goal.invariant-loop-a
invariant-loop-a l = map id_in l.out.items ++ flat_map arg_ids (map v.fun_arg_of (drop l.a-index l.args)) ≡ flat_map arg_ids (map v.fun_arg_of l.args)
