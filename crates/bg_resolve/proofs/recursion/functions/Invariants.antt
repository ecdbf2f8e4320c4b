use Rattle.std.proofs.Common.{◌≡◌, ◌++◌, map, flat_map, drop}
use Rattle.bg_text.specs.Views as v
use Rattle.bg_resolve.specs.Calls.{funs_of, fun_in}
use Rattle.bg_resolve.proofs.recursion.functions.Given as goal

abbrev pub invariant-loop-d : goal.invariant-loop-d
invariant-loop-d l = map fun_in l.out.items ++ flat_map funs_of (map v.decl_of (drop l.d-index l.decls)) ≡ flat_map funs_of (map v.decl_of l.decls)
