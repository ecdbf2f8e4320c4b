use Rattle.std.proofs.Common.{◌≡◌, ◌++◌, map, drop}
use Rattle.bg_names.specs.Spaces.{with_names}
use Rattle.bg_resolve.specs.Calls.{once, fun_in, fun_id}
use Rattle.bg_names.specs.Views.{listed}
use Rattle.bg_resolve.proofs.recursion.numbered.Given as goal

abbrev pub invariant-loop-f : goal.invariant-loop-f
invariant-loop-f l =
    record {
      functions : map fun_in l.out.items ++ once (listed l.names) (map fun_in (drop l.f-index l.fs)) ≡ once (listed l.fn.names) (map fun_in l.fs);
      names : with_names (listed l.names) (map fun_id (map fun_in (drop l.f-index l.fs))) ≡ with_names (listed l.fn.names) (map fun_id (map fun_in l.fs));
    }
