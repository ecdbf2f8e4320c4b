use Rattle.std.proofs.Common.{◌≡◌, drop, map, replicate, length, false}
use Rattle.bg_ast.specs.Views.{impl_of, proc_of}
use Rattle.bg_guess.specs.Calls.{mark_called, mark_implemented, above_procs, above_impls}
use Rattle.bg_guess.proofs.calls.search_all.Given as goal

abbrev pub invariant-loop-m : goal.invariant-loop-m
invariant-loop-m l = record {
  called : mark_called (map impl_of (drop l.m-index l.implementations)) l.called.items ≡ mark_called (map impl_of l.implementations) (replicate (length l.procedures) false);
  implemented : mark_implemented (map impl_of (drop l.m-index l.implementations)) l.implemented.items ≡ mark_implemented (map impl_of l.implementations) (replicate (length l.procedures) false);
  above : above_impls l.above (map impl_of (drop l.m-index l.implementations)) ≡ above_impls (above_procs 0 (map proc_of l.procedures)) (map impl_of l.implementations);
}
