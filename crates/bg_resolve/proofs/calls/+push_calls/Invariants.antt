use Rattle.std.proofs.Common.{◌≡◌, ◌++◌, flat_map, drop}
use Rattle.bg_resolve.specs.Calls.{tree_calls, link_calls, bracket_calls}
use Rattle.bg_names.specs.Views.{listed}
use Rattle.bg_resolve.proofs.calls.+push_calls.Given as goal

abbrev pub invariant-of_exprs-loop-e : goal.invariant-of_exprs-loop-e
invariant-of_exprs-loop-e l = l.out.items ++ flat_map (tree_calls (listed l.functions)) (drop l.e-index l.es) ≡ l.fn.out.items ++ flat_map (tree_calls (listed l.functions)) l.es

abbrev pub invariant-of_brackets-loop-b : goal.invariant-of_brackets-loop-b
invariant-of_brackets-loop-b l = l.out.items ++ flat_map (bracket_calls (listed l.functions)) (drop l.b-index l.bs) ≡ l.fn.out.items ++ flat_map (bracket_calls (listed l.functions)) l.bs

abbrev pub invariant-of_links-loop-l : goal.invariant-of_links-loop-l
invariant-of_links-loop-l l = l.out.items ++ flat_map (link_calls (listed l.functions)) (drop l.l-index l.ls) ≡ l.fn.out.items ++ flat_map (link_calls (listed l.functions)) l.ls
