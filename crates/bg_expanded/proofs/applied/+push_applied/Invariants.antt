use Rattle.std.proofs.Common.{◌≡◌, ◌++◌, drop, map}
use Rattle.bg_ast.specs.Views.{exs_in, link_view, links_of, bracket_view, brackets_of}
use Rattle.bg_expanded.specs.Applied.{applied_in_all, applied_behind, applied_linked}
use Rattle.bg_expanded.proofs.applied.+push_applied.Given as goal

abbrev pub invariant-push_all-loop-e : goal.invariant-push_all-loop-e
invariant-push_all-loop-e l =
    l.out.items ++ applied_in_all l.functions (exs_in (drop l.e-index l.es)) ≡ l.fn.out.items ++ applied_in_all l.functions (exs_in l.es)

abbrev pub invariant-push_behind-loop-bracket : goal.invariant-push_behind-loop-bracket
invariant-push_behind-loop-bracket l =
    l.out.items ++ applied_behind l.functions (brackets_of (map bracket_view (drop l.bracket-index l.brackets)))
    ≡ l.fn.out.items ++ applied_behind l.functions (brackets_of (map bracket_view l.brackets))

abbrev pub invariant-push_linked-loop-link : goal.invariant-push_linked-loop-link
invariant-push_linked-loop-link l =
    l.out.items ++ applied_linked l.functions (links_of (map link_view (drop l.link-index l.links)))
    ≡ l.fn.out.items ++ applied_linked l.functions (links_of (map link_view l.links))
