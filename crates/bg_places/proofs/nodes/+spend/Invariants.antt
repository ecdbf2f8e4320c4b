use Rattle.std.proofs.Common.{◌≡◌, ◌-◌, drop, map}
use Rattle.bg_ast.specs.Views.{exs_in, link_view, links_of, bracket_view, brackets_of}
use Rattle.bg_places.specs.Counts.{nodes_of, nodes_behind, nodes_linked}
use Rattle.bg_places.proofs.nodes.+spend.Given as goal

abbrev pub invariant-spend_all-loop-e : goal.invariant-spend_all-loop-e
invariant-spend_all-loop-e l = l.rest - nodes_of (exs_in (drop l.e-index l.es)) ≡ l.left - nodes_of (exs_in l.es)

abbrev pub invariant-spend_behind-loop-bracket : goal.invariant-spend_behind-loop-bracket
invariant-spend_behind-loop-bracket l =
    l.rest - nodes_behind (brackets_of (map bracket_view (drop l.bracket-index l.brackets))) ≡ l.left - nodes_behind (brackets_of (map bracket_view l.brackets))

abbrev pub invariant-spend_linked-loop-link : goal.invariant-spend_linked-loop-link
invariant-spend_linked-loop-link l =
    l.rest - nodes_linked (links_of (map link_view (drop l.link-index l.links))) ≡ l.left - nodes_linked (links_of (map link_view l.links))
