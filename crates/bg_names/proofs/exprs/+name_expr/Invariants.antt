use Rattle.std.proofs.Common.{◌≡◌, map, flat_map, drop, take}
use Rattle.bg_ast.specs.Views.{ex_of, link_view, bracket_view}
use Rattle.bg_names.specs.Faults.{better}
use Rattle.bg_names.specs.Views.{scope_of, first_of, expr_faults, named_expr, link_faults, named_link, bracket_faults, named_bracket}
use Rattle.bg_names.proofs.exprs.+name_expr.Given as goal

abbrev pub invariant-exprs-loop-e : goal.invariant-exprs-loop-e
invariant-exprs-loop-e l =
    (map ex_of l.made.items ≡ map (named_expr (scope_of l.scope)) (take l.e-index l.es))
    × (better (first_of l.notes) (flat_map (expr_faults (scope_of l.scope)) (drop l.e-index l.es)) ≡ better (first_of l.fn.notes) (flat_map (expr_faults (scope_of l.scope)) l.es))

abbrev pub invariant-brackets_behind-loop-b : goal.invariant-brackets_behind-loop-b
invariant-brackets_behind-loop-b l =
    (map bracket_view l.made.items ≡ map (named_bracket (scope_of l.scope)) (take l.b-index l.brackets))
    × (better (first_of l.notes) (flat_map (bracket_faults (scope_of l.scope)) (drop l.b-index l.brackets)) ≡ better (first_of l.fn.notes) (flat_map (bracket_faults (scope_of l.scope)) l.brackets))

abbrev pub invariant-links_behind-loop-l : goal.invariant-links_behind-loop-l
invariant-links_behind-loop-l l =
    (map link_view l.made.items ≡ map (named_link (scope_of l.scope)) (take l.l-index l.links))
    × (better (first_of l.notes) (flat_map (link_faults (scope_of l.scope)) (drop l.l-index l.links)) ≡ better (first_of l.fn.notes) (flat_map (link_faults (scope_of l.scope)) l.links))
