use Rattle.std.proofs.Common.{◌≡◌, map, drop}
use Rattle.std.specs.List.{list_any}
use Rattle.bg_ast.specs.Views.{ex_of, link_view, bracket_view, fun_of}
use Rattle.bg_opening.specs.Applied.{applies_some, applies_within, applies_at}
use Rattle.bg_opening.proofs.applies.+applies_expr.Given as goal

abbrev pub invariant-any_applies-loop-e : goal.invariant-any_applies-loop-e
invariant-any_applies-loop-e l = list_any (applies_some (map fun_of l.functions)) (map ex_of (drop l.e-index l.es)) ≡ list_any (applies_some (map fun_of l.functions)) (map ex_of l.es)

abbrev pub invariant-any_bracket_applies-loop-b : goal.invariant-any_bracket_applies-loop-b
invariant-any_bracket_applies-loop-b l = list_any (applies_within (map fun_of l.functions)) (map bracket_view (drop l.b-index l.brackets)) ≡ list_any (applies_within (map fun_of l.functions)) (map bracket_view l.brackets)

abbrev pub invariant-any_link_applies-loop-l : goal.invariant-any_link_applies-loop-l
invariant-any_link_applies-loop-l l = list_any (applies_at (map fun_of l.functions)) (map link_view (drop l.l-index l.links)) ≡ list_any (applies_at (map fun_of l.functions)) (map link_view l.links)
