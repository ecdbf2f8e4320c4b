use Rattle.std.proofs.Common.{◌≡◌, map, take}
use Rattle.bg_ast.specs.Views.{ex_of, link_view, bracket_view}
use Rattle.bg_ast.specs.Views.{fun_of}
use Rattle.bg_opened.specs.Changed.{opening}
use Rattle.bg_opening.specs.Views.{changed_expr, changed_link, changed_bracket}
use Rattle.bg_opening.proofs.passes.+open_expr.Given as goal

abbrev pub invariant-pass_all-loop-e : goal.invariant-pass_all-loop-e
invariant-pass_all-loop-e l = map ex_of l.made.items ≡ map (changed_expr (opening l.known.globals (map fun_of l.known.functions.now))) (take l.e-index l.es)

abbrev pub invariant-pass_brackets-loop-b : goal.invariant-pass_brackets-loop-b
invariant-pass_brackets-loop-b l = map bracket_view l.made.items ≡ map (changed_bracket (opening l.known.globals (map fun_of l.known.functions.now))) (take l.b-index l.brackets)

abbrev pub invariant-pass_links-loop-l : goal.invariant-pass_links-loop-l
invariant-pass_links-loop-l l = map link_view l.made.items ≡ map (changed_link (opening l.known.globals (map fun_of l.known.functions.now))) (take l.l-index l.links)
