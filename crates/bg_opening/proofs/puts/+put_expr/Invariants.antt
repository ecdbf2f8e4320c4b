use Rattle.std.proofs.Common.{◌≡◌, map, take}
use Rattle.bg_ast.specs.Views.{ex_of, link_view, bracket_view}
use Rattle.bg_ast.specs.Views.{exs_in}
use Rattle.bg_opened.specs.Changed.{putting}
use Rattle.bg_opening.specs.Views.{changed_expr, changed_link, changed_bracket}
use Rattle.bg_opening.proofs.puts.+put_expr.Given as goal

abbrev pub invariant-put_all-loop-e : goal.invariant-put_all-loop-e
invariant-put_all-loop-e l = map ex_of l.made.items ≡ map (changed_expr (putting (exs_in l.xs))) (take l.e-index l.es)

abbrev pub invariant-put_brackets-loop-b : goal.invariant-put_brackets-loop-b
invariant-put_brackets-loop-b l = map bracket_view l.made.items ≡ map (changed_bracket (putting (exs_in l.xs))) (take l.b-index l.brackets)

abbrev pub invariant-put_links-loop-l : goal.invariant-put_links-loop-l
invariant-put_links-loop-l l = map link_view l.made.items ≡ map (changed_link (putting (exs_in l.xs))) (take l.l-index l.links)
