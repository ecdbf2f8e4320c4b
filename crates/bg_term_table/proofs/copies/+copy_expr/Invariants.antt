use Rattle.std.proofs.Common.{◌≡◌, map, take}
use Rattle.bg_ast.specs.Views.{ex_of, link_view, bracket_view}
use Rattle.bg_term_table.proofs.copies.+copy_expr.Given as goal

abbrev pub invariant-copy_all-loop-e : goal.invariant-copy_all-loop-e
invariant-copy_all-loop-e l = map ex_of l.made.items ≡ map ex_of (take l.e-index l.es)

abbrev pub invariant-copy_brackets-loop-b : goal.invariant-copy_brackets-loop-b
invariant-copy_brackets-loop-b l = map bracket_view l.made.items ≡ map bracket_view (take l.b-index l.brackets)

abbrev pub invariant-copy_links-loop-l : goal.invariant-copy_links-loop-l
invariant-copy_links-loop-l l = map link_view l.made.items ≡ map link_view (take l.l-index l.links)
