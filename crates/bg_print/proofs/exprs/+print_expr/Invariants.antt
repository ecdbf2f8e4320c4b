use Rattle.std.proofs.Common.{◌≡◌, ◌++◌, drop}
use Rattle.bg_print.specs.Docs.{text, each, commas, commas_from}
use Rattle.bg_print.specs.Rows.{expr_doc, tree_bracket_doc, link_doc}
use Rattle.bg_print.proofs.exprs.+print_expr.Given as goal

abbrev pub invariant-put_brackets-loop-bracket : goal.invariant-put_brackets-loop-bracket
invariant-put_brackets-loop-bracket l = l.out.items ++ text (each tree_bracket_doc (drop l.bracket-index l.brackets)) ≡ l.fn.out.items ++ text (each tree_bracket_doc l.brackets)

abbrev pub invariant-put_links-loop-link : goal.invariant-put_links-loop-link
invariant-put_links-loop-link l = l.out.items ++ text (each link_doc (drop l.link-index l.links)) ≡ l.fn.out.items ++ text (each link_doc l.links)

abbrev pub invariant-put_list-loop-e : goal.invariant-put_list-loop-e
invariant-put_list-loop-e l = l.out.items ++ text (commas_from l.behind expr_doc (drop l.e-index l.es)) ≡ l.fn.out.items ++ text (commas expr_doc l.es)
