use Rattle.std.proofs.Common.{◌≡◌, map, take}
use Rattle.bg_ast.specs.Views.{ex_of, link_view, bracket_view}
use Rattle.bg_renamed.specs.Views.{env_of, renamed_expr, renamed_link, renamed_bracket}
use Rattle.bg_renamed.proofs.exprs.+rename_expr.Given as goal

abbrev pub invariant-exprs-loop-e : goal.invariant-exprs-loop-e
invariant-exprs-loop-e l = map ex_of l.made.items ≡ map (renamed_expr (env_of l.env)) (take l.e-index l.es)

abbrev pub invariant-brackets_behind-loop-b : goal.invariant-brackets_behind-loop-b
invariant-brackets_behind-loop-b l = map bracket_view l.made.items ≡ map (renamed_bracket (env_of l.env)) (take l.b-index l.brackets)

abbrev pub invariant-links_behind-loop-l : goal.invariant-links_behind-loop-l
invariant-links_behind-loop-l l = map link_view l.made.items ≡ map (renamed_link (env_of l.env)) (take l.l-index l.links)
