use Rattle.std.proofs.Common.{◌≡◌, ◌++◌, drop, false}
use Rattle.bg_print.specs.Docs.{text, each}
use Rattle.bg_print.specs.Rows.{stmt_doc, tree_arms_from}
use Rattle.bg_print.proofs.stmts.+print_stmt.Given as goal

abbrev pub invariant-put_list-loop-stmt : goal.invariant-put_list-loop-stmt
invariant-put_list-loop-stmt l = l.out.items ++ text (each (stmt_doc l.n) (drop l.stmt-index l.stmts)) ≡ l.fn.out.items ++ text (each (stmt_doc l.n) l.stmts)

abbrev pub invariant-put_arms-loop-arm : goal.invariant-put_arms-loop-arm
invariant-put_arms-loop-arm l = l.out.items ++ text (tree_arms_from l.behind l.n (drop l.arm-index l.arms)) ≡ l.fn.out.items ++ text (tree_arms_from false l.n l.arms)
