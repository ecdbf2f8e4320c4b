use Rattle.bg_print.proofs.Rows.{sts_doc-in}
use Rattle.bg_print.proofs.Steps.{by_form}
use Rattle.bg_print.proofs.stmts.put_stmts.Goals as goal

pub returns : goal.returns
returns c = by_form _ _ _ _ (sts_doc-in c.args.n c.args.stmts.now) c.in_ok-put_list.ensures
