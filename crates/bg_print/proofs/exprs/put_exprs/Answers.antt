use Rattle.std.proofs.Common.{false}
use Rattle.bg_print.proofs.Rows.{list_doc-in}
use Rattle.bg_print.proofs.Steps.{by_form}
use Rattle.bg_print.proofs.exprs.put_exprs.Goals as goal

pub returns : goal.returns
returns c = by_form _ _ _ _ (list_doc-in false c.args.es.now) c.in_ok-put_list.ensures
