use Rattle.bg_ast.proofs.Lists.{ex_of-Apply}
use Rattle.bg_term_table.proofs.copies.apply_node.Goals as goal

pub returns : goal.returns
returns c = ex_of-Apply c.args.pos c.args.function c.args.args
