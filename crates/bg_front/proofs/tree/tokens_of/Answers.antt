use Rattle.bg_front.proofs.Lengths.{items_are_few}
use Rattle.bg_front.proofs.tree.tokens_of.Goals as goal

pub returns-in-Ok-clause-few : goal.returns-in-Ok-clause-few
returns-in-Ok-clause-few c = items_are_few c.args.bytes.now c.in-Ok.tokens.list.items c.in-Ok.ensures.text
