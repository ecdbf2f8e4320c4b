use Rattle.bg_parse.proofs.Sizes.{nodes_most}
use Rattle.bg_parse.proofs.laws.each_node_has_a_token.Goals as goal

pub returns : goal.returns
returns c = nodes_most
