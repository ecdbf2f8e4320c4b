use Rattle.std.proofs.Common.{arith}
use Rattle.bg_keep.proofs.Forms.{chain_is}
use Rattle.bg_keep.proofs.clauses.chain.Goals as goal

pub returns : goal.returns
returns c = chain_is c.in_ok-new.field-0 c.args.first c.args.links (omega arith) c.in_ok-new.ensures.ok
