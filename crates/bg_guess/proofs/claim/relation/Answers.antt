use Rattle.std.proofs.Common.{ap}
use Rattle.bg_ast.specs.Views.{ex_of}
use Rattle.bg_guess.proofs.Forms.{chain_is}
use Rattle.bg_guess.proofs.claim.relation.Goals as goal

pub returns : goal.returns
returns c = chain_is c.in_ok-first.first c.push.new.self _ _ _ (ap ex_of c.in_ok-first.ensures.ok) c.in_ok-push.ensures.items c.new-links.ensures.items
