use Rattle.bg_atoms.proofs.Joining.{chain_shows}
use Rattle.bg_atoms.proofs.chains.joined.Goals as goal

pub returns : goal.returns
returns c = chain_shows c.args.first c.in_ok-new.field-0 c.args.rest.links c.args.rest.refused c.in_ok-new.ensures.ok
