use Rattle.std.proofs.Common.{◌<◌, arith, length}
use Rattle.std.proofs.lemmas.Grind.{common_steps}
use Rattle.bg_parts.proofs.Builds.{mapped_is}
use Rattle.bg_parts.proofs.types.mapped.Goals as goal

pub returns-in_ok-new-clause-ok : goal.returns-in_ok-new-clause-ok
returns-in_ok-new-clause-ok c = let some : 0 < length c.args.brackets.items = grind (arith, common_steps) in mapped_is c.in_ok-new.field-0 c.args.brackets c.args.ty c.in_ok-new.ensures.ok some
