use Rattle.std.proofs.Common.{subst}
use Rattle.bg_wanted.specs.Alike.{AreMore}
use Rattle.bg_wanted.proofs.Grouping.{held_none}
use Rattle.bg_wanted.proofs.names.of_one.Goals as goal

pub returns-clause-scalars : goal.returns-clause-scalars
returns-clause-scalars c =
    λ s value. c.in_ok-put.ensures.scalars s value (held_none s _ _ c.new-2.ensures.empty c.new.ensures.items)

pub returns-clause-numbers : goal.returns-clause-numbers
returns-clause-numbers c = subst (λ js. AreMore js c.args.number c.put.new.group.numbers.items) c.new.ensures.items c.in_ok-put.ensures.numbers
