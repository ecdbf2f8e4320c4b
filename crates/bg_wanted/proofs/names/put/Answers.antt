use Rattle.bg_wanted.proofs.Grouping.{held_more, are_more}
use Rattle.bg_wanted.proofs.names.put.Goals as goal

pub returns-clause-scalars : goal.returns-clause-scalars
returns-clause-scalars c =
    λ s value held.
    held_more s c.args.group.now.scalars c.insert.new.self c.args.group.now.numbers.items c.args.number c.args.scalar (λ q. c.in_ok-is_new.ensures.updates.0 q) value held c.put_number.new.numbers.items c.in_ok-is_new.is_new c.in_ok-is_new.ensures.added c.in_ok-put_number.ensures

pub returns-clause-numbers : goal.returns-clause-numbers
returns-clause-numbers c =
    are_more c.args.group.now.numbers.items c.put_number.new.numbers.items c.args.number c.in_ok-is_new.is_new c.in_ok-put_number.ensures
