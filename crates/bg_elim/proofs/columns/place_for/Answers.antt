use Rattle.std.proofs.Common.{rules}
use Rattle.bg_elim.proofs.Lists.{place_kept}
use Rattle.bg_elim.proofs.columns.place_for.Goals as goal

pub returns-clause-keeps : goal.returns-clause-keeps
returns-clause-keeps c = λ y q h. place_kept c.args.places.now c.insert.new.self c.args.x _ y q (search rules) (c.in_ok-insert.ensures.updates.0 y) h
