use Rattle.std.proofs.Common.{append-nil, sym, refl}
use Rattle.bg_places.specs.Views.{placed_in}
use Rattle.bg_places.proofs.There.{requires-None, requires-Some}
use Rattle.bg_places.proofs.stmts.push_call.Goals as goal

pub returns-in-None : goal.returns-in-None
returns-in-None c = rw (requires-None c.args.procedures.now c.args.k.now.procedure c.in-None.ensures.lookup.3, append-nil (placed_in c.args.out.now.items)) refl

pub returns-in-Some : goal.returns-in-Some
returns-in-Some c = rw (requires-Some c.args.procedures.now c.args.k.now.procedure c.in-Some.q.now c.in-Some.ensures.lookup.3.0 c.in-Some.ensures.lookup.1, sym c.deref.ensures.value) c.push_checks.ensures
