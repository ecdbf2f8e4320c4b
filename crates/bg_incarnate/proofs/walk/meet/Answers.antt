use Rattle.std.proofs.Common.{sym, ap}
use Rattle.bg_incarnate.specs.Views.{held_env}
use Rattle.bg_incarnate.proofs.Turns.{alone_here}
use Rattle.bg_incarnate.proofs.walk.meet.Goals as goal

pub returns-in-Some-alone-clause-env : goal.returns-in-Some-alone-clause-env
returns-in-Some-alone-clause-env c =
    sym (ap (λ a. a.env) (alone_here _ _ c.in-Some.here c.in-Some-alone.only (held_env c.args.entry.now) c.args.next.now c.in-Some.ensures.items c.in-Some-alone.ensures))

pub returns-in-Some-alone-clause-more : goal.returns-in-Some-alone-clause-more
returns-in-Some-alone-clause-more c =
    sym (ap (λ a. a.next) (alone_here _ _ c.in-Some.here c.in-Some-alone.only (held_env c.args.entry.now) c.args.next.now c.in-Some.ensures.items c.in-Some-alone.ensures))
