use Rattle.std.proofs.Common.{arith}
use Rattle.bg_cert.proofs.Stacks.{opened_walk, opened_stack}
use Rattle.bg_cert.proofs.walk.open_both.Goals as goal

pub returns-clause-walks : goal.returns-clause-walks
returns-clause-walks c =
    opened_walk c.args.walk.now _ c.len.result c.args.first c.args.second c.requires.is_walk (omega arith) c.requires.fits_second c.in_ok-decide.ensures.sized c.in_ok-push.ensures.items c.in_ok-decide.ensures.decided

pub returns-clause-stack : goal.returns-clause-stack
returns-clause-stack c f =
    opened_stack c.args.walk.now (record { trail = c.decide.new.trail; waiting = c.push.new.self; is_open = c.args.walk.now.is_open }) c.len.result c.args.first c.args.second c.requires.is_walk (omega arith) c.in_ok-push.ensures.items c.in_ok-decide.ensures.decided c.requires.is_open f
