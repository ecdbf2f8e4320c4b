use Rattle.std.proofs.Common.{map, ap}
use Rattle.bg_blocks.specs.Views.{block_of, cmd_of}
use Rattle.bg_incarnate.specs.Views.{cmds_of, held_env}
use Rattle.bg_incarnate.specs.Walked.{open_of}
use Rattle.bg_incarnate.proofs.Turns.{step_passed, step_walked, step_ways}
use Rattle.bg_incarnate.proofs.walk.step.Goals as goal

pub returns-clause-walked : goal.returns-clause-walked
returns-clause-walked c =
    λ p.
    let b = block_of p c.args.b.now in
    let q = step_passed (held_env c.args.entry.now) b (open_of c.args.ways.now.items) c.args.next.now (map (cmd_of p) c.deref.result.now) _ _ (held_env c.in_ok-held.held) _ _ _ _ c.in_ok-held.ensures.env c.in_ok-end.ensures c.in_ok-held.ensures.more (ap (map (cmd_of p)) c.deref.ensures.value) (ap cmds_of c.new-cmds.ensures.items) (c.in_ok-commands.ensures p) in
    step_walked (held_env c.args.entry.now) b (open_of c.args.ways.now.items) c.args.next.now _ _ _ _ _ c.in_ok-held.ensures.env c.in_ok-held.ensures.more q

pub returns-clause-ways : goal.returns-clause-ways
returns-clause-ways c =
    λ p.
    let b = block_of p c.args.b.now in
    let q = step_passed (held_env c.args.entry.now) b (open_of c.args.ways.now.items) c.args.next.now (map (cmd_of p) c.deref.result.now) _ _ (held_env c.in_ok-held.held) _ _ _ _ c.in_ok-held.ensures.env c.in_ok-end.ensures c.in_ok-held.ensures.more (ap (map (cmd_of p)) c.deref.ensures.value) (ap cmds_of c.new-cmds.ensures.items) (c.in_ok-commands.ensures p) in
    step_ways (held_env c.args.entry.now) b (open_of c.args.ways.now.items) _ _ c.args.next.now _ _ _ c.in_ok-open_exit.ensures c.meet.ensures.ways q

pub returns-clause-more : goal.returns-clause-more
returns-clause-more c =
    λ p.
    let b = block_of p c.args.b.now in
    ap (λ d. d.next) (step_passed (held_env c.args.entry.now) b (open_of c.args.ways.now.items) c.args.next.now (map (cmd_of p) c.deref.result.now) _ _ (held_env c.in_ok-held.held) _ _ _ _ c.in_ok-held.ensures.env c.in_ok-end.ensures c.in_ok-held.ensures.more (ap (map (cmd_of p)) c.deref.ensures.value) (ap cmds_of c.new-cmds.ensures.items) (c.in_ok-commands.ensures p))
