use Rattle.std.proofs.Common.{take, refl}
use Rattle.bg_blocks.specs.Views.{cmd_of}
use Rattle.bg_formed.specs.Views.{form_cmd_of}
use Rattle.bg_model.proofs.Going.{stops, hits, goes, take_rest}
use Rattle.bg_model.proofs.commands.command.Goals as goal

pub returns-in-Stopped : goal.returns-in-Stopped
returns-in-Stopped c =
    let front = c.args.front.now in
    let w = c.min-width.result in
    λ vs p ks rest. stops vs c.args.trial front (cmd_of p c.args.k.now) ks rest c.in_ok-s.s w c.walk.result (take w front.left.now) (c.in_ok-s.ensures p) c.min-width.ensures refl c.walk.ensures c.in-Stopped.is

pub returns-in-Hit : goal.returns-in-Hit
returns-in-Hit c =
    let front = c.args.front.now in
    let w = c.min-width.result in
    λ vs p ks rest. hits vs c.args.trial front (cmd_of p c.args.k.now) ks rest c.in_ok-s.s w c.walk.result (take w front.left.now) (c.in_ok-s.ensures p) c.min-width.ensures refl c.walk.ensures c.in-Hit.is

pub returns : goal.returns
returns c =
    let front = c.args.front.now in
    let w = c.min-width.result in
    λ vs p ks rest. goes vs c.args.trial front (cmd_of p c.args.k.now) ks rest c.in_ok-s.s w c.walk.result (take w front.left.now) (c.in_ok-s.ensures p) c.min-width.ensures refl c.walk.ensures c.in-On.is c.choose.new.made.items _ c.in_ok-first.first _ (c.in_ok-choose.ensures vs) c.in_ok-first.ensures c.in_ok-front.ensures (take_rest form_cmd_of front.left.now w)
