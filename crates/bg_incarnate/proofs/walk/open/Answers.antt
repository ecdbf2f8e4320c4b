use Rattle.std.proofs.Common.{◌<◌, ◌≤◌, length, rules, ◌∙◌}
use Rattle.bg_incarnate.specs.Views.{held_env}
use Rattle.bg_incarnate.proofs.Turns.{grown, one_way, set_open, item_at}
use Rattle.bg_incarnate.proofs.walk.open.Goals as goal

pub loop-alloc-preserved : goal.loop-alloc-preserved
loop-alloc-preserved c =
    let short : length c.loop-alloc.ways.items ≤ c.args.k = search rules in
    λ v. grown c.loop-alloc.ways.items c.push_back.new.self.items c.new.result c.args.k v _ c.in_ok-push_back.ensures.items c.new.ensures.items short (c.loop-alloc.invariant v)

pub returns : goal.returns
returns c =
    let there : c.args.k < length c.loop-alloc.ways.items = search rules in
    let v = held_env c.args.held in
    set_open c.loop-alloc.ways.items c.args.k c.push.new.self c.index_mut.result.now v (item_at c.loop-alloc.ways.items c.args.k c.index_mut.result.now there c.index_mut.ensures.value) (one_way c.index_mut.result.now c.push.new.self c.args.held c.in_ok-push.ensures.items)
    ∙ c.loop-alloc.invariant v
