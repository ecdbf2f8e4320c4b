use Rattle.std.proofs.Common.{map, ap, ◌∙◌}
use Rattle.bg_renamed.specs.Views.{env_of, renamed_expr}
use Rattle.bg_renamed.proofs.Writes.{updated-is}
use Rattle.bg_renamed.proofs.targets.updated.Goals as goal

pub returns : goal.returns
returns c =
    let v = env_of c.args.env.now in
    updated-is v c.in_ok-new.field-0 c.args.first c.in_ok-behind.behind.items c.push.new.self c.args.before.now c.args.at.now c.in_ok-indices.indices c.args.value c.in_ok-new.ensures.ok c.in_ok-behind.ensures c.in_ok-push.ensures.items (c.in_ok-indices.ensures ∙ ap (map (renamed_expr v)) c.deref.ensures.value)
