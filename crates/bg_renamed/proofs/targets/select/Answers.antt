use Rattle.std.proofs.Common.{map, ap, ◌∙◌}
use Rattle.bg_renamed.specs.Views.{env_of, renamed_expr}
use Rattle.bg_renamed.proofs.Writes.{select-is}
use Rattle.bg_renamed.proofs.targets.select.Goals as goal

pub returns : goal.returns
returns c =
    let v = env_of c.args.env.now in
    select-is v c.args.at.now c.in_ok-indices.indices (c.in_ok-indices.ensures ∙ ap (map (renamed_expr v)) c.deref.ensures.value)
