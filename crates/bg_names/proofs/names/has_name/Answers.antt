use Rattle.std.proofs.Common.{sym, ◌∙◌}
use Rattle.bg_names.proofs.Scopes.{any_map}
use Rattle.bg_names.proofs.names.has_name.Goals as goal

pub returns : goal.returns
returns c = c.contains.ensures ∙ sym (any_map c.args.name.now _)
