use Rattle.std.proofs.Common.{sym, ◌∙◌}
use Rattle.bg_names.proofs.Scopes.{place_texts}
use Rattle.bg_names.proofs.names.place.Goals as goal

pub returns : goal.returns
returns c = c.get_index_of.ensures.index ∙ sym (place_texts c.args.name.now _)
